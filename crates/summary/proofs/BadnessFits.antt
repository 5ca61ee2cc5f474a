-- The sum of badness fits in 64 bits: over the rows of a block, and over 6,000 rows.
-- Idea: S³ is at most 1728·255⁶, and where D is not 0, 432·D² is 432 at least; so a badness is at most 4·255⁶.
use Prim.Native.Nat.{ℕ, ◌*◌, ◌^◌, ◌≤◌, ◌<◌}
use mathlib.Core.Bool.{Bool, true, false}
use mathlib.Core.List.Memᴰ
use mathlib.Core.List.{List, map}
use mathlib.Core.Path.{◌≡◌, refl, ap, subst}
use native.Mathlib.Nat.{mul-le-mul_right}
use native.Mathlib.Omega.{arith}
use lib.Dec.{T}
use lib.ListN.{length, length-map}
use Rattle.lists.specs.Lists.{count, every}
use Rattle.lists.proofs.Counts.{count_most}
use Rattle.lists.proofs.Tests.{is_yes, is_no}
use Rattle.volume.specs.Steps.{largest_byte}
use Rattle.volume.specs.Volume.{points_in}
use Rattle.quality.specs.declared.Quality.{Quality}
use Rattle.quality.specs.Quality.{quality_factor, is_upright}
use Rattle.score.specs.Score.{badness, added, total_badness}
use Rattle.quality.proofs.QualityBounds.{Small}
use Rattle.quality.proofs.ConsistentQualities.{Consistent, upright_size, upright_not_flat}
use Rattle.score.proofs.BadnessLeast.{badness_other, badness_within}
use Rattle.score.proofs.OctaveLargest as Octaves
use Rattle.rows.specs.RowMeasure.{row_quality}
use Rattle.rows.specs.declared.Row.{Row}
use Rattle.rows.proofs.ProperRows.{row_proper}
use Rattle.layout.specs.Within.{is_byte}
use Rattle.tally.proofs.RowsInBytes.{row_small}

-- the bound of badness: (12·255²)³ / 432
abbrev pub badness_limit : ℕ
badness_limit = 4 * largest_byte ^ 6

pub badness_most : (q : Quality) → Consistent q → Small q → added (badness q) ≤ badness_limit
badness_most q proper small = go (is_upright q) refl
  where
    go : (b : Bool) → is_upright q ≡ b → added (badness q) ≤ badness_limit
    go true e =
        let u : T (is_upright q) = is_yes (is_upright q) e in
        badness_within q u (upright_size q proper u) badness_limit quality_factor (small.num_least (upright_not_flat q u)) small.den_most
    go false e = omega (arith, ap added (badness_other q (is_no (is_upright q) e)))

module _ (coordinates : List ℕ) (bytes : T (every is_byte coordinates)) (points : ℕ) (rows : List Row) where
  abbrev quality : Row → Quality
  quality = row_quality (points_in coordinates points)

  pub qualities_rows : Octaves.Rows badness_limit (map quality rows)
  qualities_rows = record {
    consistent = λ q m. let (row, i, same) = Memᴰ.of_map quality rows m in subst Consistent same (row_proper _ row);
    bounded = λ q m. let (row, i, same) = Memᴰ.of_map quality rows m in
        subst (λ r. added (badness r) ≤ badness_limit) same
        (badness_most (quality row) (row_proper _ row) (row_small coordinates bytes points row));
  }

  -- 6,000 rows are as many as 100 full blocks have
  pub total_fits : length rows ≤ 6000 → total_badness (map quality rows) < 2 ^ 63
  total_fits few =
      let qs = map quality rows in
      let most = count_most is_upright qs in
      let all = length-map rows quality in
      let bound = (Octaves.total_bounds badness_limit qs qualities_rows).1 in
      omega (arith, mul-le-mul_right {m = count is_upright qs} {n = 6000} badness_limit (omega arith))
