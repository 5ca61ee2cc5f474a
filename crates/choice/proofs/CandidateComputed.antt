-- What the code computes for an apex is the candidate at that apex.
use Prim.Native.Nat.{ℕ, suc, ◌+◌, ◌-◌, ◌≤◌, ◌<◌}
use mathlib.Core.Bool.{Bool, cond}
use mathlib.Core.List.{List}
use mathlib.Core.Option.{Option, none, some}
use mathlib.Core.Path.{◌≡◌, refl, sym, ap, ap₂, ◌∙◌}
use native.Mathlib.Omega.{arith}
use Rattle.quality.specs.declared.Quality.{Quality}
use Rattle.quality.specs.Quality.{worst}
use Rattle.rows.specs.RowMeasure.{row_quality}
use Rattle.ring.specs.Ring.{Site, m}
use Rattle.candidates.specs.declared.Bipyramid.{Bipyramid}
use Rattle.kept_faces.specs.declared.Rim.{Rim}
use Rattle.candidates.specs.declared.Side.{Side}
use Rattle.triangulation.specs.Triangulation.{v, two_rows}
use Rattle.triangulation.specs.Admissible.{kept_uses, triangle_face}
use Rattle.triangulation.specs.Steps.{triangle_worst, beside, candidate, keep, leading}
use Rattle.kept_faces.specs.Steps.{used_by, OnRim, end_a, end_b, ring_point, SiteRim}
use Rattle.candidates.specs.Steps.{beside_of, worst_over, candidate_over, read_side, two_over}
use Rattle.choice.specs.Steps.{KnownIn, Smaller}
use Rattle.cells.specs.declared.Table.{Table}
use Rattle.cells.specs.Steps.{best_in}
use Rattle.choice.proofs.SideKnown.{side_is}

-- one apex more
pub step_is : (candidates : ℕ → Option Quality) (i k : ℕ) {found taken : Option (ℕ × Quality)} {at : Option Quality}
    → i < k
    → found ≡ leading candidates (suc i) (k - suc i)
    → at ≡ candidates k
    → taken ≡ keep found k at
    → taken ≡ leading candidates (suc i) (k + 1 - suc i)
unfolding leading
step_is candidates i k h f e t =
    let more : k + 1 - suc i ≡ suc (k - suc i) = omega arith in
    let there : suc i + (k - suc i) ≡ k = omega arith in
    t ∙ ap₂ (λ o c. keep o k c) f e ∙ sym (rw (more, there))

module _ {site : Site} {coordinates : List ℕ} {rim : Rim} {keys : List ℕ} (given : SiteRim site coordinates rim keys)
    {i k j : ℕ} (start : 1 ≤ i) (low : i < k) (high : k < j) (end : j ≤ m site) where
  abbrev rows : Bipyramid
  rows = two_over rim i k j

  x_is : rows.x ≡ v site i
  x_is = given.v i start (omega arith)

  y_is : rows.y ≡ v site k
  y_is = given.v k (omega arith) (omega arith)

  z_is : rows.z ≡ v site j
  z_is = given.v j (omega arith) end

  on_x : OnRim site (v site i)
  on_x = ring_point i start (omega arith)

  on_y : OnRim site (v site k)
  on_y = ring_point k (omega arith) (omega arith)

  on_z : OnRim site (v site j)
  on_z = ring_point j (omega arith) end

  worst_is_lem : worst_over coordinates rows ≡ triangle_worst site i k j
  unfolding worst_over triangle_worst worst two_rows row_quality
  worst_is_lem =
      rw (
        given.a,
        given.b,
        x_is,
        y_is,
        z_is,
        given.places end_a,
        given.places end_b,
        given.places on_x,
        given.places on_y,
        given.places on_z,
      )

  used_is : used_by keys (rows.x, rows.y, rows.z) ≡ kept_uses site (triangle_face site (i, k, j))
  used_is = rw (x_is, y_is, z_is) (given.uses on_x on_y on_z)

  pub candidate_is : (table : Table) (used : List Bool) → Smaller site table used i j
      → candidate_over coordinates keys rows (read_side table used i k) (read_side table used k j)
      ≡ candidate site (best_in table) i k j
  unfolding candidate_over candidate
  candidate_is table used smaller =
      ap₂ (λ u s. cond u none s) used_is
      (ap over (ap (beside_of left) worst_is_lem ∙ side_is table used i k site (triangle_worst site i k j) left_known)
      ∙ sides (beside site kept i k (triangle_worst site i k j)))
    where
      left : Side
      left = read_side table used i k

      right : Side
      right = read_side table used k j

      kept : ℕ → ℕ → Option Quality
      kept = best_in table

      over : Option Quality → Option Quality
      over o = elim o [ none ↦ none | some q ↦ beside_of right q ]

      left_known : i + 2 ≤ k → KnownIn site table used i k
      left_known h = smaller i k (omega arith) (omega arith) h (omega arith)

      right_known : k + 2 ≤ j → KnownIn site table used k j
      right_known h = smaller k j (omega arith) (omega arith) h (omega arith)

      sides : (o : Option Quality) → over o ≡ elim o [ none ↦ none | some q ↦ beside site kept k j q ]
      sides none = refl
      sides (some q) = side_is table used k j site q right_known
