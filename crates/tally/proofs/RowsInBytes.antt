-- Where the coordinates are bytes every row's quality is small; and what each row's quality has, the worst of a patch has.
use Prim.Native.Nat.{ℕ, ◌+◌, ◌*◌, ◌<◌}
use mathlib.Core.List.Memᴰ
use mathlib.Core.List.{List}
use mathlib.Core.Option.{Option, none, some, get_or}
use mathlib.Core.Path.{◌≡◌, refl, sym, subst}
use native.Mathlib.Decide.{dec_lt}
use native.Mathlib.Omega.{arith}
use lib.Dec.{T}
use lib.ListN.{get_or-eq_default}
use Rattle.lists.specs.Lists.{every}
use Rattle.volume.specs.declared.Point.{Point}
use Rattle.volume.specs.Steps.{largest_byte}
use Rattle.volume.specs.Volume.{point_in, points_in}
use Rattle.volume.proofs.PointsInBytes.{points_length, points_at_lem}
use Rattle.volume.proofs.VolumeBounds.{CoordinatesTo}
use Rattle.quality.specs.declared.Quality.{Quality}
use Rattle.quality.specs.Quality.{worst, zero_quality}
use Rattle.quality.proofs.QualityBounds.{Small, quality_small}
use Rattle.quality.proofs.WorstAndBest.{worst_is_lem}
use Rattle.rows.specs.declared.Row.{Row}
use Rattle.rows.specs.RowMeasure.{no_point, place, row_quality}
use Rattle.rows.proofs.ProperRows.{rows_fractions}
use Rattle.layout.specs.Layout.{Patch}
use Rattle.layout.specs.Within.{is_byte}
use Rattle.layout.proofs.BytesOfSlices.{byte_most}
use Rattle.tally.specs.Tally.{qualities, worst_of_patch}

module _ (coordinates : List ℕ) (bytes : T (every is_byte coordinates)) (count : ℕ) where
  abbrev points : List Point
  points = points_in coordinates count

  point_within : (n : ℕ) → CoordinatesTo largest_byte (point_in coordinates n)
  unfolding point_in
  point_within n = record {
    x_most = byte_most coordinates bytes (3 * n + 0);
    y_most = byte_most coordinates bytes (3 * n + 1);
    z_most = byte_most coordinates bytes (3 * n + 2);
  }

  -- a place is one of bytes, also where there is no point
  pub place_within : (n : ℕ) → CoordinatesTo largest_byte (place points n)
  place_within n = go (dec_lt n count)
    where
      go : Dec (n < count) → CoordinatesTo largest_byte (place points n)
      go (yes l) = subst (CoordinatesTo largest_byte) (sym (points_at_lem coordinates count n no_point l)) (point_within n)
      go (no l) =
          subst (CoordinatesTo largest_byte)
          (sym (get_or-eq_default points no_point (omega (arith, points_length coordinates count))))
          (record { x_most = omega arith; y_most = omega arith; z_most = omega arith })

  pub row_small : (row : Row) → Small (row_quality points row)
  unfolding row_quality
  row_small row =
      let at = place points in
      quality_small (at row.p) (at row.q) (at row.r) (at row.s)
      (place_within row.p) (place_within row.q) (place_within row.r) (place_within row.s)

-- the worst of a patch has what each row's quality has, and the zero quality, which stands where there are no rows
pub worst_has : (P : Quality → Type 0) (patch : Patch) → P zero_quality → ((row : Row) → P (row_quality patch.points row))
    → P (worst_of_patch patch)
worst_has P patch zero each = go (worst (qualities patch)) refl
  where
    go : (o : Option Quality) → worst (qualities patch) ≡ o → P (get_or o zero_quality)
    go none e = zero
    go (some q) e =
        let found = worst_is_lem (qualities patch) (rows_fractions patch.points patch.rows) e in
        let (row, i, same) = Memᴰ.of_map (row_quality patch.points) patch.rows found.inside in
        subst P same (each row)
