-- Any kernel that meets demand 2 shows what is near the exact fractions: a row's quality is small and proper, so what is shown of it is near,
-- and the worst of a patch is a row's quality.
use Prim.Native.Nat.{ℕ}
use mathlib.Core.List.{List}
use mathlib.Core.Path.{◌≡◌, refl, ap, ◌∙◌}
use native.Mathlib.Omega.{arith}
use lib.Dec.{T}
use lib.ListN.{get_or}
use Rattle.lists.specs.Lists.{every}
use Rattle.quality.specs.declared.Quality.{Quality}
use Rattle.quality.proofs.QualityBounds.{num_below_59, den_below_59}
use Rattle.page.specs.Near.{ShownNear}
use Rattle.page.specs.Page.{plus_zero, shown, signed_size, page_row}
use Rattle.page.proofs.NearlyExact.{shown_near}
use Rattle.rows.specs.declared.Row.{Row}
use Rattle.rows.specs.Rows.{rows_at, no_row}
use Rattle.rows.specs.RowMeasure.{row_quality}
use Rattle.rows.proofs.ProperRows.{row_proper}
use Rattle.layout.specs.Layout.{Patch, points_at, point_count, coordinates_of, fields_of}
use Rattle.layout.specs.Within.{is_byte}
use Rattle.layout.proofs.BytesOfSlices.{part_bytes_lem}
use Rattle.tally.specs.Tally.{worst_of_patch}
use Rattle.tally.proofs.RowsInBytes.{row_small, worst_has}
use Rattle.display.proofs.ElementsInOrder.{element_shown}
use Rattle.demands.specs.Kernels.{Kernel}
use Rattle.demands.specs.Demands.{Demand2}
use Rattle.demands.specs.NearlyExact.{ShowsNear}

-- what is shown of q is near it
abbrev Shows : Quality → Type 0
Shows q = ShownNear q (signed_size (shown q))

module _ (block : List ℕ) (bytes : T (every is_byte block)) where
  row_near : (row : Row) → Shows (row_quality (fields_of block).points row)
  unfolding fields_of
  row_near row =
      let q = row_quality (fields_of block).points row in
      let small = row_small (coordinates_of block) (part_bytes_lem points_at rows_at block bytes) (point_count block) row in
      shown_near q (omega (arith, num_below_59 q small)) (omega (arith, den_below_59 q small)) (row_proper _ row).fraction.over

  -- of a patch with the block's points
  worst_near : (patch : Patch) → patch.points ≡ (fields_of block).points → Shows (worst_of_patch patch)
  unfolding shown
  worst_near patch same = worst_has Shows patch refl (λ row. rw same (row_near row))

pub near_shown : (k : Kernel) → Demand2 k → ShowsNear k
unfolding page_row
near_shown k meets = record {
  rows = λ block out bytes right size i h.
      let its = ap (λ given. get_or given.1 i plus_zero) (meets.shown block out right size) ∙ element_shown (fields_of block) i h in
      rw its (row_near block bytes (get_or (fields_of block).rows i no_row));
  page = λ block out e f bytes done.
      let removed = meets.remove block out e f done in (
        _,
        removed.page,
        worst_near block bytes (fields_of block) refl,
        worst_near block bytes (fields_of (k.remove block out e f).1) removed.accepted.points,
      );
}
