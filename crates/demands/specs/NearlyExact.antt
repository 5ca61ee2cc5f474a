-- Requirement §4.4 as a statement about any kernel: each f64 that the page gets lies within 2^-51 of the exact fraction, with its sign.
use Rattle.std.specs.Prelude.{ℕ, ◌<◌, List, ◌≡◌, T, Float, length, get_or, Ok}
use Rattle.lists.specs.Lists.{every}
use Rattle.page.specs.Page.{plus_zero}
use Rattle.page.specs.Near.{ShownNear}
use Rattle.rows.specs.Rows.{no_row}
use Rattle.rows.specs.RowMeasure.{row_quality}
use Rattle.layout.specs.Layout.{max_rows, fields_of}
use Rattle.layout.specs.Within.{is_byte}
use Rattle.block.specs.Holding.{RightBlock}
use Rattle.tally.specs.Tally.{worst_of_patch}
use Rattle.calls.specs.declared.Removed.{Removed}
use Rattle.demands.specs.Kernels.{Kernel, removes}

-- In a block of bytes: element i of what is shown is near the quality of row i; and of a removal that is done, both sizes of the page row are
-- near the worst quality before and the worst afterwards. Which row is the worst is decided by the exact order.
pub record ShowsNear (k : Kernel) : Type 0 where
  pub rows : (block : List ℕ) (out : List Float) → T (every is_byte block) → RightBlock block → length out ≡ max_rows
      → (i : ℕ) → i < length (fields_of block).rows
      → ShownNear (row_quality (fields_of block).points (get_or (fields_of block).rows i no_row)) (get_or (k.shown block out).1 i plus_zero)
  pub page : (block out : List ℕ) (e f : ℕ) → T (every is_byte block) → removes k block out e f ≡ 0
      → (removed : Removed) × ((k.remove block out e f).0 ≡ Ok removed)
      × ShownNear (worst_of_patch (fields_of block)) removed.page.before
      × ShownNear (worst_of_patch (fields_of (k.remove block out e f).1)) removed.page.after
