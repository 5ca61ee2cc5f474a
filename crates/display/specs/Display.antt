-- Requirement §4.4 and §10: the one shown quality that the page gets for any row, for all rows of a block.
use Rattle.std.specs.Prelude.{ℕ, ◌-◌, cond, List, ◌++◌, map, eqb, Float, length, replicate}
use Rattle.volume.specs.declared.Point.{Point}
use Rattle.page.specs.declared.Shown.{Shown}
use Rattle.page.specs.Page.{plus_zero, shown, signed_size}
use Rattle.rows.specs.declared.Row.{Row}
use Rattle.rows.specs.RowMeasure.{row_quality}
use Rattle.layout.specs.Layout.{Patch, max_rows, fields_of}
use Rattle.block.specs.Opening.{open_answer}

-- 1 for an output that has not one element for each row that a block can have, before anything in the block; else the answer of opening
unfoldable pub shown_answer : List ℕ → List Float → ℕ
shown_answer block out = cond (eqb (length out) max_rows) (open_answer block) 1

-- for any row the page also gets one shown quality
abbrev pub row_shown : List Point → Row → Shown
row_shown points row = shown (row_quality points row)

-- the shown quality of each row, in their order, as an f64 with its sign
abbrev pub shown_sizes : Patch → List Float
shown_sizes patch = map (λ row. signed_size (row_shown patch.points row)) patch.rows

-- all elements: those of the rows, and zeros behind them up to 60
unfoldable pub shown_of : Patch → List Float
shown_of patch = shown_sizes patch ++ replicate (max_rows - length patch.rows) plus_zero

-- each element of the output afterwards: with a refusal it stays as it came
unfoldable pub shown_elements : List ℕ → List Float → List Float
shown_elements block out = cond (eqb (shown_answer block out) 0) (shown_of (fields_of block)) out
