-- `best_at` reads a cell by its kind: 0 is the mark, and everything over 2 is upright.
use mathlib.Core.Option.{some}
use mathlib.Core.Path.{sym, ap, ◌∙◌}
use native.Mathlib.Omega.{arith}
use Rattle.cells.specs.Steps.{read_best}
use Rattle.cells.proofs.CellsRead.{read_upright}
use Rattle.cells.proofs.Table.best_at.Goals as goal

pub returns-in-0 : goal.returns-in-0
unfolding read_best
returns-in-0 c = rw c.in-0.is

pub returns-in-1 : goal.returns-in-1
unfolding read_best
returns-in-1 c = rw (c.in-1.is, c.of_parts.ensures)

pub returns-in-2 : goal.returns-in-2
unfolding read_best
returns-in-2 c = rw (c.in-2.is, c.of_parts-in-2.ensures)

pub returns-in_default : goal.returns-in_default
returns-in_default c =
    ap some c.of_parts-in_default.ensures ∙ sym (read_upright _ _ _ (omega arith) (omega arith) (omega arith))
