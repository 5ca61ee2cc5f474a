-- A row of the table is measured and shown; behind the rows there is nothing to show.
use mathlib.Core.Path.{sym}
use lib.Ieee.{of_bits}
use Rattle.display.proofs.ElementsInOrder.{table_shown, table_zero}
use Rattle.display.proofs.element.Goals as goal

pub returns-then-rows-i : goal.returns-then-rows-i
unfolding of_bits
returns-then-rows-i c = sym (table_zero c.args.rows.now c.args.i c.if-rows-i.true)

pub returns : goal.returns
returns c =
    table_shown c.args.rows.now c.args.i c.if-rows-i.false _ _ _
    c.quality.ensures c.of.ensures.value c.signed.ensures
