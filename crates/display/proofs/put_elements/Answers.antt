-- The invariant of `put_elements`: the elements before i are written, and the output's own stand from there on.
use mathlib.Core.Path.{◌≡◌}
use native.Mathlib.Omega.{arith}
use Rattle.rows.proofs.RowsOfTables.{rows_length}
use Rattle.layout.specs.Layout.{max_rows}
use Rattle.tally.specs.Patches.{patch_of}
use Rattle.display.proofs.ElementsInOrder.{one_more, all_written}
use Rattle.display.proofs.put_elements.Goals as goal

pub loop-i-preserved : goal.loop-i-preserved
loop-i-preserved c =
    let a = c.args in
    let patch = patch_of a.rows.now in
    cc (one_more patch (omega (arith, rows_length a.rows.now.table.now a.rows.now.n)) a.out.now c.requires.1 c.loop-i.i (omega arith))

pub returns : goal.returns
returns c =
    let a = c.args in
    let patch = patch_of a.rows.now in
    let e : c.loop-i.i ≡ max_rows = omega arith in
    cc (e, all_written patch (omega (arith, rows_length a.rows.now.table.now a.rows.now.n)) a.out.now c.requires.1)
