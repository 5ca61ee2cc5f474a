-- `put_row` stores the five bytes of a row next to one another, the last of them by the version of the block.
use native.Mathlib.Omega.{arith}
use lib.ListN.{length-set}
use Rattle.rows.proofs.PastedRows.{with_one_lem}
use Rattle.rows.proofs.put_row.Goals as goal

pub bounds-table-at-2 : goal.bounds-table-at-2
bounds-table-at-2 c = simp length-set (omega arith)

pub bounds-table-at-3 : goal.bounds-table-at-3
bounds-table-at-3 c = simp length-set (omega arith)

pub bounds-table-at-4 : goal.bounds-table-at-4
bounds-table-at-4 c = simp length-set (omega arith)

pub bounds-table-at-5 : goal.bounds-table-at-5
bounds-table-at-5 c = simp length-set (omega arith)

pub returns : goal.returns
returns c =
    let a = c.args in
    with_one_lem a.table.now a.i a.row c.label_byte-byte.result c.label_byte-byte.ensures c.requires
