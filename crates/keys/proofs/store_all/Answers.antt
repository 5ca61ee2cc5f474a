-- The invariant of `store_all`: the keys of the first i rows are stored.
use mathlib.Core.List.{flat_map}
use native.Mathlib.Numerals.{add-one}
use native.Mathlib.Omega.{arith}
use Rattle.lists.specs.Lists.{numbers_from}
use Rattle.rows.specs.Rows.{rows_in}
use Rattle.rows.proofs.RowsOfTables.{rows_length}
use Rattle.keys.proofs.CheckedByKeys.{keys_length, keys_more}
use Rattle.keys.proofs.store_all.Goals as goal

pub loop-i-init : goal.loop-i-init
unfolding rows_in numbers_from flat_map
loop-i-init c = c.clear.ensures

pub push_row-requires : goal.push_row-requires
push_row-requires c =
    let table = c.args.table.now in
    let i = c.loop-i.i in
    rw c.loop-i.invariant (omega (arith, keys_length (rows_in table i), rows_length table i))

pub loop-i-preserved : goal.loop-i-preserved
loop-i-preserved c =
    let table = c.args.table.now in
    let i = c.loop-i.i in
    rw (c.push_row.ensures, c.loop-i.invariant, c.row_in.ensures, add-one i, keys_more table i)
