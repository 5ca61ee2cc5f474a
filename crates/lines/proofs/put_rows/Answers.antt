-- The invariant of `put_rows`: the lines of the rows up to row i stand behind the text.
use mathlib.Core.List.{[], ◌∷◌, flat_map}
use mathlib.Core.Path.{◌≡◌}
use native.Mathlib.Numerals.{add-one}
use native.Mathlib.Omega.{arith}
use lib.ListN.{drop, drop_of_length-le}
use lib.Seq.{drop-append-le}
use Rattle.lists.proofs.Images.{flat_map_snoc}
use Rattle.rows.specs.Rows.{row_in, rows_in}
use Rattle.rows.proofs.RowsOfTables.{rows_length, rows_more}
use Rattle.lines.specs.Lines.{row_line}
use Rattle.text.proofs.BytesBehindAText.{none_put, then_put}
use Rattle.lines.proofs.put_rows.Goals as goal

pub loop-i-init : goal.loop-i-init
unfolding flat_map
loop-i-init c =
    let a = c.args in
    let none = drop_of_length-le (rows_in a.table.now a.from) {i = a.from} (omega (arith, rows_length a.table.now a.from)) in
    (omega arith, omega arith, rw none (none_put _))

pub loop-i-preserved : goal.loop-i-preserved
loop-i-preserved c =
    let a = c.args in
    let i = c.loop-i.i in
    let rows = rows_in a.table.now i in
    let last = row_in a.table.now i in
    let all = rows_more a.table.now i in
    let behind = drop-append-le a.from rows (last ∷ []) (omega (arith, rows_length a.table.now i)) in
    let lines = flat_map_snoc row_line (drop a.from rows) last in
    let put = then_put c.loop-i.invariant.2 c.put_row-lines.ensures in
    (omega arith, omega arith, rw (add-one i, all, behind, lines, ← c.row_in.ensures) put)

pub returns : goal.returns
returns c =
    let e : c.loop-i.i ≡ c.args.n = omega arith in
    rw e at c.loop-i.invariant.2
