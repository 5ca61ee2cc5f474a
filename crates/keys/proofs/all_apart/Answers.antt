-- The invariant of `all_apart`: the rows before `row` are apart.
use Prim.Native.Nat.{suc}
use mathlib.Core.Bool.{◌&&◌}
use mathlib.Core.Path.{◌≡◌, refl, sym, ap, ◌∙◌}
use native.Mathlib.Numerals.{add-one}
use native.Mathlib.Omega.{arith}
use Rattle.lists.specs.Lists.{numbers_from}
use Rattle.rows.specs.Rows.{rows_in}
use Rattle.rows.proofs.RowsOfTables.{rows_length}
use Rattle.mesh.specs.Mesh.{faces_apart}
use Rattle.keys.proofs.CheckedByKeys.{keys_length, row_checked, apart_longer}
use Rattle.keys.proofs.all_apart.Goals as goal

pub loop-row-init : goal.loop-row-init
unfolding faces_apart rows_in numbers_from
loop-row-init c = refl

pub row_apart-requires : goal.row_apart-requires
row_apart-requires c =
    let table = c.args.table.now in
    let n = c.args.n in
    rw (c.as_slice-all.ensures, c.store_all.ensures) (omega (arith, keys_length (rows_in table n), rows_length table n))

pub returns-then-not-row_apart : goal.returns-then-not-row_apart
returns-then-not-row_apart c =
    let a = c.args in
    let i = c.loop-row.row in
    -- with this row, the rows are apart if they were and the call of `row_apart` says so
    let more =
    row_checked a.table.now _ a.n (c.as_slice-all.ensures ∙ c.store_all.ensures) (λ j. omega (arith, c.type_inv.table j)) i (omega arith)
    c.row_apart.result c.row_apart.ensures in
    let no = c.if-not-row_apart.true in
    sym (apart_longer a.table.now (suc i) a.n (omega arith) (more
    ∙ ap (λ b. b && faces_apart (rows_in a.table.now i)) no))

pub loop-row-preserved : goal.loop-row-preserved
loop-row-preserved c =
    let a = c.args in
    let i = c.loop-row.row in
    -- with this row, the rows are apart if they were and the call of `row_apart` says so
    let more =
    row_checked a.table.now _ a.n (c.as_slice-all.ensures ∙ c.store_all.ensures) (λ j. omega (arith, c.type_inv.table j)) i (omega arith)
    c.row_apart.result c.row_apart.ensures in rw (add-one i, more, c.if-not-row_apart.false) c.loop-row.invariant

pub returns : goal.returns
returns c =
    let l = c.loop-row in
    let a = c.args in
    let e : l.row ≡ a.n = omega arith in
    sym (rw e at l.invariant)
