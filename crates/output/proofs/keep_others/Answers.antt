-- The invariant of `keep_others`: the rows that stay, of the first i, stand at the front of the other table.
use mathlib.Core.Path.{◌≡◌, refl, ◌∙◌}
use native.Mathlib.Omega.{arith}
use Rattle.lists.specs.Lists.{those, numbers_from}
use Rattle.rows.specs.Rows.{rows_in}
use Rattle.rows.proofs.PastedRows.{with_none}
use Rattle.output.proofs.RowsThatStay.{front_length, stays_more, goes_more}
use Rattle.output.proofs.keep_others.Goals.{then-row_stays, else-row_stays}
use Rattle.output.proofs.keep_others.Goals as goal

pub loop-i-init : goal.loop-i-init
unfolding rows_in numbers_from those
loop-i-init c = (omega arith, omega arith, (refl, with_none c.args.rows.now 0 refl))

pub put_row-requires : goal.put_row-requires
put_row-requires c =
    let a = c.args in
    let size = front_length a.x a.y a.z a.table.now a.rows.now c.loop-i.i c.loop-i.kept c.loop-i.rows c.loop-i.invariant.2
    (omega (arith, c.loop-i.invariant.1)) in
    omega arith

pub loop-i-preserved : goal.loop-i-preserved
loop-i-preserved c =
    let args = c.args in
    let i = c.loop-i.i in
    let stayed = c.row_stays.ensures in
    let row = c.row_in-row.ensures in
    let x = args.x in
    let y = args.y in
    let z = args.z in
    let table = args.table.now in
    let rest = args.rows.now in
    elim c.if-row_stays.branch [
      | then-row_stays w ↦
          let more = stays_more x y z table rest i c.loop-i.kept c.loop-i.rows c.loop-i.invariant.2 _ row _ stayed (omega arith)
          w.if-row_stays.true c.if-row_stays.rows c.if-row_stays.kept (w.rows-is ∙ w.put_row.ensures) w.kept-is in
          (omega arith, omega (arith, w.kept-is), more)
      | else-row_stays w ↦
          let more = goes_more x y z table rest i c.loop-i.kept c.loop-i.rows c.loop-i.invariant.2 _ row _ stayed w.if-row_stays.false
          c.if-row_stays.rows c.if-row_stays.kept w.rows-is w.kept-is in
          (omega arith, omega (arith, w.kept-is), more)
    ]

pub shape_of-rows : goal.shape_of-rows
shape_of-rows c =
    let a = c.args in
    front_length a.x a.y a.z a.table.now a.rows.now c.loop-i.i c.loop-i.kept c.loop-i.rows c.loop-i.invariant.2
    (omega (arith, c.loop-i.invariant.1))

pub returns : goal.returns
returns c =
    let e : c.loop-i.i ≡ c.args.n = omega arith in
    rw e at c.loop-i.invariant.2
