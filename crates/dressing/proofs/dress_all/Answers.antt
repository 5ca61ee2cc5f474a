-- The invariant of `dress_all`: the rows before i are dressed, the others stand as they were.
use Prim.Native.Nat.{◌-◌}
use mathlib.Core.List.{[], ◌∷◌, map}
use mathlib.Core.Path.{◌≡◌, refl, ap, ◌∙◌}
use native.Mathlib.Omega.{arith}
use lib.ListN.{length}
use Rattle.lists.specs.Lists.{has, numbers_from}
use Rattle.rows.specs.Rows.{row_in, with_rows}
use Rattle.rows.proofs.PastedRows.{with_none, with_length}
use Rattle.keys.specs.Steps.{face_key}
use Rattle.marking.specs.Marking.{dress_by}
use Rattle.dressing.proofs.RowsDressed.{dressed_more}
use Rattle.dressing.proofs.dress_all.Goals as goal

pub loop-i-init : goal.loop-i-init
unfolding numbers_from
loop-i-init c =
    let a = c.args in
    let none : a.from - a.from ≡ 0 = omega arith in
    let dress = dress_by (λ f. has a.keys.now (face_key f)) in
    let nothing = ap (λ n. map dress (map (row_in a.rows.now) (numbers_from a.from n))) none in
    (omega arith, omega arith, refl, with_none a.rows.now a.from nothing)

pub loop-i-preserved : goal.loop-i-preserved
loop-i-preserved c =
    let a = c.args in
    let i = c.loop-i.i in
    let dress = dress_by (λ f. has a.keys.now (face_key f)) in
    let dressed : c.dress_row-row.result ≡ dress (row_in c.loop-i.rows i) =
    c.dress_row-row.ensures ∙ ap dress c.row_in.ensures in (
      omega arith,
      omega arith,
      ap length c.put_row.ensures ∙ with_length c.loop-i.rows i (_ ∷ []) (omega (arith, c.loop-i.invariant.2)) ∙ c.loop-i.invariant.2,
      c.put_row.ensures
          ∙ ap (λ row. with_rows c.loop-i.rows i (row ∷ [])) dressed
          ∙ dressed_more a.rows.now a.from dress c.loop-i.rows i c.loop-i.invariant.0 (omega arith) c.loop-i.invariant.3,
    )

pub shape_of-rows : goal.shape_of-rows
shape_of-rows c = c.loop-i.invariant.2

pub returns : goal.returns
returns c =
    let l = c.loop-i in
    let a = c.args in
    let e : l.i ≡ a.end = omega arith in
    rw e at l.invariant.3
