-- The invariant of `share`: what is kept is what the first i rows give.
use mathlib.Core.List.{[], ◌∷◌}
use mathlib.Core.Path.{◌≡◌, refl, ap, ◌∙◌}
use Rattle.std.specs.Prelude.{Some}
use Rattle.layout.specs.Layout.{max_rows}
use native.Mathlib.Omega.{arith}
use Rattle.lists.specs.Lists.{those, numbers_from}
use Rattle.rows.specs.Rows.{rows_in}
use Rattle.rows.proofs.RowsOfTables.{rows_length}
use Rattle.calls.specs.Flipping.{pair_of}
use Rattle.face.proofs.FaceShared.{share_few, held_next, other_next}
use Rattle.face.proofs.share.Goals.{then-holds_face, else-holds_face}
use Rattle.face.proofs.share.Goals as goal

pub loop-i-init : goal.loop-i-init
unfolding pair_of rows_in numbers_from those
loop-i-init c = refl

pub with_row-requires : goal.with_row-requires
with_row-requires c =
    let args = c.args in
    let rows = rows_in args.table.now c.loop-i.i in
    rw c.loop-i.invariant
    (share_few (args.x ∷ args.y ∷ args.z ∷ []) rows max_rows (omega (arith, rows_length args.table.now c.loop-i.i)))

pub loop-i-preserved : goal.loop-i-preserved
loop-i-preserved c =
    let args = c.args in
    let face = args.x ∷ args.y ∷ args.z ∷ [] in
    let row = c.row_in-row.ensures in
    let held = c.holds_face.ensures in
    elim c.if-holds_face.branch [
      | then-holds_face w ↦
          held_next face args.table.now c.loop-i.i c.loop-i.found c.loop-i.invariant _ row _ held w.if-holds_face.true _
          c.if-holds_face.found w.apex_over.ensures (w.found-is ∙ ap Some w.with_row.ensures)
      | else-holds_face w ↦
          other_next face args.table.now c.loop-i.i c.loop-i.found c.loop-i.invariant _ row _ held w.if-holds_face.false
          c.if-holds_face.found w.found-is
    ]

pub returns : goal.returns
returns c =
    let e : c.loop-i.i ≡ c.args.n = omega arith in
    rw e at c.loop-i.invariant
