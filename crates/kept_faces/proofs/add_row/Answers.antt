-- `add_row` adds the four faces of a row that does not hold both ends.
use mathlib.Core.List.{◌++◌, append-nil}
use mathlib.Core.Path.{sym, ap, ◌∙◌}
use Rattle.mesh.specs.Mesh.{faces}
use Rattle.kept_faces.proofs.KeptFacesLookedUp.{four, row_gone, row_kept}
use Rattle.kept_faces.proofs.add_row.Goals as goal

pub returns-then-holds_edge-clause-added : goal.returns-then-holds_edge-clause-added
returns-then-holds_edge-clause-added c =
    let a = c.args in
    let gone = row_gone a.met.now a.a a.b a.row (sym c.holds_edge.ensures ∙ c.if-holds_edge.true) in
    sym (ap (λ ks. a.keys.now ++ ks) gone ∙ append-nil a.keys.now)

pub returns-clause-added : goal.returns-clause-added
unfolding faces
returns-clause-added c =
    let a = c.args in
    let met = a.met.now in
    let row = a.row in
    let kept = row_kept met a.a a.b row (sym c.holds_edge.ensures ∙ c.if-holds_edge.false) in
    rw (
      c.push_if-4.ensures.pushed,
      c.push_if-3.ensures.pushed,
      c.push_if-2.ensures.pushed,
      c.push_if.ensures.pushed,
      c.all_met-4.ensures,
      c.all_met-3.ensures,
      c.all_met-2.ensures,
      c.all_met.ensures,
      c.face_key-4.ensures,
      c.face_key-3.ensures,
      c.face_key-2.ensures,
      c.face_key.ensures,
    )
    (four a.keys.now met (row.q, row.r, row.s) (row.p, row.s, row.r) (row.p, row.q, row.s) (row.p, row.r, row.q)
    ∙ ap (λ ks. a.keys.now ++ ks) (sym kept))
