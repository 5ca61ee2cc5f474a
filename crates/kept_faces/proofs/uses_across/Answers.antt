-- `uses_across` looks up the face of a, then the face of b, if the links do not close.
use Rattle.kept_faces.proofs.uses_across.Goals as goal

pub returns-then-closed : goal.returns-then-closed
returns-then-closed c = rw c.if-closed.true

pub returns-then-has : goal.returns-then-has
returns-then-has c =
    rw (c.if-closed.false, ← c.face_key.ensures, ← c.has.ensures, c.if-has.true)

pub returns : goal.returns
returns c =
    rw (c.if-closed.false, ← c.face_key.ensures, ← c.has.ensures, c.if-has.false, ← c.face_key-2.ensures)
    c.has-2.ensures
