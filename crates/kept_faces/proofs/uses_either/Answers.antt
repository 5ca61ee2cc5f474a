-- `uses_either` looks up a face, then the face the other way round.
use Rattle.kept_faces.proofs.uses_either.Goals as goal

pub returns-then-has : goal.returns-then-has
returns-then-has c = rw (← c.face_key.ensures, ← c.has.ensures, c.if-has.true)

pub returns : goal.returns
returns c =
    rw (← c.face_key.ensures, ← c.has.ensures, c.if-has.false, ← c.face_key-2.ensures)
    c.has-2.ensures
