-- A face turned over has its second and third number exchanged.
use Rattle.marking.proofs.key_of.Goals as goal

pub returns-then-over : goal.returns-then-over
returns-then-over c = rw c.if-over.true c.face_key.ensures

pub returns : goal.returns
returns c = rw c.if-over.false c.face_key-2.ensures
