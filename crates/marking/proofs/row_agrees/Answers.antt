-- The four faces, one after the other, in the order of the definition.
use Rattle.lists.specs.Lists.{every}
use Rattle.lists.proofs.Tests.{and_true}
use Rattle.marking.specs.Marking.{marked_faces}
use Rattle.marking.proofs.row_agrees.Goals as goal

pub returns : goal.returns
unfolding every marked_faces
returns c =
    rw (
      c.face_agrees-qrs.ensures,
      c.face_agrees-psr.ensures,
      c.face_agrees-pqs.ensures,
      c.face_agrees-prq.ensures,
      and_true,
    )
