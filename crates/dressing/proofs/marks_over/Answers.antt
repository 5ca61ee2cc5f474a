-- The four faces, one after the other, in the order of the definition.
use Rattle.lists.specs.Lists.{any}
use Rattle.lists.proofs.Tests.{or_false}
use Rattle.marking.specs.Marking.{marked_faces, marks_over}
use Rattle.dressing.proofs.marks_over.Goals as goal

pub returns : goal.returns
unfolding any marks_over marked_faces
returns c =
    rw (
      c.marked_over-qrs.ensures,
      c.marked_over-psr.ensures,
      c.marked_over-pqs.ensures,
      c.marked_over-prq.ensures,
      or_false,
    )
