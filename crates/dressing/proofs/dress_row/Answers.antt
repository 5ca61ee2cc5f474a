-- The four faces, each looked up by its key.
use Rattle.marking.specs.Marking.{dress_by}
use Rattle.dressing.proofs.dress_row.Goals as goal

pub returns : goal.returns
unfolding dress_by
returns c =
    rw (
      c.has.ensures,
      c.has-2.ensures,
      c.has-3.ensures,
      c.has-4.ensures,
      c.face_key.ensures,
      c.face_key-2.ensures,
      c.face_key-3.ensures,
      c.face_key-4.ensures,
    )
