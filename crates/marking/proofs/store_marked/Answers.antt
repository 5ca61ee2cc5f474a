-- The four faces, one after the other, in the order of the definition.
use Rattle.marking.proofs.MarkedKeys.{keys_four}
use Rattle.marking.proofs.store_marked.Goals as goal

pub returns-clause-stored : goal.returns-clause-stored
returns-clause-stored c =
    rw (
      c.store_face-4.ensures.stored,
      c.store_face-3.ensures.stored,
      c.store_face-2.ensures.stored,
      c.store_face.ensures.stored,
    )
    (keys_four c.args.over c.args.row c.args.keys.now)
