-- The rows that are tested are those of the block.
use mathlib.Core.Bool.{not}
use mathlib.Core.Path.{sym, ap, ◌∙◌}
use Rattle.body.proofs.BodyWritten.{faces_tested}
use Rattle.body.proofs.face_twice.Goals as goal

pub returns : goal.returns
returns c = ap not c.all_apart.ensures ∙ sym (faces_tested c.args.block.now)
