-- The rows whose marks are compared are those of the block.
use mathlib.Core.Bool.{not}
use mathlib.Core.Path.{sym, ap, ◌∙◌}
use Rattle.body.proofs.BodyWritten.{marks_tested}
use Rattle.body.proofs.marks_disagree.Goals as goal

pub returns : goal.returns
returns c = ap not c.all_agree.ensures ∙ sym (marks_tested c.args.block.now)
