-- `sumpnewt_open` hands on the number of opening.
use mathlib.Core.Path.{◌∙◌, ap}
use Rattle.answers.specs.Answers.{number_of}
use Rattle.accepted.proofs.CallsNumbered.{open_number}
use Rattle.sumpnewt.proofs.sumpnewt_open.Goals as goal

pub returns : goal.returns
returns c = c.number.ensures ∙ ap number_of c.open.ensures ∙ open_number c.args.block.now
