-- `sumpnewt_remove` hands on the number and the bytes of the removal.
use mathlib.Core.Path.{◌∙◌, ap}
use Rattle.answers.specs.Answers.{number_of}
use Rattle.accepted.proofs.CallsNumbered.{remove_number}
use Rattle.sumpnewt.proofs.sumpnewt_remove.Goals as goal

pub returns : goal.returns
returns c =
    let a = c.args in
    record {
      answer = c.number.ensures ∙ ap number_of c.remove.ensures.gives ∙ remove_number a.block.now a.out.now a.a a.b;
      bytes = c.remove.ensures.bytes;
    }
