-- `sumpnewt_flip` hands on the number and the bytes of the call behind it.
use Rattle.sumpnewt.proofs.HandedToC.{handed}
use Rattle.sumpnewt.proofs.sumpnewt_flip.Goals as goal

pub returns : goal.returns
returns c =
    record { answer = handed _ tt c.number.ensures c.flip.ensures.answer; bytes = c.flip.ensures.bytes }
