-- `sumpnewt_seal` hands on the number and the bytes of the call behind it.
use Rattle.sumpnewt.proofs.HandedToC.{handed}
use Rattle.sumpnewt.proofs.sumpnewt_seal.Goals as goal

pub returns : goal.returns
returns c =
    record { answer = handed _ tt c.number.ensures c.seal.ensures.answer; bytes = c.seal.ensures.bytes }
