-- `sumpnewt_shown` hands on the number and the elements of the call behind it.
use Rattle.sumpnewt.proofs.HandedToC.{handed}
use Rattle.sumpnewt.proofs.sumpnewt_shown.Goals as goal

pub returns : goal.returns
returns c =
    record { answer = handed _ tt c.number.ensures c.shown.ensures.answer; elements = c.shown.ensures.elements }
