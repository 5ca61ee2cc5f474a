-- `sumpnewt_summary` hands on the number and the summary of the call behind it.
use Rattle.sumpnewt.proofs.HandedToC.{summary_handed}
use Rattle.sumpnewt.proofs.sumpnewt_summary.Goals as goal

pub returns : goal.returns
returns c =
    let args = c.args in
    let stored = c.store_summary in
    let both =
    summary_handed args.block.now args.out.now c.summary.ensures stored.ensures.answer stored.ensures.elements in
    record { answer = both.0; elements = both.1 }
