-- `sumpnewt_page` hands on the number and the page row of the removal.
use Rattle.sumpnewt.proofs.HandedToC.{page_handed}
use Rattle.sumpnewt.proofs.sumpnewt_page.Goals as goal

pub returns : goal.returns
returns c =
    let args = c.args in
    let both =
    page_handed args.block.now args.row.now args.a args.b c.page.ensures c.store_page.ensures.answer
    c.store_page.ensures.elements in
    record { answer = both.0; elements = both.1 }
