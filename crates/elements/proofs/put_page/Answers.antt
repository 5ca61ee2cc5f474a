-- `put_page` writes both elements.
use Rattle.elements.proofs.SlicesFilled.{two_filled}
use Rattle.elements.proofs.put_page.Goals as goal

pub returns : goal.returns
returns c = two_filled c.args.row.now _ _ c.requires
