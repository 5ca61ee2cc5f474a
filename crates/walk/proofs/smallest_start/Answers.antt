-- `smallest_start` takes the smallest of the starts.
use Rattle.std.proofs.Common.{◌≡◌, length, take, arith, rules}
use Rattle.std.proofs.lemmas.Iterator.{YieldsList-from_slice}
use Rattle.std.proofs.lemmas.Iterator.Consumers.{YieldsList-from_copied, min_from_yields_List}
use Rattle.links.specs.Links.{starts}
use Rattle.links.specs.Steps.{links_in}
use Rattle.links.proofs.LinkArrays.{starts_taken}
use Rattle.walk.proofs.TheSmallest.{smallest_reduced}
use Rattle.walk.proofs.smallest_start.Goals as goal

pub returns : goal.returns
returns c =
    let links = c.args.links.now in
    let size : length links.starts ≡ 60 = search rules in
    let all = take links.n links.starts in
    let found = min_from_yields_List {v = λ x. x} _ _ c.min.ensures.ran (YieldsList-from_copied (YieldsList-from_slice all (search rules))) in
    smallest_reduced (starts (links_in links)) c.unwrap.result (rw (c.unwrap.ensures, starts_taken links (omega (arith, c.requires))) at found)
