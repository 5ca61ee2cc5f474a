-- `enters` looks for v among the ends.
use Rattle.std.proofs.Common.{◌≡◌, length, ap, ◌∙◌, arith, rules}
use Rattle.lists.specs.Lists.{has}
use Rattle.lists.proofs.Numbers.{has_any}
use Rattle.links.proofs.LinkArrays.{ends_taken}
use Rattle.walk.proofs.enters.Goals as goal

pub returns : goal.returns
returns c =
    let links = c.args.links.now in
    let size : length links.ends ≡ 60 = search rules in
    c.contains.ensures.value ∙ has_any _ c.args.v ∙ ap (λ ns. has ns c.args.v) (ends_taken links (omega (arith, c.requires)))
