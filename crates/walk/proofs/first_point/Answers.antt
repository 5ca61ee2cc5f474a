-- `first_point` has passed only starts that are entered; if all are, there is no head and the smallest is taken.
use Rattle.std.proofs.Common.{◌≡◌, get_or, length, take, sym, ◌∙◌, arith, rules}
use mathlib.Core.List.{Memᴰ}
use mathlib.Core.Path.{subst}
use borrow.Author.Count.{below_more}
use lib.Dec.{T}
use Rattle.lists.proofs.Tests.{is_yes}
use Rattle.lists.proofs.Numbers.{has_i, has_e}
use Rattle.lists.proofs.Places.{at_in, in_at}
use Rattle.links.specs.Links.{ends}
use Rattle.links.specs.Steps.{links_in}
use Rattle.links.proofs.LinkArrays.{starts_taken}
use Rattle.walk.proofs.FirstPoint.{starts_head, starts_smallest}
use Rattle.walk.proofs.first_point.Goals as goal

pub loop-v-init : goal.loop-v-init
loop-v-init c = λ k h. absurd (omega arith)

pub returns-then-not-enters : goal.returns-then-not-enters
returns-then-not-enters c =
    let links = c.args.links in
    let size : length links.starts ≡ 60 = search rules in
    let taken = starts_taken links (omega (arith, c.requires)) in
    let v = get_or (take links.n links.starts) c.loop-v.v-index 0 in
    starts_head (links_in links) (subst (λ ns. Memᴰ v ns) taken (at_in (take links.n links.starts) c.loop-v.v-index 0 (omega arith)))
    (λ m. subst T (sym c.enters.ensures ∙ c.if-not-enters.true) (has_i (ends (links_in links)) m))

pub loop-v-preserved : goal.loop-v-preserved
loop-v-preserved c =
    let links = c.args.links in
    below_more _ _ c.loop-v.invariant (has_e (ends (links_in links)) _ (is_yes _ (sym c.enters.ensures ∙ c.if-not-enters.false)))

pub returns : goal.returns
returns c =
    let links = c.args.links in
    let size : length links.starts ≡ 60 = search rules in
    let taken = starts_taken links (omega (arith, c.requires)) in
    starts_smallest (links_in links) c.smallest_start.ensures (λ x m.
    let (k, h, e) = in_at (take links.n links.starts) 0 (subst (λ ns. Memᴰ x ns) (sym taken) m) in
    subst (λ v. Memᴰ v (ends (links_in links))) e (c.loop-v.invariant k (omega arith)))
