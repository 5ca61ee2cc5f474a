-- The answer with the page row, the ring, then every byte.
use mathlib.Core.Path.{◌≡◌}
use Rattle.std.proofs.Common.{arith, rules}
use Rattle.calls.specs.Removing.{page_given}
use Rattle.agreement.specs.Agreement.{ring_given, remove_agrees}
use Rattle.agreement.proofs.remove_agrees.Goals as goal

pub returns-then-ring_is : goal.returns-then-ring_is
unfolding remove_agrees
returns-then-ring_is c =
    let page : c.map-page.result ≡ page_given c.remove-removed.result = search rules in
    let ring : c.map_or-ring.result ≡ ring_given c.remove-removed.result = search rules in
    grind arith

pub returns-else-ring_is : goal.returns-else-ring_is
unfolding remove_agrees
returns-else-ring_is c =
    let page : c.map-page.result ≡ page_given c.remove-removed.result = search rules in
    let ring : c.map_or-ring.result ≡ ring_given c.remove-removed.result = search rules in
    grind arith
