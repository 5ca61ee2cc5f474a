-- The length, then the points.
use mathlib.Core.Path.{◌∙◌}
use borrow.Author.Tests.{eq-eqb, ne_eqb}
use Rattle.expected.specs.Expected.{ring_is}
use Rattle.expected.proofs.TestsInTurn.{fails, passes}
use Rattle.expected.proofs.SameBytes.{pointwise-same}
use Rattle.expected.proofs.ring_is.Goals as goal

pub returns-then-ring-stored : goal.returns-then-ring-stored
unfolding ring_is
returns-then-ring-stored c = c.eq.ensures ∙ pointwise-same _ _ ∙ passes (eq-eqb _ _ c.if-ring-stored.true)

pub returns-else-ring-stored : goal.returns-else-ring-stored
unfolding ring_is
returns-else-ring-stored c = let first = ne_eqb _ _ c.if-ring-stored.false in first ∙ fails _ first
