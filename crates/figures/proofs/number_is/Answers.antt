-- By the case of the number.
use borrow.Author.Tests.{eq-eqb, ne_eqb}
use Rattle.figures.specs.Figures.{number_is}
use Rattle.expected.proofs.TestsInTurn.{passes}
use Rattle.figures.proofs.number_is.Goals as goal

pub returns-then-there-eq1 : goal.returns-then-there-eq1
unfolding number_is
returns-then-there-eq1 c = rw c.in-Some.is (passes (eq-eqb _ _ c.if-there-eq1.true))

pub returns-else-there-eq1 : goal.returns-else-there-eq1
unfolding number_is
returns-else-there-eq1 c = rw (c.in-Some.is, ne_eqb _ _ c.if-there-eq1.false)

pub returns-in-None : goal.returns-in-None
unfolding number_is
returns-in-None c = rw c.in-None.is
