-- `after` compares b with the first two of the three.
use borrow.Author.Tests.{eq-eqb, ne_eqb}
use Rattle.links.proofs.after.Goals as goal

pub returns-then-b-x : goal.returns-then-b-x
returns-then-b-x c = rw (eq-eqb _ _ c.if-b-x.true)

pub returns-then-b-y : goal.returns-then-b-y
returns-then-b-y c = rw (ne_eqb _ _ c.if-b-x.false, eq-eqb _ _ c.if-b-y.true)

pub returns : goal.returns
returns c = rw (ne_eqb _ _ c.if-b-x.false, ne_eqb _ _ c.if-b-y.false)
