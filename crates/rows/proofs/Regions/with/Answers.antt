-- `with` goes by the cases of the definition.
use borrow.Author.Tests.{eq-eqb, ne_eqb}
use Rattle.rows.proofs.Regions.with.Goals as goal

pub returns-then-region-same : goal.returns-then-region-same
returns-then-region-same c = rw (c.in-One.is, eq-eqb _ _ c.if-region-same.true)

pub returns-else-region-same : goal.returns-else-region-same
returns-else-region-same c = rw (c.in-One.is, ne_eqb _ _ c.if-region-same.false)
