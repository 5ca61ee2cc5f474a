-- `joined` goes by the cases of the definition.
use mathlib.Core.Path.{◌∙◌}
use borrow.Author.Tests.{eq-eqb, ne_eqb}
use Rattle.links.proofs.joined.Goals as goal

pub returns-then-n-eq0 : goal.returns-then-n-eq0
returns-then-n-eq0 c = rw (eq-eqb _ _ c.if-n-eq0.true)

pub returns : goal.returns
returns c = c.with.ensures ∙ rw (ne_eqb _ _ c.if-n-eq0.false)
