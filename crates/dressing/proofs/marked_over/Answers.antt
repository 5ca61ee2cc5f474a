-- The three numbers, one after the other.
use Rattle.lists.specs.Lists.{every}
use Rattle.lists.proofs.Tests.{and_true}
use Rattle.dressing.proofs.marked_over.Goals as goal

pub returns : goal.returns
unfolding every
returns c = rw (c.has.ensures, c.has-2.ensures, c.has-3.ensures, and_true)
