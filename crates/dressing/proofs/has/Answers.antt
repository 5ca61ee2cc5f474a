-- One of three numbers.
use Rattle.lists.specs.Lists.{any}
use Rattle.lists.proofs.Tests.{or_false}
use Rattle.dressing.proofs.has.Goals as goal

pub returns : goal.returns
unfolding any
returns c = rw or_false
