-- The invariant of `has`: `found` says whether the key stands among those looked at.
use mathlib.Core.Path.{refl}
use native.Mathlib.Omega.{arith}
use lib.Dec.{eqb}
use Rattle.lists.specs.Lists.{any}
use Rattle.keys.proofs.OneMoreLookedAt.{one_more}
use Rattle.keys.proofs.Keys.has.Goals as goal

pub loop-other-init : goal.loop-other-init
unfolding any
loop-other-init c = refl

pub loop-other-preserved : goal.loop-other-preserved
loop-other-preserved c =
    one_more (eqb c.args.key) _ c.loop-other.other-index c.loop-other.found (omega arith) c.loop-other.invariant
