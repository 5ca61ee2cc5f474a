-- The invariant of `some_among`: `found` says whether one of the four keys stands among those looked at.
use mathlib.Core.Path.{refl}
use native.Mathlib.Omega.{arith}
use Rattle.lists.specs.Lists.{any}
use Rattle.keys.specs.Steps.{one_of}
use Rattle.keys.proofs.OneMoreLookedAt.{one_more}
use Rattle.keys.proofs.some_among.Goals as goal

pub loop-key-init : goal.loop-key-init
unfolding any
loop-key-init c = refl

pub loop-key-preserved : goal.loop-key-preserved
unfolding one_of
loop-key-preserved c =
    let a = c.args in
    one_more (one_of a.a a.b a.c a.d) _ c.loop-key.key-index c.loop-key.found (omega arith) c.loop-key.invariant
