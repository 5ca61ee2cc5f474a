use mathlib.Core.Path.{◌≡◌}
use lib.ListN.{take}
use Rattle.lists.specs.Lists.{any}
use Rattle.keys.specs.Steps.{one_of}
use Rattle.keys.proofs.some_among.Given as goal

abbrev pub invariant-loop-key : goal.invariant-loop-key
invariant-loop-key l = l.found ≡ any (one_of l.a l.b l.c l.d) (take l.key-index l.keys)
