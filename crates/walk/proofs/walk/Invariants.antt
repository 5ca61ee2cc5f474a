use Prim.Native.Nat.{◌≤◌, ◌-◌}
use mathlib.Core.List.{◌++◌}
use mathlib.Core.Path.{◌≡◌}
use lib.ListN.{length, take, drop}
use Rattle.links.specs.Links.{next}
use Rattle.walk.specs.Walk.{walk, circle, follow}
use Rattle.links.specs.Steps.{links_in}
use Rattle.walk.proofs.WalkStepwise.{onto}
use Rattle.walk.proofs.walk.Given as goal

abbrev pub invariant-loop-i : goal.invariant-loop-i
invariant-loop-i l =
    (l.v ≡ l.initial.v) × (l.here ≡ l.initial.here) × (l.m ≡ l.initial.m) × (l.i ≤ l.n) × (next (links_in l.links) l.here ≡ next (drop l.i (links_in l.links)) l.here)

abbrev pub decreases-loop-i : goal.decreases-loop-i
decreases-loop-i l = l.n - l.i

abbrev pub invariant-walk : goal.invariant-walk
invariant-walk l =
    (l.m ≤ l.n) × (l.n ≡ l.links.n) × (length l.v ≡ 61)
    × (circle (links_in l.links) l.start ≡ onto (take l.m l.v) (walk (l.n - l.m) (links_in l.links) l.start l.here))
    × (follow l.n (links_in l.links) l.start ≡ take l.m l.v ++ follow (l.n - l.m) (links_in l.links) l.here)

abbrev pub decreases-walk : goal.decreases-walk
decreases-walk l = l.n - l.m
