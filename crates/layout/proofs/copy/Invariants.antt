-- The loop's invariant: the front of the one slice stands before the rest of the other.
use Rattle.std.proofs.Common.{◌≡◌, ◌≤◌, ◌++◌, length, take, drop}
use Rattle.layout.proofs.copy.Given as goal

abbrev pub invariant-loop-i : goal.invariant-loop-i
invariant-loop-i l =
    (l.i ≤ length l.from) × (l.to ≡ take l.i l.from ++ drop l.i l.initial.to)
