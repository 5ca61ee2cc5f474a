use Prim.Native.Nat.{◌-◌}
use Rattle.expansion.proofs.+expand.Given as goal

-- j - i falls
abbrev pub decreases-expand : goal.decreases-expand
decreases-expand l = l.j - l.i
