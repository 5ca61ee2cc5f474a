use Prim.Native.Nat.{◌≤◌, ◌-◌}
use Rattle.output.proofs.RowsThatStay.{Front}
use Rattle.output.proofs.keep_others.Given as goal

abbrev pub invariant-loop-i : goal.invariant-loop-i
invariant-loop-i l =
    (l.i ≤ l.n)
    × (l.kept ≤ l.i)
    × Front l.x l.y l.z l.table l.initial.rows l.i l.kept l.rows

abbrev pub decreases-loop-i : goal.decreases-loop-i
decreases-loop-i l = l.n - l.i
