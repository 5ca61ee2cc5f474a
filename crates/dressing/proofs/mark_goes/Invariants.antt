use Prim.Native.Nat.{◌≤◌, ◌-◌}
use mathlib.Core.Bool.{false}
use mathlib.Core.List.{[], ◌∷◌}
use mathlib.Core.Path.{◌≡◌}
use Rattle.lists.specs.Lists.{any}
use Rattle.rows.specs.Rows.{rows_in}
use Rattle.marking.specs.Marking.{marks_over}
use Rattle.dressing.proofs.mark_goes.Given as goal

abbrev pub invariant-loop-i : goal.invariant-loop-i
invariant-loop-i l = (l.i ≤ l.n) × (any (marks_over (l.x ∷ l.y ∷ l.z ∷ [])) (rows_in l.table l.i) ≡ false)

abbrev pub decreases-loop-i : goal.decreases-loop-i
decreases-loop-i l = l.n - l.i
