use Prim.Native.Nat.{◌≤◌, ◌-◌}
use mathlib.Core.Path.{◌≡◌}
use lib.ListN.{length}
use Rattle.lists.specs.Lists.{has}
use Rattle.rows.specs.Rows.{with_rows}
use Rattle.keys.specs.Steps.{face_key}
use Rattle.marking.specs.Marking.{dress_by}
use Rattle.dressing.proofs.RowsDressed.{up_to}
use Rattle.dressing.proofs.dress_all.Given as goal

abbrev pub invariant-loop-i : goal.invariant-loop-i
invariant-loop-i l =
    (l.from ≤ l.i) × (l.i ≤ l.end) × (length l.rows ≡ length l.initial.rows)
    × (l.rows ≡ with_rows l.initial.rows l.from (up_to l.initial.rows l.from (dress_by (λ f. has l.keys (face_key f))) l.i))

abbrev pub decreases-loop-i : goal.decreases-loop-i
decreases-loop-i l = l.end - l.i
