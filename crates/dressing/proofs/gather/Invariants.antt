use Prim.Native.Nat.{◌≤◌, ◌*◌}
use mathlib.Core.Bool.{not}
use mathlib.Core.List.{[], ◌∷◌}
use mathlib.Core.Path.{◌≡◌}
use lib.ListN.{length}
use Rattle.rows.specs.Rows.{rows_in, holds_face}
use Rattle.keys.specs.Steps.{row_faces}
use Rattle.marking.specs.Steps.{keys_marked}
use Rattle.dressing.proofs.gather.Given as goal

abbrev pub invariant-loop-i : goal.invariant-loop-i
invariant-loop-i l = record {
  room : length l.keys ≤ row_faces * l.i;
  stored : l.keys ≡ keys_marked (λ row. not (holds_face (l.x ∷ l.y ∷ l.z ∷ []) row)) (rows_in l.table l.i);
}
