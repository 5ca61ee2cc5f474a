use Prim.Native.Nat.{◌≤◌, ◌*◌}
use mathlib.Core.Bool.{false}
use mathlib.Core.Path.{◌≡◌}
use lib.ListN.{length}
use Rattle.rows.specs.Rows.{rows_in}
use Rattle.keys.specs.Steps.{row_faces}
use Rattle.marking.specs.Steps.{keys_marked}
use Rattle.marking.proofs.store_all.Given as goal

abbrev pub invariant-loop-i : goal.invariant-loop-i
invariant-loop-i l = record {
  room : length l.keys ≤ row_faces * l.i;
  stored : l.keys ≡ keys_marked (λ row. false) (rows_in l.table l.i);
}
