use Prim.Native.Nat.{◌≤◌, ◌*◌}
use mathlib.Core.Path.{◌≡◌}
use lib.ListN.{length}
use Rattle.rows.specs.Rows.{rows_in}
use Rattle.keys.specs.Steps.{row_faces}
use Rattle.kept_faces.specs.Steps.{kept_keys, kept_of}
use Rattle.kept_faces.proofs.gather.Given as goal

abbrev pub invariant-loop-i : goal.invariant-loop-i
invariant-loop-i l = record {
  room : length l.keys ≤ row_faces * l.i;
  stored : l.keys ≡ kept_keys l.met (kept_of l.rim.a l.rim.b (rows_in l.table l.i));
}
