use mathlib.Core.Bool.{true}
use mathlib.Core.Path.{◌≡◌}
use Rattle.rows.specs.Rows.{rows_in}
use Rattle.mesh.specs.Mesh.{faces_apart}
use Rattle.keys.proofs.all_apart.Given as goal

abbrev pub invariant-loop-row : goal.invariant-loop-row
invariant-loop-row l = faces_apart (rows_in l.table l.row) ≡ true
