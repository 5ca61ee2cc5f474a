use mathlib.Core.Path.{◌≡◌}
use Rattle.rows.specs.Rows.{rows_in}
use Rattle.keys.specs.Steps.{table_keys}
use Rattle.keys.proofs.store_all.Given as goal

abbrev pub invariant-loop-i : goal.invariant-loop-i
invariant-loop-i l = l.keys ≡ table_keys (rows_in l.table l.i)
