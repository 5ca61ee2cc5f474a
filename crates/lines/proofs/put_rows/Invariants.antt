use Prim.Native.Nat.{◌≤◌, ◌-◌}
use mathlib.Core.List.{flat_map}
use lib.ListN.{drop}
use Rattle.rows.specs.Rows.{rows_in}
use Rattle.lines.specs.Lines.{row_line}
use Rattle.text.specs.Steps.{Behind}
use Rattle.lines.proofs.put_rows.Given as goal

abbrev pub invariant-loop-i : goal.invariant-loop-i
invariant-loop-i l = (l.from ≤ l.i) × (l.i ≤ l.n) × Behind l.initial.lines (flat_map row_line (drop l.from (rows_in l.table l.i))) l.lines

abbrev pub decreases-loop-i : goal.decreases-loop-i
decreases-loop-i l = l.n - l.i
