use Prim.Native.Nat.{◌≤◌}
use mathlib.Core.List.{map}
use mathlib.Core.Path.{◌≡◌}
use Rattle.volume.specs.Volume.{points_in}
use Rattle.rows.specs.Rows.{rows_in}
use Rattle.rows.specs.RowMeasure.{row_quality}
use Rattle.summary.proofs.TallyRowByRow.{tally_of}
use Rattle.summary.proofs.summary_of.Given as goal

abbrev pub invariant-loop-i : goal.invariant-loop-i
invariant-loop-i l =
    (l.i ≤ l.rows.n)
    × (l.tally ≡ tally_of (map (row_quality (points_in l.rows.coordinates.now l.rows.count)) (rows_in l.rows.table.now l.i)))
