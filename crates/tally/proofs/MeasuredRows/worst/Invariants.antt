use Prim.Native.Nat.{◌≤◌}
use mathlib.Core.List.{map}
use mathlib.Core.Path.{◌≡◌}
use Rattle.std.specs.Prelude.{Some}
use Rattle.volume.specs.Volume.{points_in}
use Rattle.quality.specs.Quality.{worst}
use Rattle.rows.specs.Rows.{rows_in}
use Rattle.rows.specs.RowMeasure.{row_quality}
use Rattle.tally.proofs.WorstRowByRow.{met}
use Rattle.tally.proofs.MeasuredRows.worst.Given as goal

abbrev pub invariant-loop-i : goal.invariant-loop-i
invariant-loop-i l =
    (1 ≤ l.i) × (l.i ≤ l.self.n)
    × (Some l.worst ≡ met (worst (map (row_quality (points_in l.self.coordinates.now l.self.count)) (rows_in l.self.table.now l.i))))
