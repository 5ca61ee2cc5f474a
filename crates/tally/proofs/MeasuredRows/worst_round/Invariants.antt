use Prim.Native.Nat.{◌≤◌}
use mathlib.Core.List.{map}
use mathlib.Core.Path.{◌≡◌}
use Rattle.lists.specs.Lists.{those}
use Rattle.volume.specs.Volume.{points_in}
use Rattle.quality.specs.Quality.{worst}
use Rattle.rows.specs.Rows.{rows_in, holds_edge}
use Rattle.rows.specs.RowMeasure.{row_quality}
use Rattle.tally.proofs.WorstRowByRow.{met}
use Rattle.tally.proofs.MeasuredRows.worst_round.Given as goal

abbrev pub invariant-loop-k : goal.invariant-loop-k
invariant-loop-k l =
    (l.k ≤ l.self.n)
    × (l.met ≡ met (worst (map (row_quality (points_in l.self.coordinates.now l.self.count)) (those (holds_edge l.a l.b) (rows_in l.self.table.now l.k)))))
