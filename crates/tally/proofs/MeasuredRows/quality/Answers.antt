-- A row of a table that can be measured has its places.
use Rattle.tally.proofs.RowsMeasured.{measured_row}
use Rattle.tally.proofs.MeasuredRows.quality.Goals as goal

pub row_quality-requires : goal.row_quality-requires
row_quality-requires c = rw c.row_in.ensures (measured_row c.args.self.now.measured c.args.i c.requires)
