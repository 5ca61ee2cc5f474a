-- What the table's callers know is what the rows keep; the coordinates are bytes since they are read from such.
use Rattle.layout.proofs.BytesOfSlices.{all_bytes}
use Rattle.tally.proofs.MeasuredRows.of_table.Goals as goal

pub invariant_of-result : goal.invariant_of-result
invariant_of-result c = record { bytes = all_bytes c.args.coordinates.now c.type_inv.coordinates; measured = c.requires }
