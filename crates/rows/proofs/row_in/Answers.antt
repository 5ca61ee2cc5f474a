-- `row_in` reads the five bytes of the row, in order, and the version of the block for the last of them.
use Rattle.rows.proofs.RowsOfTables.{row_is}
use Rattle.rows.proofs.row_in.Goals as goal

pub returns : goal.returns
returns c =
    let a = c.args in
    row_is a.table.now a.i c.labels_of-labels.result c.labels_of-labels.ensures
