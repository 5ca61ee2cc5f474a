-- A block of version 1 has no marks.
use Rattle.rows.specs.Labels.{labels_of}
use Rattle.rows.specs.Rows.{stored_row, row_in}
use Rattle.rows.proofs.unmarked.Goals as goal

pub returns : goal.returns
unfolding row_in stored_row labels_of
returns c h i = rw h
