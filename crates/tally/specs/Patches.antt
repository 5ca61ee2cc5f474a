-- What is said of rows that can be measured: the patch that they are of.
use Rattle.layout.specs.Layout.{Patch}
use Rattle.tally.specs.Tally.{patch_in}
use Rattle.tally.specs.declared.MeasuredRows.{MeasuredRows}

-- the patch of the points and the rows
abbrev pub patch_of : MeasuredRows → Patch
patch_of rows = patch_in rows.coordinates.now rows.count rows.table.now rows.n
