-- `row_quality` is `row_quality`, the quality of the corners.
use mathlib.Core.Path.{◌∙◌}
use Rattle.rows.specs.RowMeasure.{row_quality}
use Rattle.tally.proofs.row_quality.Goals as goal

pub returns : goal.returns
unfolding row_quality
returns c = c.of.ensures ∙ rw c.corners_of.ensures
