-- `row_volume` is `row_d`, D of the corners.
use mathlib.Core.Path.{◌∙◌}
use Rattle.rows.specs.RowMeasure.{row_d}
use Rattle.volume.proofs.VolumeComputed.{read}
use Rattle.tally.proofs.row_volume.Goals as goal

pub returns : goal.returns
unfolding row_d
returns c = read c.volume.type_inv c.volume.ensures.0 ∙ rw c.corners_of.ensures
