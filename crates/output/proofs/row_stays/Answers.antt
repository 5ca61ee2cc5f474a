-- `row_stays` turns `holds_face` round.
use mathlib.Core.Bool.{not}
use mathlib.Core.Path.{ap}
use Rattle.output.specs.Output.{stays}
use Rattle.output.proofs.row_stays.Goals as goal

pub returns : goal.returns
unfolding stays
returns c = ap not c.holds_face.ensures
