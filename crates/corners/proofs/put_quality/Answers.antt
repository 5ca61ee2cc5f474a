-- `corners::put_quality` writes the parts of the quality, and where a length is another one it leaves all as it was.
use Rattle.std.proofs.Common.{arith}
use Rattle.std.proofs.lemmas.Bool.Decides.{nat_tests}
use Rattle.corners.specs.Corners.{measured}
use Rattle.corners.proofs.put_quality.Goals as goal

pub returns-then-out-eq-PARTS : goal.returns-then-out-eq-PARTS
unfolding measured
returns-then-out-eq-PARTS c = grind (arith, nat_tests)

pub returns-else-corners-eq-CORNER_BYTES : goal.returns-else-corners-eq-CORNER_BYTES
unfolding measured
returns-else-corners-eq-CORNER_BYTES c = grind (arith, nat_tests)
