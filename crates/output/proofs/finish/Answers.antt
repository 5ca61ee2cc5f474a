-- `finish` stores the number of rows and stamps the sums.
use mathlib.Core.Path.{◌∙◌}
use native.Mathlib.Omega.{arith}
use lib.ListN.{length-set}
use Rattle.output.proofs.finish.Goals as goal

pub shape_of-out : goal.shape_of-out
shape_of-out c = c.out-1.given ∙ simp length-set (omega arith)
