-- The rows that are tested are those of the block.
use mathlib.Core.Bool.{not}
use mathlib.Core.Path.{sym, ap, ◌∙◌}
use native.Mathlib.Omega.{arith}
use Rattle.body.proofs.BodyWritten.{numbers_tested}
use Rattle.body.proofs.number_wrong.Goals as goal

pub overflow_cast-block : goal.overflow_cast-block
overflow_cast-block c = omega (arith, c.type_inv.block 1)

pub returns : goal.returns
returns c = ap not c.all_fit.ensures ∙ sym (numbers_tested c.args.block.now)
