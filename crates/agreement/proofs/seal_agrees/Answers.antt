-- The answer, then every byte.
use Rattle.std.proofs.Common.{arith}
use Rattle.agreement.specs.Agreement.{seal_agrees}
use Rattle.answers.proofs.Refusals.{number_of_lem}
use Rattle.agreement.proofs.seal_agrees.Goals as goal

pub returns-then-answer_is : goal.returns-then-answer_is
unfolding seal_agrees
returns-then-answer_is c = grind (arith, number_of_lem)

pub returns-else-answer_is : goal.returns-else-answer_is
unfolding seal_agrees
returns-else-answer_is c = grind (arith, number_of_lem)
