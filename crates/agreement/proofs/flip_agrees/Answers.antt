-- The answer, then every byte.
use Rattle.std.proofs.Common.{arith, length, length-take, ap}
use Rattle.agreement.specs.Agreement.{flip_agrees}
use Rattle.answers.proofs.Refusals.{number_of_lem}
use Rattle.agreement.proofs.flip_agrees.Goals as goal

pub slice_bounds-flip-end : goal.slice_bounds-flip-end
slice_bounds-flip-end c =
    simp length-take (omega (arith, ap length c.numbers-given.ensures, c.count-n.ensures))

pub returns-then-answer_is : goal.returns-then-answer_is
unfolding flip_agrees
returns-then-answer_is c = grind (arith, number_of_lem)

pub returns-else-answer_is : goal.returns-else-answer_is
unfolding flip_agrees
returns-else-answer_is c = grind (arith, number_of_lem)
