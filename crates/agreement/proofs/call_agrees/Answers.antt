-- The call whose number is stored is the one that is run.
use Rattle.std.proofs.Common.{arith}
use Rattle.std.proofs.lemmas.Bool.Decides.{nat_tests}
use Rattle.agreement.specs.Agreement.{call_agrees}
use Rattle.agreement.proofs.call_agrees.Goals as goal

pub returns-in-Ok-Open : goal.returns-in-Ok-Open
unfolding call_agrees
returns-in-Ok-Open c = grind (arith, nat_tests)

pub returns-in-Ok-Seal : goal.returns-in-Ok-Seal
unfolding call_agrees
returns-in-Ok-Seal c = grind (arith, nat_tests)

pub returns-in-Ok-Summary : goal.returns-in-Ok-Summary
unfolding call_agrees
returns-in-Ok-Summary c = grind (arith, nat_tests)

pub returns-in-Ok-Remove : goal.returns-in-Ok-Remove
unfolding call_agrees
returns-in-Ok-Remove c = grind (arith, nat_tests)

pub returns-in-Ok-Flip : goal.returns-in-Ok-Flip
unfolding call_agrees
returns-in-Ok-Flip c = grind (arith, nat_tests)

pub returns-in-Err : goal.returns-in-Err
unfolding call_agrees
returns-in-Err c = grind (arith, nat_tests)
