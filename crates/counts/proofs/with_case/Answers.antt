-- The two tests of the cell.
use Rattle.std.proofs.Common.{arith}
use Rattle.std.proofs.lemmas.Bool.Decides.{nat_tests}
use Rattle.counts.specs.CaseCounts.{counted}
use Rattle.counts.proofs.with_case.Goals as goal

pub returns-then-column-lt-ANSWERS : goal.returns-then-column-lt-ANSWERS
unfolding counted
returns-then-column-lt-ANSWERS c = grind (arith, nat_tests)

pub returns-else-row-lt-CALLS : goal.returns-else-row-lt-CALLS
unfolding counted
returns-else-row-lt-CALLS c = grind (arith, nat_tests)
