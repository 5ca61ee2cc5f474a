-- The version, the counts, the coordinates and the rows, one after the other.
use Rattle.std.proofs.Common.{arith}
use Rattle.std.proofs.lemmas.Bool.Decides.{nat_tests}
use Rattle.expected.specs.Expected.{fields_are}
use Rattle.expected.proofs.SameBytes.{pointwise-same}
use Rattle.expected.proofs.fields_are.Goals as goal

pub returns-then-eq : goal.returns-then-eq
unfolding fields_are
returns-then-eq c = grind (arith, nat_tests, pointwise-same)

pub returns-else-eq : goal.returns-else-eq
unfolding fields_are
returns-else-eq c = grind (arith, nat_tests, pointwise-same)
