-- The counts are those of whole records.
use Rattle.vectors.specs.Counting.{Counted}
use Rattle.vectors.proofs.run_all.Given as goal

abbrev pub invariant-loop : goal.invariant-loop
invariant-loop g l = Counted l.counts
