-- The sums are those of the cells so far, in 64 bits.
use Rattle.std.proofs.Common.{◌≡◌, ◌%◌, ◌^◌, map, take}
use Rattle.lists.specs.Lists.{sum as sum_of}
use Rattle.counts.proofs.total.Given as goal

abbrev pub invariant-loop-cases : goal.invariant-loop-cases
invariant-loop-cases l =
    (l.sum.all ≡ sum_of (take l.cases-index (map (λ cases. cases.all) l.counts.cells)) % 2 ^ 64)
    × (l.sum.agreeing ≡ sum_of (take l.cases-index (map (λ cases. cases.agreeing) l.counts.cells)) % 2 ^ 64)
