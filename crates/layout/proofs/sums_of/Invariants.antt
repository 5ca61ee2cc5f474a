-- From the rest of the slice on, the sums so far come to the sums of the whole.
use Rattle.std.proofs.Common.{◌≡◌, drop}
use Rattle.layout.specs.Layout.{sums_onto, sums_of}
use Rattle.layout.proofs.sums_of.Given as goal

abbrev pub invariant-loop-byte : goal.invariant-loop-byte
invariant-loop-byte l = sums_onto (record { first = l.first; second = l.second }) (drop l.byte-index l.body) ≡ sums_of l.body
