use Rattle.std.proofs.Common.{◌+◌}
use Rattle.exact.proofs.+less.Given as goal

-- the denominators together fall
abbrev pub decreases-less : goal.decreases-less
decreases-less l = l.d1 + l.d2
