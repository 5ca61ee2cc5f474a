-- The starts that are passed are entered.
use Rattle.std.proofs.Common.{ℕ, ◌<◌, get_or}
use mathlib.Core.List.{Memᴰ}
use Rattle.links.specs.Links.{ends}
use Rattle.links.specs.Steps.{links_in}
use Rattle.walk.proofs.first_point.Given as goal

abbrev pub invariant-loop-v : goal.invariant-loop-v
invariant-loop-v l = (k : ℕ) → k < l.v-index → Memᴰ (get_or l.v-items k 0) (ends (links_in l.fn.links))
