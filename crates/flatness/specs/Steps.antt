-- What only contracts of inner functions and proofs say: the row across an open chain.
use Rattle.std.specs.Prelude.{ℕ, ◌-◌, ◌≤◌, ◌<◌, List, get_or}
use Rattle.rows.specs.declared.Row.{Row}
use Rattle.tally.specs.Steps.{Placed}
use Rattle.ring.specs.declared.Ring.{Ring}
use Rattle.ring.specs.Ring.{max_ring}
use Rattle.rows.specs.Labels.{no_marks}

-- the row across an open chain: a, b, v1 and vm
abbrev pub across : ℕ → ℕ → Ring → Row
across a b ring = record { p = a; q = b; r = get_or ring.v 0 0; s = get_or ring.v (ring.m - 1) 0; region = 0; marks = no_marks }

-- The ring or chain is not empty, and that row's points have their coordinates.
pub record Crossed (coordinates : List ℕ) (count a b : ℕ) (ring : Ring) : Type 0 where
  pub some_point : 0 < ring.m
  pub short : ring.m ≤ max_ring
  pub placed : Placed coordinates count (across a b ring)
