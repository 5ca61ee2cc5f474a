-- What only contracts of inner functions and proofs say: what finding the ring gives.
use Rattle.std.specs.Prelude.{ℕ, Bool, cond, ◌||◌, List, [], ltb, length, Result, Ok, Err}
use Rattle.rows.specs.declared.Row.{Row}
use Rattle.rows.specs.declared.Regions.{Regions}
use Rattle.rows.specs.Steps.{regions_of}
use Rattle.answers.specs.declared.Refusal.{Refusal}
use Rattle.answers.specs.Answers.{first_refusal, gives}
use Rattle.ring.specs.declared.Found.{Found}
use Rattle.ring.specs.Ring.{Site, site_of, min_ring, max_ring, ring_with, ring_tests}

-- ---- the ring or its refusal

-- with answer 0, whether the ring is closed, the ring, and the regions of its rows; otherwise the refusal
abbrev pub found_with : ℕ → Site → Result Found Refusal
found_with answer site = gives answer (record { closed = site.closed; ring = ring_with site.ring; regions = regions_of site.removed })

-- the ring, or the refusal
unfoldable pub found_of : Bool → Site → Result Found Refusal
found_of chains site = found_with (first_refusal (ring_tests chains site)) site

-- the edge in a table of rows: no answer from 10 to 13 turns on where the points are
abbrev pub edge_in : List Row → ℕ → ℕ → Site
edge_in rows a b = site_of (record { points = []; rows = rows }) a b

-- the ring or chain that a walk went by, if it has 3 to 10 points
unfoldable pub sized_of : Bool → List ℕ → Regions → Result Found Refusal
sized_of closed points regions =
    cond (ltb (length points) min_ring || ltb max_ring (length points)) (Err (record { number = 13 }))
    (Ok (record { closed = closed; ring = ring_with points; regions = regions }))
