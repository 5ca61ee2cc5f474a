-- The ring round an edge of a block, and the apex of the whole ring, in the words of the calls.
use Rattle.std.specs.Prelude.{ℕ, cond, ◌&&◌, List, [], eqb, ltb, Result, Ok, Err}
use Rattle.std.proofs.Math.Option.{get_or}
use Rattle.answers.specs.declared.Refusal.{Refusal}
use Rattle.layout.specs.Layout.{fields_of}
use Rattle.block.specs.Opening.{open_answer}
use Rattle.ring.specs.declared.Ring.{Ring}
use Rattle.ring.specs.declared.Found.{Found}
use Rattle.ring.specs.Ring.{site_of, m, rings_alone, ring_with}
use Rattle.triangulation.specs.Best.{apex}
use Rattle.edge.specs.Steps.{edge_found}

-- the ring that is found; with a refusal it has no points
abbrev pub found_ring : Result Found Refusal → Ring
found_ring (Ok found) = found.ring
found_ring (Err refusal) = ring_with []

-- the closed ring round the edge, where the block opens and the ends are in order; with a refusal it has no points
unfoldable pub ring_at : List ℕ → ℕ → ℕ → Ring
ring_at block e f = cond (ltb e f && eqb (open_answer block) 0) (found_ring (edge_found rings_alone block e f)) (ring_with [])

-- the apex of the whole ring; 0 where there is no ring, or the mark
unfoldable pub top_apex : List ℕ → ℕ → ℕ → ℕ
top_apex block e f =
    let site = site_of (fields_of block) e f in
    cond (eqb (ring_at block e f).m 0) 0 (get_or (apex site 1 (m site)) 0)
