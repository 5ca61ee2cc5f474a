-- What is computed of the blocks: they open, the edge 0, 1 meets the premises of the third demand, and so on.
use Prim.Native.Nat.{ℕ, ◌≤◌}
use mathlib.Core.Bool.{Bool, true, false, not}
use mathlib.Core.List.{List, [], ◌∷◌, ◌++◌}
use mathlib.Core.Path.{◌≡◌, refl, subst}
use lib.Dec.{T, lit≤}
use lib.ListN.{length}
use Rattle.lists.specs.Lists.{every, those}
use Rattle.quality.specs.Quality.{worse}
use Rattle.rows.specs.Rows.{version, holds_edge}
use Rattle.layout.specs.Layout.{max_rows, fields_of, bytes_of}
use Rattle.layout.specs.Within.{is_byte}
use Rattle.layout.proofs.CellsReadBack.{roomy}
use Rattle.block.specs.Opening.{open_answer}
use Rattle.ring.specs.Ring.{Site, site_of, m}
use Rattle.triangulation.specs.Triangulation.{side, cut}
use Rattle.triangulation.specs.Best.{worst_of_way}
use Rattle.triangulation.proofs.WholeRing.{RingWay}
use Rattle.calls.specs.Removing.{rows_made, remove_answer}
use Rattle.demands.specs.Summaries.{uprights}
use Rattle.demands.specs.Premises.{Premises}
use Rattle.demands.proofs.PremisesMet.{premises_by}
use Rattle.facts.specs.AllDefinitions.{definitions}
use Rattle.facts.specs.Facts.{blank, block_a_with, block_a, octahedron}
use Rattle.plate.specs.Plate.{plate_points, plate_rows, plate}
use Rattle.rivals.specs.Useless.{six, six_best, fan_first, fan_last, fanned, table_fanned}

-- the premises of the third demand, with a ring or chain that is computed
pub premises_with : (block : List ℕ) (closed : Bool) (vs : List ℕ)
    → let site = site_of (fields_of block) 0 1 in
    Premises block blank 0 1 site.closed site.ring → site.closed ≡ closed → site.ring ≡ vs → Premises block blank 0 1 closed vs
premises_with block closed vs given c r =
    subst (λ us. Premises block blank 0 1 closed us) r
    (subst (λ b. Premises block blank 0 1 b (site_of (fields_of block) 0 1).ring) c given)

-- ---- block A

pub opens_A : open_answer (bytes_of 1 block_a) ≡ 0
unfolding block_a_with block_a definitions
opens_A = refl

pub bytes_A : T (every is_byte (bytes_of 1 block_a))
unfolding block_a_with block_a definitions
bytes_A = tt

pub done_A : remove_answer (bytes_of 1 block_a) blank 0 1 ≡ 0
unfolding block_a_with block_a definitions
done_A = refl

pub points_A : length (fields_of (bytes_of 1 block_a)).points ≡ 5
unfolding block_a_with block_a definitions
points_A = refl

pub rows_A : length (fields_of (bytes_of 1 block_a)).rows ≡ 3
unfolding block_a_with block_a definitions
rows_A = refl

pub left_A : let patch = fields_of (bytes_of 1 block_a) in
    let site = site_of patch 0 1 in
    length (those (λ row. not (holds_edge 0 1 row)) patch.rows ++ rows_made site) ≡ 2
unfolding block_a_with block_a definitions
left_A = refl

pub upright_A : length (uprights (fields_of (bytes_of 1 block_a))) ≡ 3
unfolding block_a_with block_a definitions
upright_A = refl

-- the premises of the third demand can be met: a closed ring of three
found_A : let site = site_of (fields_of (bytes_of 1 block_a)) 0 1 in Premises (bytes_of 1 block_a) blank 0 1 site.closed site.ring
unfolding block_a_with block_a definitions
found_A =
    premises_by (bytes_of 1 block_a) blank 0 1 (record { opens = refl; one = refl }) refl refl refl refl refl refl (cut side side)
    (record { spans = refl; keeps = tt })

closed_A : (site_of (fields_of (bytes_of 1 block_a)) 0 1).closed ≡ true
unfolding block_a_with block_a definitions
closed_A = refl

ring_A : (site_of (fields_of (bytes_of 1 block_a)) 0 1).ring ≡ 2 ∷ 3 ∷ 4 ∷ []
unfolding block_a_with block_a definitions
ring_A = refl

pub premises_A : Premises (bytes_of 1 block_a) blank 0 1 true (2 ∷ 3 ∷ 4 ∷ [])
premises_A = premises_with (bytes_of 1 block_a) true (2 ∷ 3 ∷ 4 ∷ []) found_A closed_A ring_A

-- ---- the octahedron

pub opens_octahedron : open_answer (bytes_of 1 octahedron) ≡ 0
unfolding octahedron definitions
opens_octahedron = refl

pub bytes_octahedron : T (every is_byte (bytes_of 1 octahedron))
unfolding octahedron definitions
bytes_octahedron = tt

pub upright_octahedron : length (uprights (fields_of (bytes_of 1 octahedron))) ≡ 4
unfolding octahedron definitions
upright_octahedron = refl

-- ---- the plate

pub done_plate : remove_answer (bytes_of 1 plate) blank 0 1 ≡ 0
unfolding plate_points plate_rows plate definitions
done_plate = refl

pub points_plate : length (fields_of (bytes_of 1 plate)).points ≡ 6
unfolding plate_points plate_rows plate definitions
points_plate = refl

-- and a flat chain of four
found_plate : let site = site_of (fields_of (bytes_of 1 plate)) 0 1 in Premises (bytes_of 1 plate) blank 0 1 site.closed site.ring
unfolding plate_points plate_rows plate definitions
found_plate =
    premises_by (bytes_of 1 plate) blank 0 1 (record { opens = refl; one = refl }) refl refl refl refl refl refl (cut side (cut side side))
    (record { spans = refl; keeps = tt })

closed_plate : (site_of (fields_of (bytes_of 1 plate)) 0 1).closed ≡ false
unfolding plate_points plate_rows plate definitions
closed_plate = refl

ring_plate : (site_of (fields_of (bytes_of 1 plate)) 0 1).ring ≡ 3 ∷ 5 ∷ 4 ∷ 2 ∷ []
unfolding plate_points plate_rows plate definitions
ring_plate = refl

pub premises_plate : Premises (bytes_of 1 plate) blank 0 1 false (3 ∷ 5 ∷ 4 ∷ 2 ∷ [])
premises_plate = premises_with (bytes_of 1 plate) false (3 ∷ 5 ∷ 4 ∷ 2 ∷ []) found_plate closed_plate ring_plate

-- ---- a ring of six

-- the edge in it
abbrev pub six_site : Site
six_site = site_of (fields_of (bytes_of 1 six)) 0 1

pub opens_six : open_answer (bytes_of 1 six) ≡ 0
unfolding six definitions
opens_six = refl

pub done_six : remove_answer (bytes_of 1 six) blank 0 1 ≡ 0
unfolding six definitions
done_six = refl

pub best_six : RingWay six_site six_best
unfolding six definitions
best_six = record { spans = refl; keeps = tt }

pub two_six : 2 ≤ m six_site
unfolding six definitions
two_six = lit≤ tt

found_six : Premises (bytes_of 1 six) blank 0 1 six_site.closed six_site.ring
unfolding six definitions
found_six = premises_by (bytes_of 1 six) blank 0 1 (record { opens = refl; one = refl }) refl refl refl refl refl refl six_best best_six

closed_six : (site_of (fields_of (bytes_of 1 six)) 0 1).closed ≡ true
unfolding six definitions
closed_six = refl

ring_six : (site_of (fields_of (bytes_of 1 six)) 0 1).ring ≡ 2 ∷ 3 ∷ 4 ∷ 5 ∷ 6 ∷ 7 ∷ []
unfolding six definitions
ring_six = refl

pub premises_six : Premises (bytes_of 1 six) blank 0 1 true (2 ∷ 3 ∷ 4 ∷ 5 ∷ 6 ∷ 7 ∷ [])
premises_six = premises_with (bytes_of 1 six) true (2 ∷ 3 ∷ 4 ∷ 5 ∷ 6 ∷ 7 ∷ []) found_six closed_six ring_six

-- no row is kept
pub alone_six : six_site.kept ≡ []
unfolding six definitions
alone_six = refl

-- each fan has a worse worst than the best way, and there is room for it

pub first_room : length (table_fanned fan_first six_site) ≤ max_rows
unfolding six fan_first fanned definitions
first_room = lit≤ tt

pub first_fit : T (every (roomy (version (bytes_of 1 six))) (table_fanned fan_first six_site))
unfolding six fan_first fanned definitions
first_fit = tt

pub first_worse : T (worse (worst_of_way six_site 1 (fanned fan_first six_site)) (worst_of_way six_site 1 six_best))
unfolding six fan_first fanned definitions
first_worse = tt

pub last_room : length (table_fanned fan_last six_site) ≤ max_rows
unfolding six fan_last fanned definitions
last_room = lit≤ tt

pub last_fit : T (every (roomy (version (bytes_of 1 six))) (table_fanned fan_last six_site))
unfolding six fan_last fanned definitions
last_fit = tt

pub last_worse : T (worse (worst_of_way six_site 1 (fanned fan_last six_site)) (worst_of_way six_site 1 six_best))
unfolding six fan_last fanned definitions
last_worse = tt
