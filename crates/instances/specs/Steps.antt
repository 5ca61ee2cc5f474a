-- What only contracts of inner functions and proofs say: an input for each number on a call's list.
use Rattle.std.specs.Prelude.{ℕ, List, [], ◌∷◌, ◌++◌, map, take, drop, replicate, set}
use Rattle.volume.specs.declared.Point.{Point}
use Rattle.rows.specs.declared.Row.{Row}
use Rattle.layout.specs.Layout.{Patch, body_bytes, body_of, sealed, bytes_of}
use Rattle.facts.specs.Facts.{at, row, block_a_with, block_a, low_a, octahedron, open_a, blocked_a, six_a}
use Rattle.facts.specs.Joint.{row_of, joint}
use Rattle.facts.specs.Marked.{half_glued, load, capped_a, split_a}
use Rattle.plate.specs.Plate.{plate_rows, plate_of}
use Rattle.full_blocks.specs.FullBlocks.{strip, sixty_four, six_ring}

-- ---- the blocks

-- block A with more rows
abbrev with_rows : List Row → Patch
with_rows rows = block_a_with (at 4 4 12) [] rows

-- the body of block A with another byte i
abbrev body_with : ℕ → ℕ → List ℕ
body_with i byte = set (body_of 1 block_a) i byte

-- Numbers, each with an input that gets it.
abbrev pub Cases : Type 0 → Type 0
Cases X = List (ℕ × X)

-- 1 to 5, 7, 8 and 22
unfoldable pub wrong_blocks : Cases (List ℕ)
wrong_blocks =
    -- no byte at all
    (1, [])
    -- zeros for the sums
    ∷ (2, body_of 1 block_a ++ replicate 4 0)
    -- version 3
    ∷ (3, sealed (body_with 0 3))
    -- 65 points
    ∷ (4, sealed (body_with 1 65))
    -- 1 in a byte that must be zero
    ∷ (5, sealed (body_with 3 1))
    -- a row with point 5 of five points
    ∷ (7, bytes_of 1 (with_rows (row 2 3 4 5 ∷ [])))
    -- the first row twice
    ∷ (8, bytes_of 1 (with_rows (row 0 1 2 3 ∷ [])))
    -- a face that one of its two rows marks
    ∷ (22, bytes_of 2 half_glued)
    ∷ []

-- the same and 0 of both versions, of opening and of the summary
unfoldable pub open_cases : Cases (List ℕ)
open_cases = (0, bytes_of 1 block_a) ∷ (0, bytes_of 2 capped_a) ∷ wrong_blocks

-- 0, 1, 3 to 5, 7, 8 and 22 of sealing: the same without their sums
unfoldable pub seal_cases : Cases (List ℕ)
seal_cases = (0, body_of 1 block_a) ∷ (0, body_of 2 capped_a) ∷ (1, []) ∷ map (λ c. (c.0, take body_bytes c.1)) (drop 2 wrong_blocks)

-- ---- edges

-- A block and two ends.
abbrev pub Edge : Type 0
Edge = List ℕ × ℕ × ℕ

-- two rings of three round the edge 0, 1
unfoldable pub two_rings : Patch
two_rings = record {
  points = block_a.points ++ replicate 3 (at 9 9 9);
  rows = block_a.rows ++ (row 0 1 5 6 ∷ row 0 1 6 7 ∷ row 0 1 7 5 ∷ []);
}

-- block A with another region in its third row
unfoldable pub mixed_a : Patch
mixed_a = record { points = block_a.points; rows = row 0 1 2 3 ∷ row 0 1 3 4 ∷ row_of 8 4 2 ∷ [] }

-- those of opening, 9, 10, 12, 20, 23 and 15, which a removal and a 3-2 flip share
unfoldable pub edge_cases : Cases Edge
edge_cases =
    map (λ c. (c.0, (c.1, 0, 1))) open_cases
    -- one point for both ends
    ++ (9, (bytes_of 1 block_a, 0, 0))
    -- an end that is in no row
    ∷ (10, (bytes_of 1 six_a, 0, 5))
    ∷ (12, (bytes_of 1 two_rings, 0, 1))
    -- a row of another region
    ∷ (20, (bytes_of 1 mixed_a, 0, 1))
    -- a marked face that has both ends
    ∷ (23, (bytes_of 2 split_a, 0, 1))
    -- a kept row has the triangle of the ring
    ∷ (15, (bytes_of 1 blocked_a, 0, 1))
    ∷ []

-- the others of a removal
unfoldable pub remove_cases : Cases Edge
remove_cases =
    -- two chains
    (11, (bytes_of 1 (plate_of (row 0 1 4 2 ∷ row 0 1 3 5 ∷ [])), 0, 1))
    -- a single row
    ∷ (13, (bytes_of 1 (plate_of (take 1 plate_rows)), 0, 1))
    -- a chain that is not flat
    ∷ (19, (bytes_of 1 open_a, 0, 1))
    -- 59 rows with a ring of six
    ∷ (14, (bytes_of 1 (six_ring 53), 0, 1))
    -- every new row is worse
    ∷ (16, (bytes_of 1 low_a, 0, 1))
    ∷ []

-- the others of a 3-2 flip
unfoldable pub flip32_cases : Cases Edge
flip32_cases =
    -- a chain
    (11, (bytes_of 1 open_a, 0, 1))
    -- a ring of four
    ∷ (13, (bytes_of 1 octahedron, 0, 1))
    ∷ []

-- ---- faces

-- A block and the three numbers of a face.
abbrev pub Face : Type 0
Face = List ℕ × ℕ × ℕ × ℕ

-- what a removal leaves of block A, with more points and rows
abbrev two_rows : List Point → List Row → Patch
two_rows points rows = record { points = block_a.points ++ points; rows = row 0 2 3 4 ∷ row 2 3 4 1 ∷ rows }

-- one tetrahedron, both ways round
abbrev both_ways : Patch
both_ways = record { points = block_a.points; rows = row 0 1 2 3 ∷ row 1 0 2 3 ∷ [] }

-- 64 points, and 60 rows in a strip
abbrev long_strip : Patch
long_strip = record { points = sixty_four []; rows = strip 0 60 }

-- those of opening, 9 to 11, 14, 15, 18, 20 and 23
unfoldable pub flip23_cases : Cases Face
flip23_cases =
    map (λ c. (c.0, (c.1, 2, 3, 4))) wrong_blocks
    ++ (0, (bytes_of 1 (two_rows [] []), 2, 3, 4))
    -- one point twice
    ∷ (9, (bytes_of 1 block_a, 2, 2, 3))
    -- no row has all three
    ∷ (10, (bytes_of 1 block_a, 2, 3, 4))
    -- one row has
    ∷ (11, (bytes_of 1 block_a, 0, 2, 3))
    ∷ (18, (bytes_of 1 both_ways, 0, 1, 2))
    -- the face between copper and epoxy
    ∷ (20, (bytes_of 1 joint, 0, 1, 2))
    -- a marked face
    ∷ (23, (bytes_of 2 load, 0, 1, 2))
    ∷ (14, (bytes_of 1 long_strip, 1, 2, 3))
    -- a kept row has the face (0,1,3)
    ∷ (15, (bytes_of 1 (two_rows (at 9 9 9 ∷ []) (row 5 0 1 3 ∷ [])), 2, 3, 4))
    ∷ []

-- ---- neither an edge nor a face

-- those of opening but 0, and 21
unfoldable pub other_cases : Cases (List ℕ)
other_cases = (21, bytes_of 1 block_a) ∷ wrong_blocks
