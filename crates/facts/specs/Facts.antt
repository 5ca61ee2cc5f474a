-- Requirement §13: the twelve facts as one computed table, and the printout of block A.
use Rattle.std.specs.Prelude.{ℕ, Bool, false, ◌&&◌, List, [], ◌∷◌, ◌++◌, map, T, eqb, pos, length, take, drop, replicate, Option, None, Some}
use Rattle.lists.specs.Lists.{every, same}
use Rattle.volume.specs.declared.Point.{Point}
use Rattle.volume.specs.Volume.{same_z}
use Rattle.score.specs.Score.{score_of, badness, added, total_badness, octave}
use Rattle.rows.specs.declared.Row.{Row}
use Rattle.rows.specs.RowMeasure.{row_d, row_s}
use Rattle.layout.specs.Layout.{Patch, block_bytes, body_bytes, fields_of, bytes_of}
use Rattle.ring.specs.Ring.{site_of}
use Rattle.triangulation.specs.Triangulation.{Tri, side, cut, ways, new_rows}
use Rattle.tally.specs.Tally.{qualities}
use Rattle.calls.specs.Removing.{worst_now, remove_answer, remove_bytes}
use Rattle.calls.specs.Flipping.{flip_answer, flip_bytes}
use Rattle.lines.specs.Lines.{text}
use Rattle.printout.specs.Printout.{printout}
use Rattle.facts.specs.AllDefinitions.{definitions}
use Rattle.rows.specs.Labels.{no_marks}

-- ---- the patches

-- a place
abbrev pub at : ℕ → ℕ → ℕ → Point
at x y z = record { x = x; y = y; z = z }

-- a row of region 7
abbrev pub row : ℕ → ℕ → ℕ → ℕ → Row
row p q r s = record { p = p; q = q; r = r; s = s; region = 7; marks = no_marks }

-- Block A, with point 0 at a place and with more points and rows.
unfoldable pub block_a_with : Point → List Point → List Row → Patch
block_a_with top points rows = record {
  points = top ∷ at 4 4 0 ∷ at 0 0 6 ∷ at 12 0 6 ∷ at 0 12 6 ∷ points;
  rows = row 0 1 2 3 ∷ row 0 1 3 4 ∷ row 0 1 4 2 ∷ rows;
}

-- Block A.
unfoldable pub block_a : Patch
block_a = block_a_with (at 4 4 12) [] []

-- Fact 5: point 0 at (4,4,7).
unfoldable pub low_a : Patch
low_a = block_a_with (at 4 4 7) [] []

-- Fact 6: four rows round 0, 1.
unfoldable pub octahedron : Patch
octahedron = record {
  points = at 6 6 12 ∷ at 6 6 0 ∷ at 12 6 6 ∷ at 6 12 6 ∷ at 0 6 6 ∷ at 6 0 6 ∷ [];
  rows = row 0 1 2 3 ∷ row 0 1 3 4 ∷ row 0 1 4 5 ∷ row 0 1 5 2 ∷ [];
}

-- Fact 7: A without its third row.
unfoldable pub open_a : Patch
open_a = record { points = block_a.points; rows = take 2 block_a.rows }

-- Fact 8: A with a sixth point and the row (5,2,3,4); the answer is the same at every place of that point, and so is fact 9's
-- (`any_place` in the crate instances).
unfoldable pub blocked_a : Patch
blocked_a = block_a_with (at 4 4 12) (at 9 9 9 ∷ []) (row 5 2 3 4 ∷ [])

-- Fact 9: A with an unused sixth point.
unfoldable pub six_a : Patch
six_a = block_a_with (at 4 4 12) (at 9 9 9 ∷ []) []

-- Fact 11: no points and no rows.
unfoldable pub nothing : Patch
nothing = record { points = []; rows = [] }

-- Fact 12: a regular tetrahedron, arranged upright.
unfoldable pub regular : Patch
regular = record {
  points = at 0 0 0 ∷ at 12 12 0 ∷ at 12 0 12 ∷ at 0 12 12 ∷ [];
  rows = row 0 1 2 3 ∷ [];
}

-- ---- what is asked of them

-- an output block
abbrev pub blank : List ℕ
blank = replicate block_bytes 0

-- the answer of the removal of edge e f
abbrev pub answer : Patch → ℕ → ℕ → ℕ
answer patch e f = remove_answer (bytes_of 1 patch) blank e f

-- the patch after an accepted removal of edge 0, 1
abbrev pub after : Patch → Patch
after patch = fields_of (remove_bytes (bytes_of 1 patch) blank 0 1)

-- the new rows round edge 0, 1 by a triangulation of the ring, whether it is carried out or not
abbrev new_by : Tri → Patch → Patch
new_by t patch = record { points = patch.points; rows = new_rows (site_of patch 0 1) 1 t }

-- the new a-row of the only triangulation of a ring of three
abbrev a_row : Patch → Patch
a_row patch = record { points = patch.points; rows = take 1 (new_by (cut side side) patch).rows }

-- D of the rows is as expected
abbrev Ds : Patch → List ℕ → Bool
Ds patch expected = same same_z (map (row_d patch.points) patch.rows) (map pos expected)

-- S of the rows is as expected
abbrev Ss : Patch → List ℕ → Bool
Ss patch expected = same eqb (map (row_s patch.points) patch.rows) expected

-- the scores of the rows are as expected
abbrev scores : Patch → List ℕ → Bool
scores patch expected = same eqb (map score_of (qualities patch)) expected

-- the badness of the rows, all upright, is as expected
abbrev badnesses : Patch → List ℕ → Bool
badnesses patch expected = same eqb (map (λ q. added (badness q)) (qualities patch)) expected

-- the octave is n
abbrev is_octave : Option ℕ → ℕ → Bool
is_octave (Some e) n = eqb e n
is_octave None n = false

-- ---- the table

-- Facts to hold.
unfoldable pub facts : List Bool
facts =
    -- 1. Block A: D is 576 in each row; S is 656, 896, 656.
    (Ds block_a (576 ∷ 576 ∷ 576 ∷ []) && Ss block_a (656 ∷ 896 ∷ 656 ∷ []))
    -- 2. Its new rows: D 864, S 876.
    ∷ (Ds (after block_a) (864 ∷ 864 ∷ []) && Ss (after block_a) (876 ∷ 876 ∷ []))
    -- 3. Scores 797, 584, 797 before; 782 and 782 after.
    ∷ (scores block_a (797 ∷ 584 ∷ 797 ∷ []) && scores (after block_a) (782 ∷ 782 ∷ []))
    -- 4. Badness 2, 6, 2: sum 10, octave 1.
    ∷ (badnesses block_a (2 ∷ 6 ∷ 2 ∷ []) && eqb (total_badness (qualities block_a)) 10
    && is_octave (octave (qualities block_a)) 1)
    -- 5. A with point 0 at (4,4,7): answer 16. Worst score now 499; the new a-row has D 144 and score 269.
    ∷ (eqb (answer low_a 0 1) 16 && eqb (score_of (worst_now (site_of low_a 0 1))) 499
    && Ds (a_row low_a) (144 ∷ []) && scores (a_row low_a) (269 ∷ []))
    -- 6. Octahedron: old and new D 432, S 504, by each of the two ways. Equal is not better: 16.
    ∷ (Ds octahedron (replicate 4 432) && Ss octahedron (replicate 4 504) && eqb (answer octahedron 0 1) 16
    && eqb (length (ways 3)) 2
    && every (λ t. Ds (new_by t octahedron) (replicate 4 432) && Ss (new_by t octahedron) (replicate 4 504)) (ways 3))
    -- 7. A without its third row, edge 0, 1: 19 for the removal; the plain 3-2 flip still gets 11.
    ∷ (eqb (answer open_a 0 1) 19 && eqb (flip_answer (bytes_of 1 open_a) blank (0 ∷ 1 ∷ [])) 11)
    -- 8. A with a sixth point and the row (5,2,3,4): 15.
    ∷ eqb (answer blocked_a 0 1) 15
    -- 9. A, edge 0, 0 or 0, 5: 9; with an unused sixth point, 0, 5 gives 10.
    ∷ (eqb (answer block_a 0 0) 9 && eqb (answer block_a 0 5) 9 && eqb (answer six_a 0 5) 10)
    -- 10. 2-3 flip of face 2, 3, 4 in A's result: A's rows, in A's order.
    ∷ same eqb (flip_bytes (bytes_of 1 (after block_a)) blank (2 ∷ 3 ∷ 4 ∷ [])) (bytes_of 1 block_a)
    -- 11. The block with no points and no rows ends in bytes 1, 0, 252, 1.
    ∷ same eqb (drop body_bytes (bytes_of 1 nothing)) (1 ∷ 0 ∷ 252 ∷ 1 ∷ [])
    -- 12. A regular row: D 3456, S 1728, score 1000, badness 1.
    ∷ (Ds regular (3456 ∷ []) && Ss regular (1728 ∷ []) && scores regular (1000 ∷ []) && badnesses regular (1 ∷ []))
    ∷ []

-- there are twelve, and all hold
pub twelve_facts : T (eqb (length facts) 12 && every (λ fact. fact) facts)
unfolding facts block_a_with block_a low_a octahedron open_a blocked_a six_a nothing regular definitions
twelve_facts = tt

-- the printout of block A, edge 0, 1
pub printout_of_A :
    T (same eqb (printout (bytes_of 1 block_a ++ (0 ∷ 1 ∷ [])))
    (text "answer 0\nbefore 3 0 0 584 1\nafter 2 0 0 782 1\nring 2 3 4\nrow 0 2 3 4 7\nrow 2 3 4 1 7\n"))
unfolding block_a_with block_a definitions
printout_of_A = tt
