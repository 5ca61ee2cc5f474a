-- Request [6], computed on the samples glued and load: a load surface on the faces round an edge, and one that runs through the edge.
use Rattle.std.specs.Prelude.{ℕ, Bool, true, false, ◌&&◌, ◌||◌, T, eqb, length}
use mathlib.Core.List.{List, [], ◌∷◌, ◌++◌, map, flat_map}
use Rattle.lists.specs.Lists.{every, those, same}
use Rattle.volume.specs.declared.Point.{Point}
use Rattle.rows.specs.declared.Marks.{Marks}
use Rattle.rows.specs.declared.Row.{Row}
use Rattle.rows.specs.Labels.{no_marks}
use Rattle.mesh.specs.Mesh.{Face}
use Rattle.marking.specs.Marking.{marked_faces, marked_in}
use Rattle.layout.specs.Layout.{Patch, fields_of, body_of, bytes_of}
use Rattle.block.specs.Opening.{open_answer, seal_answer}
use Rattle.calls.specs.Removing.{remove_answer, remove_bytes}
use Rattle.calls.specs.Flipping.{flip_answer, flip_bytes}
use Rattle.lines.specs.Lines.{text}
use Rattle.printout.specs.Printout.{printout}
use Rattle.facts.specs.AllDefinitions.{definitions}
use Rattle.facts.specs.Facts.{at, row, block_a_with, block_a, blank}

-- ---- rows with marks

-- one face of a row is marked; the samples name it so too
abbrev pub qrs : Marks
qrs = record { qrs = true; psr = false; pqs = false; prq = false }

abbrev pub psr : Marks
psr = record { qrs = false; psr = true; pqs = false; prq = false }

abbrev pub pqs : Marks
pqs = record { qrs = false; psr = false; pqs = true; prq = false }

abbrev pub prq : Marks
prq = record { qrs = false; psr = false; pqs = false; prq = true }

-- the marks of both
abbrev pub both : Marks → Marks → Marks
both m n = record { qrs = m.qrs || n.qrs; psr = m.psr || n.psr; pqs = m.pqs || n.pqs; prq = m.prq || n.prq }

-- a row of region 7 with marks
abbrev pub row_with : Marks → ℕ → ℕ → ℕ → ℕ → Row
row_with marks p q r s = record { p = p; q = q; r = r; s = s; region = 7; marks = marks }

-- the faces that rows mark; one between two rows stands there twice
abbrev pub surface : List Row → List Face
surface rows = map (λ g. g.0) (those (λ g. g.1) (flat_map marked_faces rows))

-- each face that is marked in the one is marked in the other
abbrev pub same_surface : Patch → Patch → Bool
same_surface patch other =
    every (marked_in other.rows) (surface patch.rows) && every (marked_in patch.rows) (surface other.rows)

-- ---- the patches

-- the edge 0, 1 and four points round it
unfoldable pub load_points : List Point
load_points = at 40 40 120 ∷ at 40 40 0 ∷ at 80 40 60 ∷ at 40 80 60 ∷ at 0 40 60 ∷ at 40 0 60 ∷ []

-- a seventh point above them, with rows
abbrev glued_of : List Row → Patch
glued_of rows = record { points = load_points ++ (at 90 90 120 ∷ []); rows = rows }

-- four rows round the edge, which mark their upper faces, and one above, which marks what it is told to
unfoldable pub glued_under : Marks → Patch
glued_under marks =
    glued_of
    (row_with psr 0 1 2 3 ∷ row_with pqs 3 0 1 4 ∷ row_with psr 0 1 4 5 ∷ row_with prq 5 2 0 1 ∷ row_with marks 6 0 2 3 ∷ [])

-- the face 0, 2, 3 is marked in both its rows
unfoldable pub glued : Patch
glued = glued_under qrs

-- it is marked in one of them
unfoldable pub half_glued : Patch
half_glued = glued_under no_marks

-- the row above, then four others under the same upper faces
unfoldable pub glued_after : Patch
glued_after =
    glued_of
    (row_with qrs 6 0 2 3 ∷ row_with (both pqs prq) 0 2 3 5 ∷ row 2 3 5 1 ∷ row_with (both psr prq) 0 3 4 5 ∷ row 3 4 5 1 ∷ [])

-- the four rows round the edge; each has the face 0, 1, 2 or the face 0, 1, 4, as (p,r,q) or as (p,q,s)
unfoldable pub load_of : Marks → Marks → Patch
load_of asPrq asPqs = record {
  points = load_points;
  rows = row_with asPrq 0 1 2 3 ∷ row_with asPqs 0 1 3 4 ∷ row_with asPrq 0 1 4 5 ∷ row_with asPqs 0 1 5 2 ∷ [];
}

-- both faces are marked
unfoldable pub load : Patch
load = load_of prq pqs

-- block A with its upper faces marked
unfoldable pub capped_a : Patch
capped_a = record { points = block_a.points; rows = row_with psr 0 1 2 3 ∷ row_with psr 0 1 3 4 ∷ row_with psr 0 1 4 2 ∷ [] }

-- block A with the face 0, 1, 2 marked
unfoldable pub split_a : Patch
split_a = record { points = block_a.points; rows = row_with prq 0 1 2 3 ∷ row 0 1 3 4 ∷ row_with pqs 0 1 4 2 ∷ [] }

-- ---- what is asked of them, in blocks of version 2

-- the answer of the removal of edge e f
abbrev pub answer2 : Patch → ℕ → ℕ → ℕ
answer2 patch e f = remove_answer (bytes_of 2 patch) blank e f

-- the answer of a flip
abbrev pub flip2 : Patch → List ℕ → ℕ
flip2 patch numbers = flip_answer (bytes_of 2 patch) blank numbers

-- the block after an accepted flip
abbrev flipped : Patch → List ℕ → List ℕ
flipped patch numbers = flip_bytes (bytes_of 2 patch) blank numbers

-- ---- a surface round the edge

-- the edge is removed, in either order of the ends; a row is printed without its marks
pub glued_removed :
    T (same eqb (printout (bytes_of 2 glued ++ (0 ∷ 1 ∷ [])))
    (text "answer 0\nbefore 5 0 0 655 1\nafter 5 0 0 885 1\nring 2 3 4 5\nrow 0 2 3 5 7\nrow 2 3 5 1 7\nrow 0 3 4 5 7\nrow 3 4 5 1 7\n")
    && eqb (answer2 glued 1 0) 0)
unfolding load_points glued_under glued definitions
glued_removed = tt

-- the block afterwards has version 2 and the marks in its rows
pub glued_bytes : T (same eqb (remove_bytes (bytes_of 2 glued) blank 0 1) (bytes_of 2 glued_after) && eqb (open_answer (bytes_of 2 glued_after)) 0)
unfolding load_points glued_under glued glued_after definitions
glued_bytes = tt

-- four faces are marked, one of them in two rows, and they are the same before and afterwards
pub glued_stays :
    T (eqb (length (surface glued.rows)) 5 && eqb (length (surface glued_after.rows)) 5 && same_surface glued glued_after)
unfolding load_points glued_under glued glued_after definitions
glued_stays = tt

-- where the row above does not mark the face that it has in common with another, the block does not open, nor is its body sealed
pub half_glued_lem :
    T (eqb (open_answer (bytes_of 2 half_glued)) 22 && eqb (seal_answer (body_of 2 half_glued) blank) 22 && eqb (answer2 half_glued 0 1) 22)
unfolding load_points glued_under half_glued seal_answer definitions
half_glued_lem = tt

-- ---- a surface through the edge

-- it is refused, in either order of the ends; were nothing marked, the edge would be removed
pub load_refused :
    T (same eqb (printout (bytes_of 2 load ++ (0 ∷ 1 ∷ []))) (text "answer 23\n")
    && eqb (answer2 load 1 0) 23 && eqb (answer2 (load_of no_marks no_marks) 0 1) 0)
unfolding load_points load_of load definitions
load_refused = tt

-- a marked face is not flipped; one beside the surface is, and the surface stays
pub load_flipped :
    T (eqb (flip2 load (0 ∷ 1 ∷ 2 ∷ [])) 23 && eqb (flip2 load (0 ∷ 1 ∷ 3 ∷ [])) 0
    && eqb (flip2 load (0 ∷ 1 ∷ 4 ∷ [])) 23 && eqb (flip2 load (0 ∷ 1 ∷ 5 ∷ [])) 0
    && same_surface load (fields_of (flipped load (0 ∷ 1 ∷ 3 ∷ []))))
unfolding load_points load_of load definitions
load_flipped = tt

-- ---- three rows

-- an edge with a marked face is neither removed nor flipped
pub split_refused : T (eqb (answer2 split_a 0 1) 23 && eqb (flip2 split_a (0 ∷ 1 ∷ [])) 23)
unfolding block_a_with block_a split_a definitions
split_refused = tt

-- marks on the outer faces are carried to the two rows, and back to the three
pub capped_flipped :
    T (let two = fields_of (flipped capped_a (0 ∷ 1 ∷ [])) in
    eqb (length two.rows) 2 && same_surface capped_a two && same eqb (flipped two (2 ∷ 3 ∷ 4 ∷ [])) (bytes_of 2 capped_a))
unfolding block_a_with block_a capped_a definitions
capped_flipped = tt

-- with nothing marked version 2 prints what version 1 does
pub unmarked_alike : T (same eqb (printout (bytes_of 2 block_a ++ (0 ∷ 1 ∷ []))) (printout (bytes_of 1 block_a ++ (0 ∷ 1 ∷ []))))
unfolding block_a_with block_a definitions
unmarked_alike = tt
