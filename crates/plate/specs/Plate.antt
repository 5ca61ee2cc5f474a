-- Requests [1] and [6], computed on the sample plate: an edge on a flat outer face, what bars it, and marks there.
use Rattle.std.specs.Prelude.{◌&&◌, List, [], ◌∷◌, ◌++◌, T, eqb, take}
use Rattle.lists.specs.Lists.{same}
use Rattle.volume.specs.declared.Point.{Point}
use Rattle.rows.specs.declared.Row.{Row}
use Rattle.layout.specs.Layout.{Patch, bytes_of}
use Rattle.calls.specs.Removing.{remove_bytes}
use Rattle.calls.specs.Flipping.{flip_answer}
use Rattle.lines.specs.Lines.{text}
use Rattle.printout.specs.Printout.{printout}
use Rattle.facts.specs.AllDefinitions.{definitions}
use Rattle.facts.specs.Facts.{at, row, blank, answer}
use Rattle.facts.specs.Marked.{pqs, prq, row_with, answer2}

-- the plate's points, with point 2 at a place: 0, 1, 2 and 3 lie on its flat outer face
unfoldable pub plate_points : Point → List Point
plate_points two = at 0 8 12 ∷ at 24 8 12 ∷ two ∷ at 12 14 12 ∷ at 12 0 0 ∷ at 12 16 0 ∷ []

-- its three rows: a chain from 3 by 5 and 4 to 2
unfoldable pub plate_rows : List Row
plate_rows = row 0 1 4 2 ∷ row 0 1 5 4 ∷ row 0 1 3 5 ∷ []

unfoldable pub plate : Patch
plate = record { points = plate_points (at 12 2 12); rows = plate_rows }

-- the plate with point 2 one step out of the plane
unfoldable pub bent_plate : Patch
bent_plate = record { points = plate_points (at 12 2 11); rows = plate_rows }

-- the plate's points and a seventh above them, with rows
abbrev seven_with : List Row → Patch
seven_with rows = record { points = plate_points (at 12 2 12) ++ (at 12 8 24 ∷ []); rows = rows }

-- the plate with a seventh point above it and more rows
unfoldable pub plate_under : List Row → Patch
plate_under rows = seven_with (plate_rows ++ rows)

-- the plate with some of its rows alone
unfoldable pub plate_of : List Row → Patch
plate_of rows = record { points = plate_points (at 12 2 12); rows = rows }

-- the chain keeps its own start, 3, which is not the smallest; either order of the ends has the same answer
pub plate_removed :
    T (same eqb (printout (bytes_of 1 plate ++ (0 ∷ 1 ∷ [])))
    (text "answer 0\nbefore 3 0 0 608 2\nafter 4 0 0 809 1\nring 3 5 4 2\nrow 0 3 5 2 7\nrow 3 5 2 1 7\nrow 0 5 4 2 7\nrow 5 4 2 1 7\n")
    && eqb (answer plate 1 0) 0)
unfolding plate_points plate_rows plate definitions
plate_removed = tt

-- the plain 3-2 flip gets 11; so does the removal, where there are two chains
pub open_cases_lem :
    T (eqb (flip_answer (bytes_of 1 plate) blank (0 ∷ 1 ∷ [])) 11 && eqb (answer (plate_of (row 0 1 4 2 ∷ row 0 1 3 5 ∷ [])) 0 1) 11)
unfolding plate_points plate_rows plate plate_of definitions
open_cases_lem = tt

-- an edge in a single row is a chain of two: 13
pub single_row : T (eqb (answer (plate_of (take 1 plate_rows)) 0 1) 13)
unfolding plate_points plate_rows plate_of definitions
single_row = tt

-- one step out of the plane: 19
pub bent : T (eqb (answer bent_plate 0 1) 19)
unfolding plate_points plate_rows bent_plate definitions
bent = tt

-- a kept row that uses a face across the chain, (0,3,2) or (1,2,3), in that direction: 15; in the other direction it is allowed
pub faces_across :
    T (eqb (answer (plate_under (row 0 3 6 2 ∷ [])) 0 1) 15 && eqb (answer (plate_under (row 0 2 6 3 ∷ [])) 0 1) 0
    && eqb (answer (plate_under (row 1 2 6 3 ∷ [])) 0 1) 15 && eqb (answer (plate_under (row 1 3 6 2 ∷ [])) 0 1) 0)
unfolding plate_points plate_rows plate_under definitions
faces_across = tt

-- ---- marks

-- a mark on either outer face at the edge, 0, 1, 2 or 0, 1, 3, would go: 23
pub outside_marked :
    T (eqb (answer2 (plate_of (row_with pqs 0 1 4 2 ∷ row 0 1 5 4 ∷ row 0 1 3 5 ∷ [])) 0 1) 23
    && eqb (answer2 (plate_of (row 0 1 4 2 ∷ row 0 1 5 4 ∷ row_with prq 0 1 3 5 ∷ [])) 0 1) 23)
unfolding plate_points plate_of definitions
outside_marked = tt

-- a kept row marks the face across the chain, (0,2,3): the new row that uses it in the other direction takes its mark
pub mark_across :
    T (same eqb (remove_bytes (bytes_of 2 (plate_under (row_with pqs 0 2 6 3 ∷ []))) blank 0 1)
    (bytes_of 2 (seven_with (row_with pqs 0 2 6 3 ∷ row_with pqs 0 3 5 2 ∷ row 3 5 2 1 ∷ row 0 5 4 2 ∷ row 5 4 2 1 ∷ []))))
unfolding plate_points plate_rows plate_under definitions
mark_across = tt
