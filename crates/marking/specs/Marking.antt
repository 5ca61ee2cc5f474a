-- Requirement §3, marked faces: which faces the rows of a table mark, when both rows at a face agree (answer 22), whether a marked face would
-- go (answer 23), and how new rows take their marks. A face and the same face the other way round are one face; a mark is of both.
use Rattle.std.specs.Prelude.{ℕ, Bool, false, cond, not, ◌&&◌, ◌||◌}
use Rattle.std.specs.Bool.{beq}
use mathlib.Core.List.{List, [], ◌∷◌, map, flat_map}
use Rattle.lists.specs.Lists.{every, any, has}
use Rattle.rows.specs.declared.Row.{Row}
use Rattle.mesh.specs.Mesh.{Face, same_face, uses, reversed}

-- ---- which faces are marked

-- the four directed faces of a row, each with its mark
unfoldable pub marked_faces : Row → List (Face × Bool)
marked_faces row =
    let p = row.p in
    let q = row.q in
    let r = row.r in
    let s = row.s in
    let m = row.marks in
    ((q, r, s), m.qrs) ∷ ((p, s, r), m.psr) ∷ ((p, q, s), m.pqs) ∷ ((p, r, q), m.prq) ∷ []

-- the row uses the directed face, and marks it
unfoldable pub marks : Face → Row → Bool
marks f row = any (λ g. same_face f g.0 && g.1) (marked_faces row)

-- some row marks the face, one way round or the other
unfoldable pub marked_in : List Row → Face → Bool
marked_in rows f = any (marks f) rows || any (marks (reversed f)) rows

-- ---- 22 and 23

-- both rows at a face agree: two faces are both marked or neither is, or they are not one face, once each way round
unfoldable pub agree : List Row → Bool
agree rows =
    let all = flat_map marked_faces rows in
    every (λ g. every (λ h. beq g.1 h.1 || not (same_face (reversed g.0) h.0)) all) all

-- the row marks a face that has all these numbers
unfoldable pub marks_over : List ℕ → Row → Bool
marks_over numbers row =
    let over : Face → Bool = λ f. every (has (f.0 ∷ f.1 ∷ f.2 ∷ [])) numbers in
    any (λ g. over g.0 && g.1) (marked_faces row)

-- 23: a marked face would go. With the ends of an edge the faces go that have both, with three numbers their own face goes.
abbrev pub mark_goes : List ℕ → List Row → Bool
mark_goes numbers removed = any (marks_over numbers) removed

-- ---- the marks of new rows

-- the row with the marks that a marking gives to its faces; numbers and region stay
unfoldable pub dress_by : (Face → Bool) → Row → Row
dress_by marked row =
    let p = row.p in
    let q = row.q in
    let r = row.r in
    let s = row.s in
    record {
      p = p;
      q = q;
      r = r;
      s = s;
      region = row.region;
      marks = record { qrs = marked (q, r, s); psr = marked (p, s, r); pqs = marked (p, q, s); prq = marked (p, r, q) };
    }

-- the mark of a face of a new row: a face of the outer shell, which a removed row used, keeps the mark that it had there; one that a kept
-- row uses, then the other way round, takes that row's mark; any other is unmarked
unfoldable pub new_mark : List Row → List Row → Face → Bool
new_mark removed kept f =
    let shell = any (marks f) removed in
    let beside = any (marks (reversed f)) kept in
    cond (any (uses f) removed) shell (cond (any (uses (reversed f)) kept) beside false)

-- the new rows with their marks
abbrev pub dressed : List Row → List Row → List Row → List Row
dressed removed kept new = map (dress_by (new_mark removed kept)) new
