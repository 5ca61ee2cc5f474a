-- Requirement §3, marked faces: what is asked of a replacement of rows, and what it keeps of the marks.
use Rattle.std.specs.Prelude.{ℕ, ◌+◌, ◌≤◌, Bool, ◌≡◌, T}
use mathlib.Core.List.{List, [], ◌∷◌, Memᴰ}
use Rattle.lists.specs.Lists.{every, any, count, has, different}
use Rattle.rows.specs.declared.Row.{Row}
use Rattle.rows.specs.Rows.{numbers}
use Rattle.mesh.specs.Mesh.{Face, uses, uses_either_way, reversed}
use Rattle.marking.specs.Marking.{marks, marked_in, agree}

-- ---- a table

-- each directed face is used at most once: the mesh rule's second half, counted
abbrev pub UsedOnce : List Row → Type 0
UsedOnce rows = (f : Face) → count (uses f) rows ≤ 1

-- the mesh rule's first half, of which the point count is left out: no row holds a number twice
abbrev pub AllDifferent : List Row → Type 0
AllDifferent rows = (t : Row) → Memᴰ t rows → T (different (numbers t))

-- both rows at a face agree, as a statement: two rows that use it, once each way, mark it both or neither
abbrev pub Agree : List Row → Type 0
Agree rows = (t u : Row) → Memᴰ t rows → Memᴰ u rows → (f : Face)
    → T (uses f t) → T (uses (reversed f) u) → marks f t ≡ marks (reversed f) u

-- each row marks, of the faces that it uses, just those that the marking marks
abbrev pub MarkedBy : (Face → Bool) → List Row → Type 0
MarkedBy marked rows = (f : Face) (t : Row) → Memᴰ t rows → T (uses f t) → marks f t ≡ marked f

-- the face has all these numbers
abbrev pub has_all : List ℕ → Face → Bool
has_all numbers f = every (has (f.0 ∷ f.1 ∷ f.2 ∷ [])) numbers

-- ---- some rows of a table are replaced

-- the table is the removed and the kept rows, in any order: every test passes as often
abbrev pub Parted : List Row → List Row → List Row → Type 0
Parted before removed kept = (p : Row → Bool) → count p before ≡ count p removed + count p kept

-- a directed face of a removed row is used by no new row the other way round
abbrev pub Apart : List Row → List Row → Type 0
Apart removed new = (f : Face) → T (any (uses f) removed) → T (any (uses (reversed f)) new) → ⊥

-- no marked face goes: a face that a removed row marks stands in the table afterwards, one way round or the other
abbrev pub NoMarkGoes : List Row → List Row → Type 0
NoMarkGoes removed after = (f : Face) → T (any (marks f) removed) → T (any (uses_either_way f) after)

-- What a replacement keeps of the marks: both rows at a face agree, and the marked faces are those of the table before.
pub record MarksKept (before after : List Row) : Type 0 where
  pub agrees : T (agree after)
  pub marked : (f : Face) → marked_in after f ≡ marked_in before f
