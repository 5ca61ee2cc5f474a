-- Requirement §8, said of the rows alone: which rows both flips take and leave.
use Rattle.std.specs.Prelude.{ℕ, ◌≤◌, not, ◌≡◌, T, length}
use mathlib.Core.List.{List, [], ◌∷◌, ◌++◌, Memᴰ}
use Rattle.lists.specs.Lists.{every, any, those, count, has, different}
use Rattle.rows.specs.declared.Row.{Row}
use Rattle.rows.specs.Labels.{no_marks}
use Rattle.rows.specs.Rows.{holds, holds_edge, holds_face}
use Rattle.rows.specs.Regions.{region_of}
use Rattle.mesh.specs.Mesh.{keeps_mesh_rule}
use Rattle.marking.specs.Marking.{dressed}
use Rattle.layout.specs.Layout.{Patch}
use Rattle.tables.specs.RoundAnEdge.{linked}

-- the table keeps the mesh rule, with the points of the patch
abbrev pub KeepsRule : Patch → List Row → Type 0
KeepsRule patch rows = T (keeps_mesh_rule (length patch.points) rows)

-- ---- the 3-2 flip

-- the rows that do not hold the edge
abbrev pub off : List Row → ℕ → ℕ → List Row
off rows a b = those (λ row. not (holds_edge a b row)) rows

-- (a,u,v,w) and (u,v,w,b)
abbrev pub rows_across : ℕ → ℕ → ℕ → ℕ → ℕ → ℕ → List Row
rows_across a b u v w region =
    record { p = a; q = u; r = v; s = w; region = region; marks = no_marks }
    ∷ record { p = u; q = v; r = w; s = b; region = region; marks = no_marks } ∷ []

-- the new rows of the flip of a, b in the ring u, v, w: these two, with the region of the rows that go
abbrev pub new32 : List Row → ℕ → ℕ → ℕ → ℕ → ℕ → List Row
new32 rows a b u v w = rows_across a b u v w (region_of (those (holds_edge a b) rows))

-- and with their marks, by the rows that go and those that stay
abbrev pub made32 : List Row → ℕ → ℕ → ℕ → ℕ → ℕ → List Row
made32 rows a b u v w = dressed (those (holds_edge a b) rows) (off rows a b) (new32 rows a b u v w)

-- the table after the flip: the rows that do not hold the edge, then the new ones
abbrev pub after32 : List Row → ℕ → ℕ → ℕ → ℕ → ℕ → List Row
after32 rows a b u v w = off rows a b ++ made32 rows a b u v w

-- ---- the 2-3 flip

-- how many rows hold the face
abbrev pub facing : List Row → ℕ → ℕ → ℕ → ℕ
facing rows x y z = count (holds_face (x ∷ y ∷ z ∷ [])) rows

-- Both apexes are one point: two rows hold the face, and both hold a besides.
pub record OneApex (rows : List Row) (x y z a : ℕ) : Type 0 where
  pub two : facing rows x y z ≡ 2
  pub apart : T (different (a ∷ x ∷ y ∷ z ∷ []))
  pub both : (row : Row) → Memᴰ row rows → T (holds_face (x ∷ y ∷ z ∷ []) row) → T (holds row a)

-- The apexes over a face x, y, z, in either order: five different points, where one row holds the face and a, another the face and b.
pub record Apexes (rows : List Row) (x y z a b : ℕ) : Type 0 where
  pub apart : T (different (a ∷ b ∷ x ∷ y ∷ z ∷ []))
  pub over_a : T (any (holds_face (a ∷ x ∷ y ∷ z ∷ [])) rows)
  pub over_b : T (any (holds_face (b ∷ x ∷ y ∷ z ∷ [])) rows)

-- a's row in the order in which the flip reads it: (a,u,v,w), evenly rearranged, with the numbers of the face and u the smallest of them
pub record ReadFrom (rows : List Row) (x y z a u v w : ℕ) : Type 0 where
  pub row : T (linked rows a u v w)
  pub of_face : T (every (has (x ∷ y ∷ z ∷ [])) (u ∷ v ∷ w ∷ []))
  pub smallest : (n : ℕ) → Memᴰ n (x ∷ y ∷ z ∷ []) → u ≤ n

-- (a,b,u,v), (a,b,v,w) and (a,b,w,u)
abbrev pub rows_round : ℕ → ℕ → ℕ → ℕ → ℕ → ℕ → List Row
rows_round a b u v w region =
    let row : ℕ → ℕ → Row = λ r s. record { p = a; q = b; r = r; s = s; region = region; marks = no_marks } in
    row u v ∷ row v w ∷ row w u ∷ []

-- the new rows of the flip: these three, with the region of the rows that go
abbrev pub new23 : List Row → List ℕ → ℕ → ℕ → ℕ → ℕ → ℕ → List Row
new23 rows face a b u v w = rows_round a b u v w (region_of (those (holds_face face) rows))

-- and with their marks, by the rows that go and those that stay
abbrev pub made23 : List Row → List ℕ → ℕ → ℕ → ℕ → ℕ → ℕ → List Row
made23 rows face a b u v w =
    dressed (those (holds_face face) rows) (those (λ row. not (holds_face face row)) rows) (new23 rows face a b u v w)

-- the table after the flip: the rows that do not hold the face, then the new ones
abbrev pub after23 : List Row → List ℕ → ℕ → ℕ → ℕ → ℕ → ℕ → List Row
after23 rows face a b u v w = those (λ row. not (holds_face face row)) rows ++ made23 rows face a b u v w
