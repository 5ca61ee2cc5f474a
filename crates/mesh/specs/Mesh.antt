-- Requirement §3: orientation, directed faces and the mesh rule.
use Rattle.std.specs.Prelude.{ℕ, ◌<◌, Bool, true, not, ◌&&◌, ◌||◌, List, [], ◌∷◌, ◌≡◌, T, eqb, ltb, length, get_or}
use Rattle.lists.specs.Lists.{every, any, different}
use Rattle.rows.specs.declared.Row.{Row}
use Rattle.rows.specs.Rows.{numbers, no_row}

-- ---- directed faces

-- A directed face.
abbrev pub Face : Type 0
Face = ℕ × ℕ × ℕ

-- row (p,q,r,s) has the directed faces (q,r,s), (p,s,r), (p,q,s), (p,r,q)
unfoldable pub faces : Row → List Face
faces row =
    let p = row.p in
    let q = row.q in
    let r = row.r in
    let s = row.s in
    (q, r, s) ∷ (p, s, r) ∷ (p, q, s) ∷ (p, r, q) ∷ []

-- the same three numbers in the same places
abbrev pub same_three : Face → Face → Bool
same_three f g = eqb f.0 g.0 && eqb f.1 g.1 && eqb f.2 g.2

-- turning a face's three numbers round in a circle gives the same face
unfoldable pub same_face : Face → Face → Bool
same_face f g = same_three f g || same_three f (g.1, g.2, g.0) || same_three f (g.2, g.0, g.1)

-- the row uses the directed face
unfoldable pub uses : Face → Row → Bool
uses f row = any (same_face f) (faces row)

-- the face the other way round
abbrev pub reversed : Face → Face
reversed f = (f.0, f.2, f.1)

-- the row uses the face, either way round
abbrev pub uses_either_way : Face → Row → Bool
uses_either_way f row = uses f row || uses (reversed f) row

-- ---- the mesh rule

-- the numbers of a row are below the point count and all different
unfoldable pub numbers_fit : ℕ → Row → Bool
numbers_fit count row = every (λ n. ltb n count) (numbers row) && different (numbers row)

-- no directed face stands in two rows
unfoldable pub faces_apart : List Row → Bool
faces_apart [] = true
faces_apart (row ∷ rows) = let rest = faces_apart rows in every (λ f. not (any (uses f) rows)) (faces row) && rest

-- mesh rule, as a test: the numbers of a row are below the point count and all different, and no directed face stands in two rows
unfoldable pub keeps_mesh_rule : ℕ → List Row → Bool
keeps_mesh_rule count rows = every (numbers_fit count) rows && faces_apart rows

-- The numbers of a row are below the point count and all different, as a statement.
pub record Proper (count : ℕ) (row : Row) : Type 0 where
  pub below_p : row.p < count
  pub below_q : row.q < count
  pub below_r : row.r < count
  pub below_s : row.s < count
  pub p_q : row.p ≡ row.q → ⊥
  pub p_r : row.p ≡ row.r → ⊥
  pub p_s : row.p ≡ row.s → ⊥
  pub q_r : row.q ≡ row.r → ⊥
  pub q_s : row.q ≡ row.s → ⊥
  pub r_s : row.r ≡ row.s → ⊥

-- Mesh rule, as a statement: every row is proper, and two rows that use one directed face are one row.
pub record MeshRule (count : ℕ) (rows : List Row) : Type 0 where
  pub proper : (i : ℕ) → i < length rows → Proper count (get_or rows i no_row)
  pub apart : (i j : ℕ) → i < length rows → j < length rows
      → (f : Face) → T (uses f (get_or rows i no_row)) → T (uses f (get_or rows j no_row)) → i ≡ j
