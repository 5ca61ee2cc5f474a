-- What only contracts of inner functions and proofs say: the tree that a table of apexes stands for, and what writing its rows asks for.
use Rattle.std.specs.Prelude.{ℕ, zero, suc, ◌+◌, ◌-◌, ◌≤◌, ◌<◌, cond, List, [], ◌∷◌, ◌≡◌, ltb, get_or}
use Rattle.std.proofs.Math.Option.{none, some}
use Rattle.rows.specs.declared.Row.{Row}
use Rattle.ring.specs.Ring.{Site}
use Rattle.rows.specs.Regions.{region_of}
use Rattle.triangulation.specs.Triangulation.{Tri, side, cut, v}
use Rattle.kept_faces.specs.declared.Rim.{Rim}
use Rattle.candidates.specs.declared.Bipyramid.{Bipyramid}
use Rattle.cells.specs.Steps.{cell_at, apex_in}
use Rattle.rows.specs.Labels.{no_marks}

-- the rows (a,x,y,z) and (x,y,z,b)
abbrev pub rows_over : Bipyramid → ℕ → List Row
rows_over rows region =
    record { p = rows.a; q = rows.x; r = rows.y; s = rows.z; region = region; marks = no_marks }
    ∷ record { p = rows.x; q = rows.y; r = rows.z; s = rows.b; region = region; marks = no_marks } ∷ []

-- each apex kept for a piece inside (i,j) lies between the piece's ends, or is the mark
pub record Between (apexes : List ℕ) (i j : ℕ) : Type 0 where
  pub high : (l e : ℕ) → i ≤ l → l + 2 ≤ e → e ≤ j → get_or apexes (cell_at l e) 0 < e
  pub low : (l e : ℕ) → i ≤ l → l + 2 ≤ e → e ≤ j → (get_or apexes (cell_at l e) 0 ≡ 0 → ⊥) → l < get_or apexes (cell_at l e) 0

-- the tree of piece (i,j), read from the apexes, if the depth is j - i or more; a piece with the mark has none and stands as a side
unfoldable pub tree_within : ℕ → List ℕ → ℕ → ℕ → Tri
tree_within zero apexes i j = side
tree_within (suc depth) apexes i j =
    let parts : Tri = elim (apex_in apexes i j) [
      | none ↦ side
      | some k ↦ cut (tree_within depth apexes i k) (tree_within depth apexes k j)
    ] in
    cond (ltb j (i + 2)) side parts

-- the tree of piece (i,j), read from the apexes; it spans the piece if no mark is met on the way
abbrev pub tree_in : List ℕ → ℕ → ℕ → Tri
tree_in apexes i j = tree_within (j - i) apexes i j

-- The points and the region are the site's, as far as piece (i,j) asks for them.
pub record SiteRows (site : Site) (rim : Rim) (region i j : ℕ) : Type 0 where
  pub a : rim.a ≡ site.a
  pub b : rim.b ≡ site.b
  pub v : (l : ℕ) → i ≤ l → l ≤ j → get_or rim.v (l - 1) 0 ≡ v site l
  pub own_region : region ≡ region_of site.removed
