-- Requirement §7.1: what it is to cut v1..vm into triangles, said of the triangles alone and without a tree. By
-- overlaps: there are m - 2, their corners are places of the ring, and no two overlap (`cuts`). By sides: each side of the ring lies in
-- one of them, and they match along each diagonal (`Covers`).
use Rattle.std.specs.Prelude.{ℕ, suc, ◌+◌, ◌-◌, ◌<◌, ◌≤◌, Bool, true, not, ◌&&◌, ◌||◌, List, [], ◌∷◌, ◌≡◌, T, leb, ltb, eqb, length}
use Rattle.lists.specs.Lists.{every, any, count}
use Rattle.triangulation.specs.Triangulation.{Triangle}

-- ---- triangles that do not overlap

-- a side or a diagonal, by the places of its two ends, the smaller first
abbrev pub Side : Type 0
Side = ℕ × ℕ

-- the three sides of a triangle
unfoldable pub sides : Triangle → List Side
sides x = (x.0, x.1) ∷ (x.1, x.2) ∷ (x.0, x.2) ∷ []

-- d comes first, and e starts before d ends and ends behind it
unfoldable pub overtakes : Side → Side → Bool
overtakes d e = ltb d.0 e.0 && ltb e.0 d.1 && ltb d.1 e.1

-- two sides cross: their ends come by turns on the way round the polygon
unfoldable pub cross : Side → Side → Bool
cross d e = overtakes d e || overtakes e d

-- the corners are the same
unfoldable pub same_triangle : Triangle → Triangle → Bool
same_triangle x y = eqb x.0 y.0 && eqb x.1 y.1 && eqb x.2 y.2

-- triangles overlap if they are the same, or if a side of the one crosses a side of the other
unfoldable pub overlap : Triangle → Triangle → Bool
overlap x y = same_triangle x y || any (λ d. any (cross d) (sides y)) (sides x)

-- none overlaps another
unfoldable pub apart : List Triangle → Bool
apart [] = true
apart (x ∷ xs) = let rest = apart xs in not (any (overlap x) xs) && rest

-- i < k < j, from the first place to the last
unfoldable pub within : ℕ → ℕ → Triangle → Bool
within first last x = leb first x.0 && ltb x.0 x.1 && ltb x.1 x.2 && leb x.2 last

-- m - 2 triangles on the places 1 to m, none of which overlaps another: they cut v1..vm
unfoldable pub cuts : ℕ → List Triangle → Bool
cuts m ts = eqb (length ts) (m - 2) && every (within 1 m) ts && apart ts

-- the one list is the other in some order: each triangle stands as often in both
abbrev pub Alike : List Triangle → List Triangle → Type 0
Alike ts us = (x : Triangle) → count (same_triangle x) ts ≡ count (same_triangle x) us

-- ---- triangles that match along their sides

-- d is the long side of the triangle: the third corner lies between its ends
unfoldable pub inner : Side → Triangle → Bool
inner d x = eqb d.0 x.0 && eqb d.1 x.2

-- d is a short side of the triangle: the third corner lies beyond one of its ends
unfoldable pub outer : Side → Triangle → Bool
outer d x = (eqb d.0 x.0 && eqb d.1 x.1) || (eqb d.0 x.1 && eqb d.1 x.2)

-- The triangles cover v1..vm without a gap or a fold along any side.
pub record Covers (m : ℕ) (ts : List Triangle) : Type 0 where
  -- the corners are places 1 to m
  pub places : T (every (within 1 m) ts)
  -- each side from a place to the next lies in one triangle,
  pub ring : (i : ℕ) → 1 ≤ i → i < m → count (outer (i, suc i)) ts ≡ 1
  -- and so does the side from v1 to vm, which closes the ring
  pub closing : count (inner (1, m)) ts ≡ 1
  -- a diagonal lies in as many triangles on the one side of it as on the other
  pub others : (i j : ℕ) → 1 ≤ i → i + 2 ≤ j → j ≤ m → ((i ≡ 1) × (j ≡ m) → ⊥)
      → count (inner (i, j)) ts ≡ count (outer (i, j)) ts
