-- How many triangulations a polygon has, computed: of 3 to 10 points by the list of all trees, of 3 to 6 points without a tree, by trying
-- every choice of m - 2 triangles. The list counts each triangulation once: every tree in it cuts the polygon, and each set of triangles
-- that cuts the polygon has its tree at one place of the list and at no other.
use Prim.Native.Nat.{ℕ, zero, suc, ◌-◌, ◌≤◌, ◌<◌}
use mathlib.Core.List.{List, [], ◌∷◌, ◌++◌, map, flat_map, Memᴰ}
use mathlib.Core.Path.{◌≡◌, refl}
use native.Mathlib.Omega.{arith}
use lib.Dec.{T}
use lib.ListN.{length, get_or}
use Rattle.lists.specs.Lists.{every, any, those, count, numbers_from}
use Rattle.triangulation.specs.Triangulation.{Tri, side, span, Triangle, triangles, ways_within, ways}
use Rattle.polygon.specs.Polygon.{sides, overtakes, cross, same_triangle, overlap, apart, within, cuts, Alike}
use Rattle.lists.proofs.Places.{at_in, in_at}
use Rattle.triangulation.proofs.AllWays.{ways_all, ways_span}
use Rattle.polygon.proofs.CutsAreTrees.{tree_of, cuts_by}
use Rattle.polygon.proofs.OneTree.{same_tree_lem}
use Rattle.polygon.proofs.NoTreeTwice.{no_tree_twice}

-- the tree of triangles that cut the polygon stands in the list
pub every_way : (m : ℕ) (ts : List Triangle) → 2 ≤ m → T (cuts m ts)
    → (t : Tri) × Memᴰ t (ways (m - 1)) × Alike ts (triangles 1 t)
every_way m ts two h = let (t, spans, alike) = tree_of m ts two h in (t, rw (← spans) (ways_all t), alike)

-- a tree at a place of the list has the polygon's span
span_at : (m i : ℕ) → 2 ≤ m → i < length (ways (m - 1)) → span (get_or (ways (m - 1)) i side) ≡ m - 1
span_at m i two h = ways_span (m - 1) (omega arith) (at_in (ways (m - 1)) i side h)

-- the triangulation at a place of the list
abbrev pub way_at : ℕ → ℕ → List Triangle
way_at m i = triangles 1 (get_or (ways (m - 1)) i side)

-- it cuts the polygon
pub way_cuts : (m i : ℕ) → 2 ≤ m → i < length (ways (m - 1)) → T (cuts m (way_at m i))
way_cuts m i two h = cuts_by m (way_at m i) two (get_or (ways (m - 1)) i side) (span_at m i two h) (λ x. refl)

-- triangles that cut the polygon have one place in the list, and no other
pub one_place : (m : ℕ) (ts : List Triangle) → 2 ≤ m → T (cuts m ts)
    → (i : ℕ) × (i < length (ways (m - 1))) × Alike ts (way_at m i)
    × ((j : ℕ) → j < length (ways (m - 1)) → Alike ts (way_at m j) → j ≡ i)
one_place m ts two h =
    let w = every_way m ts two h in
    let p = in_at (ways (m - 1)) side w.1 in
    let i = p.0 in
    let alike : Alike ts (way_at m i) = rw p.2 w.2 in (
      i,
      p.1,
      alike,
      λ j k a. no_tree_twice (m - 1) side j i k p.1
          (same_tree_lem m ts (get_or (ways (m - 1)) j side) (get_or (ways (m - 1)) i side) (span_at m j two k) (span_at m i two p.1) a alike),
    )

-- the list for 3 to 10 points
pub counted : map (λ m. length (ways (m - 1))) (numbers_from 3 8) ≡ 1 ∷ 2 ∷ 5 ∷ 14 ∷ 42 ∷ 132 ∷ 429 ∷ 1430 ∷ []
unfolding ways_within numbers_from flat_map
counted = refl

-- all triangles with corners from 1 to m
pub all_triangles : ℕ → List Triangle
all_triangles m =
    let places = numbers_from 1 m in
    those (within 1 m) (flat_map (λ i. flat_map (λ k. map (λ j. (i, k, j)) places) places) places)

-- all choices of n of them
pub choices : ℕ → List Triangle → List (List Triangle)
choices zero xs = [] ∷ []
choices (suc n) [] = []
choices (suc n) (x ∷ xs) = map (λ ys. x ∷ ys) (choices n xs) ++ choices (suc n) xs

-- as many of them cut the polygon
pub tried : map (λ m. count (cuts m) (choices (m - 2) (all_triangles m))) (numbers_from 3 4) ≡ 1 ∷ 2 ∷ 5 ∷ 14 ∷ []
unfolding every any those numbers_from flat_map sides overtakes cross same_triangle overlap apart within cuts all_triangles choices
tried = refl
