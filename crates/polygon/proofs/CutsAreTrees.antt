-- The law that lets a tree stand for a triangulation: the sets of triangles that cut v1..vm are the triangles of the trees of span m - 1,
-- in any order. And there is no room for more than m - 2 triangles.
use Prim.Native.Nat.{ℕ, ◌-◌, ◌≤◌}
use mathlib.Core.List.Memᴰ
use mathlib.Core.List.{List, Memᴰ}
use mathlib.Core.Logic.{◌⊎◌, inl, inr, ◌↔◌}
use mathlib.Core.Path.{◌≡◌}
use native.Mathlib.Omega.{arith}
use lib.Dec.{T, eqb, eqb→eq}
use lib.ListN.{length}
use Rattle.lists.specs.Lists.{every}
use Rattle.triangulation.specs.Triangulation.{Tri, side, cut, span, Triangle, triangles}
use Rattle.polygon.specs.Polygon.{same_triangle, apart, within, cuts, Alike}
use Rattle.lists.proofs.Tests.{and_l, and_r, and_i, eq_test}
use Rattle.lists.proofs.Lists.{every_at, every_i}
use Rattle.triangulation.proofs.Trees.{end_of, end_span, triangles_cut}
use Rattle.triangulation.proofs.TreesTriangulate.{triangles_count, triangles_within}
use Rattle.polygon.proofs.SameTriangles.{alike_length, alike_in}
use Rattle.polygon.proofs.Apart.{within→, →within, Apart, before, under_first, under_second, InOrder, Parted, apart→, →apart}
use Rattle.polygon.proofs.Apart.{pair, parted_append, distinct, parted_by}
use Rattle.polygon.proofs.Parting.{Inside, triangles_side, fill}

-- ---- the triangles of a tree lie apart

pub tree_inside : (i : ℕ) (t : Tri) → Inside i (end_of i t) (triangles i t)
tree_inside i t x m = rw (end_span i t) (triangles_within i t m)

pub tree_parted : (i : ℕ) (t : Tri) → Parted (triangles i t)
tree_parted i side = rw (triangles_side i) tt
tree_parted i (cut l r) =
    let k = end_of i l in
    rw (triangles_cut i l r) (
      λ y m. go y (Memᴰ.append_cases (triangles i l) m),
      parted_append (triangles i l) (triangles k r) (tree_parted i l) (tree_parted k r)
          (λ x y m n. before (omega (arith, tree_inside i l x m, tree_inside k r y n))),
    )
  where
    go : (y : Triangle) → Memᴰ y (triangles i l) ⊎ Memᴰ y (triangles (end_of i l) r)
        → Apart (i, end_of i l, end_of (end_of i l) r) y
    go y (inl m) = let w = tree_inside i l y m in under_first w.0 w.3
    go y (inr m) = let w = tree_inside (end_of i l) r y m in under_second w.0 w.3

-- ---- what the test says

module _ (m : ℕ) (ts : List Triangle) where
  proper : Inside 1 m ts → (x : Triangle) → Memᴰ x ts → InOrder x
  proper w x n = ((w x n).1, (w x n).2)

  pub cuts→ : T (cuts m ts) → (length ts ≡ m - 2) × Inside 1 m ts × Parted ts
  unfolding cuts
  cuts→ h =
      let size : T (eqb (length ts) (m - 2)) = search (and_l, and_r) in
      let places : T (every (within 1 m) ts) = search (and_l, and_r) in
      let free : T (apart ts) = search (and_l, and_r) in
      let inside : Inside 1 m ts = λ x n. within→ 1 m x (every_at (within 1 m) ts places n) in
      (eqb→eq _ _ size, inside, apart→ ts (proper inside) free)

  pub cuts_apart : T (cuts m ts) → T (apart ts)
  unfolding cuts
  cuts_apart h = search (and_l, and_r)

  pub →cuts : length ts ≡ m - 2 → Inside 1 m ts → Parted ts → T (cuts m ts)
  unfolding cuts
  →cuts size inside parted =
      let places = every_i (within 1 m) ts (λ x n. →within 1 m x (inside x n)) in
      let free = →apart ts (proper inside) parted in
      search (and_i, eq_test)

  -- ---- the laws

  -- there is room for m - 2 triangles that do not overlap, not for more
  pub most : 2 ≤ m → T (every (within 1 m) ts) → T (apart ts) → length ts ≤ m - 2
  most two places free =
      let inside : Inside 1 m ts = λ x n. within→ 1 m x (every_at (within 1 m) ts places n) in
      omega (arith, (fill m 1 m (omega arith) (omega arith) ts inside (apart→ ts (proper inside) free)).most)

  -- what cuts the polygon has a tree
  pub tree_of : 2 ≤ m → T (cuts m ts) → (t : Tri) × (span t ≡ m - 1) × Alike ts (triangles 1 t)
  tree_of two h =
      let c = cuts→ h in
      let r = (fill m 1 m (omega arith) (omega arith) ts c.1 c.2).tree (omega (arith, c.0)) in
      (r.0, omega (arith, end_span 1 r.0, r.1), λ x. r.2 (same_triangle x))

  -- a tree's triangles cut the polygon, in any order
  pub cuts_by : 2 ≤ m → (t : Tri) → span t ≡ m - 1 → Alike ts (triangles 1 t) → T (cuts m ts)
  cuts_by two t e a =
      let us = triangles 1 t in
      let last : end_of 1 t ≡ m = omega (arith, end_span 1 t) in
      let inside : Inside 1 m us = rw last at (tree_inside 1 t) in
      let once = distinct us (λ x n. ((inside x n).1, (inside x n).2)) (tree_parted 1 t) in
      →cuts (omega (arith, alike_length ts us a, triangles_count 1 t)) (λ x n. inside x (alike_in ts us a n))
      (parted_by ts (λ x. omega (arith, a x, once x)) (λ x y n k. pair us (tree_parted 1 t) (alike_in ts us a n) (alike_in ts us a k)))

  -- so the one is the other
  pub triangulations : 2 ≤ m → T (cuts m ts) ↔ ((t : Tri) × (span t ≡ m - 1) × Alike ts (triangles 1 t))
  triangulations two = (tree_of two, λ r. cuts_by two r.0 r.1 r.2)
