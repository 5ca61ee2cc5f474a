-- A set of triangles has one tree at most: two trees of one piece with the same triangles are equal. The triangle on the closing side
-- stands in both, so both cut at its middle corner, and the triangles on either side of that place are the same again.
use Prim.Native.Nat.{ℕ, ◌+◌, ◌-◌}
use mathlib.Core.List.{List, ◌++◌, Memᴰ}
use mathlib.Core.Logic.{◌⊎◌, inl, inr}
use mathlib.Core.Path.{◌≡◌, refl, sym, ap, ap₂}
use native.Mathlib.Omega.{arith}
use Rattle.lists.specs.Lists.{count}
use Rattle.triangulation.specs.Triangulation.{Tri, side, cut, span, Triangle, triangles}
use Rattle.polygon.specs.Polygon.{same_triangle, Alike}
use Rattle.lists.proofs.Places.{in_cases}
use Rattle.lists.proofs.Counts.{ind, count_cons, count_append}
use Rattle.triangulation.proofs.Trees.{end_of, end_span, end_more, triangles_cut}
use Rattle.triangulation.proofs.TreesTriangulate.{InPiece}
use Rattle.polygon.proofs.SameTriangles.{same→, some_in, alike_in}
use Rattle.polygon.proofs.Apart.{by_order}
use Rattle.polygon.proofs.CutsAreTrees.{tree_inside}

-- a tree has no triangle outside its piece
outside : (i : ℕ) (t : Tri) (x : Triangle) → (InPiece i (end_of i t) x → ⊥) → count (same_triangle x) (triangles i t) ≡ 0
outside i t x f =
    by_order (count (same_triangle x) (triangles i t)) 0 (λ a. omega arith)
    (λ a. let r = some_in (same_triangle x) (triangles i t) a in
    absurd (f (rw (same→ x r.0 r.2) (tree_inside i t r.0 r.1))))

-- the only triangle on the closing side is the top one
on_closing : (i : ℕ) (l r : Tri) (x : Triangle) → Memᴰ x (triangles i (cut l r)) → x.0 ≡ i → x.2 ≡ end_of i (cut l r)
    → x.1 ≡ end_of i l
on_closing i l r x m a c =
    in_cases (rw (triangles_cut i l r) at m) (λ e. ap (λ z. z.1) e) (λ n. go (mathlib.Core.List.Memᴰ.append_cases (triangles i l) n))
  where
    go : Memᴰ x (triangles i l) ⊎ Memᴰ x (triangles (end_of i l) r) → x.1 ≡ end_of i l
    go (inl n) = absurd (omega (arith, tree_inside i l x n, end_more (end_of i l) r))
    go (inr n) = absurd (omega (arith, tree_inside (end_of i l) r x n, end_more i l))

cut_counted : (i : ℕ) (l r : Tri) (x : Triangle) → count (same_triangle x) (triangles i (cut l r))
    ≡ ind (same_triangle x (i, end_of i l, end_of (end_of i l) r))
    + (count (same_triangle x) (triangles i l) + count (same_triangle x) (triangles (end_of i l) r))
cut_counted i l r x =
    let k = end_of i l in
    rw (triangles_cut i l r)
    (omega (
      arith,
      count_cons (same_triangle x) (i, k, end_of k r) (triangles i l ++ triangles k r),
      count_append (same_triangle x) (triangles i l) (triangles k r),
    ))

-- two trees with the same triangles that cut at one place have the same left and the same right triangles
module _ (i k j : ℕ) (l r s t : Tri) (ls : end_of i l ≡ k) (ss : end_of i s ≡ k) (rs : end_of k r ≡ j) (ts : end_of k t ≡ j)
    (h : (x : Triangle) → count (same_triangle x) (triangles i l) + count (same_triangle x) (triangles k r)
    ≡ count (same_triangle x) (triangles i s) + count (same_triangle x) (triangles k t)) where
  low : Alike (triangles i l) (triangles i s)
  low x =
      by_order x.1 k
      (λ a. omega (arith, h x, outside k r x (λ w. omega arith), outside k t x (λ w. omega arith)))
      (λ a. omega (arith, outside i l x (λ w. omega arith), outside i s x (λ w. omega arith)))

  high : Alike (triangles k r) (triangles k t)
  high x = omega (arith, h x, low x)

pub one_tree : (i : ℕ) (t u : Tri) → end_of i t ≡ end_of i u → Alike (triangles i t) (triangles i u) → t ≡ u
one_tree i side side e a = refl
one_tree i side (cut l r) e a = absurd (omega (arith, end_more i l, end_more (end_of i l) r))
one_tree i (cut l r) side e a = absurd (omega (arith, end_more i l, end_more (end_of i l) r))
one_tree i (cut l r) (cut s t) e a =
    let k = end_of i l in
    let j = end_of k r in
    let first : Memᴰ (i, k, j) (triangles i (cut l r)) = rw (triangles_cut i l r) (mathlib.Core.List.Memᴰ.head refl) in
    let q : k ≡ end_of i s = on_closing i s t (i, k, j) (alike_in (triangles i (cut l r)) (triangles i (cut s t)) a first) refl e in
    let ends : end_of k t ≡ j = rw q (sym (rw q at e)) in
    let h : (x : Triangle) → count (same_triangle x) (triangles i l) + count (same_triangle x) (triangles k r)
    ≡ count (same_triangle x) (triangles i s) + count (same_triangle x) (triangles k t) =
    λ x. omega (arith, a x, cut_counted i l r x, rw (← q, ends) at (cut_counted i s t x)) in
    ap₂ cut (one_tree i l s q (low i k j l r s t refl (sym q) refl ends h))
    (one_tree k r t (sym ends) (high i k j l r s t refl (sym q) refl ends h))

-- the law for v1..vm
pub same_tree_lem : (m : ℕ) (ts : List Triangle) (t u : Tri) → span t ≡ m - 1 → span u ≡ m - 1
    → Alike ts (triangles 1 t) → Alike ts (triangles 1 u) → t ≡ u
same_tree_lem m ts t u d e a b = one_tree 1 t u (omega (arith, end_span 1 t, end_span 1 u)) (λ x. omega (arith, a x, b x))
