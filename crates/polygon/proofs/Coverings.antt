-- Covering by sides is the same as cutting: both are the triangles of a tree. A tree grows from the closing side, since behind each
-- diagonal there is a triangle to go on with. Taken out, it leaves triangles that still match; each would have one with a shorter long
-- side behind it, so there are none. That a tree's triangles match is one equation, kept by each cut.
use Prim.Native.Nat.{ℕ, zero, suc, ◌+◌, ◌-◌, ◌<◌, ◌≤◌}
use mathlib.Core.Bool.{Bool}
use mathlib.Core.List.{List, [], ◌++◌, Memᴰ}
use mathlib.Core.Logic.{◌⊎◌, inl, inr, ◌↔◌}
use mathlib.Core.Path.{◌≡◌, refl, sym, ◌∙◌}
use native.Mathlib.Omega.{arith}
use lib.Dec.{T}
use Rattle.lists.specs.Lists.{every, count}
use Rattle.triangulation.specs.Triangulation.{Tri, side, cut, span, Triangle, triangles}
use Rattle.polygon.specs.Polygon.{Side, same_triangle, within, cuts, Alike, inner, outer, Covers}
use Rattle.lists.proofs.Tests.{or_l, or_r, or_e}
use Rattle.lists.proofs.Places.{in_cases}
use Rattle.lists.proofs.Lists.{every_at, every_i}
use Rattle.lists.proofs.Counts.{ind, ind_either, count_cons, count_append, count_member}
use Rattle.triangulation.proofs.Trees.{end_of, end_span, end_more, triangles_cut}
use Rattle.triangulation.proofs.TreesTriangulate.{InPiece, same_side, side→, →side, side_yes, side_no}
use Rattle.polygon.proofs.SameTriangles.{same→, nothing, none, some_in, is_in, leftover, empty, alike→, alike_every}
use Rattle.polygon.proofs.Apart.{within→, →within, Apart, before, after, under_first, under_second, over_first, over_second}
use Rattle.polygon.proofs.Apart.{by_order, at_most_one, distinct}
use Rattle.polygon.proofs.Parting.{Inside, triangles_side}
use Rattle.polygon.proofs.CutsAreTrees.{tree_inside, tree_parted, cuts→, tree_of, cuts_by}

-- ---- sides as tests

inner→ : (d : Side) (x : Triangle) → T (inner d x) → (d.0 ≡ x.0) × (d.1 ≡ x.2)
unfolding inner
inner→ d x h = side→ d (x.0, x.2) h

→inner : (x : Triangle) → T (inner (x.0, x.2) x)
unfolding inner
→inner x = →side (x.0, x.2) (x.0, x.2) refl refl

outer→ : (d : Side) (x : Triangle) → T (outer d x) → ((d.0 ≡ x.0) × (d.1 ≡ x.1)) ⊎ ((d.0 ≡ x.1) × (d.1 ≡ x.2))
unfolding outer
outer→ d x h = go (or_e (same_side d (x.0, x.1)) (same_side d (x.1, x.2)) h)
  where
    go : T (same_side d (x.0, x.1)) ⊎ T (same_side d (x.1, x.2)) → ((d.0 ≡ x.0) × (d.1 ≡ x.1)) ⊎ ((d.0 ≡ x.1) × (d.1 ≡ x.2))
    go (inl k) = inl (side→ d (x.0, x.1) k)
    go (inr k) = inr (side→ d (x.1, x.2) k)

outer_first : (x : Triangle) (i : ℕ) → i ≡ x.0 → T (outer (i, x.1) x)
unfolding outer
outer_first x i e = or_l (same_side (i, x.1) (x.0, x.1)) _ (→side (i, x.1) (x.0, x.1) e refl)

outer_second : (x : Triangle) (j : ℕ) → j ≡ x.2 → T (outer (x.1, j) x)
unfolding outer
outer_second x j e = or_r (same_side (x.1, j) (x.0, x.1)) _ (→side (x.1, j) (x.1, x.2) refl e)

-- ---- a tree's triangles match

module _ (d : Side) where
  -- how many sides of the ring in the piece are d
  rings : ℕ → Tri → ℕ
  rings i side = ind (same_side d (i, suc i))
  rings i (cut l r) = rings i l + rings (end_of i l) r

  outer_two : (i k j : ℕ) → i < k → ind (outer d (i, k, j)) ≡ ind (same_side d (i, k)) + ind (same_side d (k, j))
  unfolding outer
  outer_two i k j h =
      ind_either (same_side d (i, k)) (same_side d (k, j)) (λ a b. omega (arith, side→ d (i, k) a, side→ d (k, j) b))

  -- as often on the one side of d as on the other, counting the ring's sides and the closing side once each
  balance : (i : ℕ) (t : Tri)
      → count (inner d) (triangles i t) + rings i t ≡ count (outer d) (triangles i t) + ind (same_side d (i, end_of i t))
  unfolding rings inner
  balance i side = rw (triangles_side i) (omega (arith, nothing (inner d), nothing (outer d)))
  balance i (cut l r) =
      let k = end_of i l in
      let j = end_of k r in
      let us = triangles i l in
      let vs = triangles k r in
      rw (triangles_cut i l r)
      (omega (
        arith,
        balance i l,
        balance k r,
        count_cons (inner d) (i, k, j) (us ++ vs),
        count_cons (outer d) (i, k, j) (us ++ vs),
        count_append (inner d) us vs,
        count_append (outer d) us vs,
        outer_two i k j (end_more i l),
      ))

  rings_none : d.0 + 2 ≤ d.1 → (i : ℕ) (t : Tri) → rings i t ≡ 0
  unfolding rings
  rings_none h i side = side_no d (i, suc i) (λ e. omega arith)
  rings_none h i (cut l r) = omega (arith, rings_none h i l, rings_none h (end_of i l) r)

module _ (p : ℕ) where
  rings_before : (i : ℕ) (t : Tri) → p < i → rings (p, suc p) i t ≡ 0
  unfolding rings
  rings_before i side h = side_no (p, suc p) (i, suc i) (λ e. omega arith)
  rings_before i (cut l r) h = omega (arith, rings_before i l h, rings_before (end_of i l) r (omega (arith, end_more i l)))

  rings_after : (i : ℕ) (t : Tri) → end_of i t ≤ p → rings (p, suc p) i t ≡ 0
  unfolding rings
  rings_after i side h = side_no (p, suc p) (i, suc i) (λ e. omega arith)
  rings_after i (cut l r) h =
      omega (arith, rings_after i l (omega (arith, end_more (end_of i l) r)), rings_after (end_of i l) r h)

  rings_one : (i : ℕ) (t : Tri) → i ≤ p → p < end_of i t → rings (p, suc p) i t ≡ 1
  unfolding rings
  rings_one i side g h = side_yes (p, suc p) (i, suc i) (omega arith) (omega arith)
  rings_one i (cut l r) g h =
      by_order (end_of i l) p
      (λ a. omega (arith, rings_after i l a, rings_one (end_of i l) r a h))
      (λ a. omega (arith, rings_before (end_of i l) r a, rings_one i l g a))

tree_covers : (m : ℕ) (t : Tri) → 3 ≤ m → end_of 1 t ≡ m → Covers m (triangles 1 t)
tree_covers m t three e = record { places = places; ring = ring; closing = closing; others = others }
  where
    inside : Inside 1 m (triangles 1 t)
    inside = rw e at (tree_inside 1 t)

    balanced : (d : Side) → count (inner d) (triangles 1 t) + rings d 1 t ≡ count (outer d) (triangles 1 t) + ind (same_side d (1, m))
    balanced d = rw e at (balance d 1 t)

    places : T (every (within 1 m) (triangles 1 t))
    places = every_i (within 1 m) (triangles 1 t) (λ x n. →within 1 m x (inside x n))

    ring : (i : ℕ) → 1 ≤ i → i < m → count (outer (i, suc i)) (triangles 1 t) ≡ 1
    ring i g h =
        let d : Side = (i, suc i) in
        let thin = none (inner d) (triangles 1 t) (λ x n a. omega (arith, inside x n, inner→ d x a)) in
        omega (arith, balanced d, rings_one i 1 t g (rw e h), side_no d (1, m) (λ q. omega arith))

    closing : count (inner (1, m)) (triangles 1 t) ≡ 1
    closing =
        let d : Side = (1, m) in
        let out = none (outer d) (triangles 1 t) (λ x n a. beyond x (inside x n) (outer→ d x a)) in
        omega (arith, balanced d, rings_none d three 1 t, side_yes d d refl refl)
      where
        beyond : (x : Triangle) → InPiece 1 m x → ((1 ≡ x.0) × (m ≡ x.1)) ⊎ ((1 ≡ x.1) × (m ≡ x.2)) → ⊥
        beyond x w (inl a) = omega arith
        beyond x w (inr a) = omega arith

    others : (i j : ℕ) → 1 ≤ i → i + 2 ≤ j → j ≤ m → ((i ≡ 1) × (j ≡ m) → ⊥)
        → count (inner (i, j)) (triangles 1 t) ≡ count (outer (i, j)) (triangles 1 t)
    others i j a b c f = omega (arith, balanced (i, j), rings_none (i, j) b 1 t, side_no (i, j) (1, m) f)

-- ---- triangles that match are a tree's

module _ (m : ℕ) (ts : List Triangle) (three : 3 ≤ m) (c : Covers m ts) where
  inside_ring : Inside 1 m ts
  inside_ring x n = within→ 1 m x (every_at (within 1 m) ts c.places n)

  -- behind a short side of a triangle lies the next place, or another triangle
  met : (i j : ℕ) → 1 ≤ i → i < j → j ≤ m → ((i ≡ 1) × (j ≡ m) → ⊥) → 1 ≤ count (outer (i, j)) ts
      → (suc i ≡ j) ⊎ (1 ≤ count (inner (i, j)) ts)
  met i j a b e f h =
      by_order j (suc i) (λ k. inl (omega arith)) (λ k. inr (omega (arith, c.others i j a (omega arith) e f)))

  grow : (depth i j : ℕ) → j ≤ i + depth → 1 ≤ i → i < j → j ≤ m → (suc i ≡ j) ⊎ (1 ≤ count (inner (i, j)) ts)
      → (t : Tri) × (end_of i t ≡ j) × ((x : Triangle) → Memᴰ x (triangles i t) → Memᴰ x ts)
  grow zero i j d a b e s = absurd (omega arith)
  grow (suc depth) i j d a b e (inl s) = (side, s, λ x n. absurd (mathlib.Core.List.Memᴰ.not-nil (rw (triangles_side i) at n)))
  grow (suc depth) i j d a b e (inr s) =
      let r = some_in (inner (i, j)) ts s in
      let x = r.0 in
      let k = x.1 in
      let w = inside_ring x r.1 in
      let q = inner→ (i, j) x r.2 in
      let first : 1 ≤ count (outer (i, k)) ts = count_member (outer (i, k)) ts r.1 (outer_first x i q.0) in
      let second : 1 ≤ count (outer (k, j)) ts = count_member (outer (k, j)) ts r.1 (outer_second x j q.1) in
      join x r.1 q
      (grow depth i k (omega arith) a (omega arith) (omega arith) (met i k a (omega arith) (omega arith) (λ f. omega arith) first))
      (grow depth k j (omega arith) (omega arith) (omega arith) e (met k j (omega arith) (omega arith) e (λ f. omega arith) second))
    where
      join : (x : Triangle) → Memᴰ x ts → (i ≡ x.0) × (j ≡ x.2)
          → (l : Tri) × (end_of i l ≡ x.1) × ((y : Triangle) → Memᴰ y (triangles i l) → Memᴰ y ts)
          → (r : Tri) × (end_of x.1 r ≡ j) × ((y : Triangle) → Memᴰ y (triangles x.1 r) → Memᴰ y ts)
          → (t : Tri) × (end_of i t ≡ j) × ((y : Triangle) → Memᴰ y (triangles i t) → Memᴰ y ts)
      join x n q l r = (cut l.0 r.0, rw l.1 r.1, found)
        where
          below : (y : Triangle) → Memᴰ y (triangles i l.0) ⊎ Memᴰ y (triangles x.1 r.0) → Memᴰ y ts
          below y (inl k) = l.2 y k
          below y (inr k) = r.2 y k

          top : (i, x.1, j) ≡ x
          top = λ n. (q.0 n, x.1, q.1 n)

          found : (y : Triangle) → Memᴰ y (triangles i (cut l.0 r.0)) → Memᴰ y ts
          found y k =
              in_cases (rw (triangles_cut i l.0 r.0, l.1, r.1) at k) (λ f. rw (f ∙ top) n)
              (λ k. below y (mathlib.Core.List.Memᴰ.append_cases (triangles i l.0) k))

  module _ (t : Tri) (e : end_of 1 t ≡ m) (found : (x : Triangle) → Memᴰ x (triangles 1 t) → Memᴰ x ts) where
    fewer : (x : Triangle) → count (same_triangle x) (triangles 1 t) ≤ count (same_triangle x) ts
    fewer x =
        by_order (count (same_triangle x) (triangles 1 t)) 0 (λ a. omega arith)
        (λ a. let r = some_in (same_triangle x) (triangles 1 t) a in
        let n : Memᴰ x ts = rw (same→ x r.0 r.2) (found r.0 r.1) in
        let w = tree_inside 1 t in
        omega (arith, is_in ts n, distinct (triangles 1 t) (λ x n. ((w x n).1, (w x n).2)) (tree_parted 1 t) x))

    module _ (left : List Triangle) (parts : (p : Triangle → Bool) → count p ts ≡ count p (triangles 1 t) + count p left) where
      left_inside : Inside 1 m left
      left_inside x n =
          let r = some_in (same_triangle x) ts (omega (arith, parts (same_triangle x), is_in left n)) in
          rw (same→ x r.0 r.2) (inside_ring r.0 r.1)

      -- none of those left has a long side, however short
      no_long : (depth i j : ℕ) → j ≤ i + depth → count (inner (i, j)) left ≡ 0
      no_long zero i j d = none (inner (i, j)) left (λ x n h. omega (arith, left_inside x n, inner→ (i, j) x h))
      no_long (suc depth) i j d =
          none (inner (i, j)) left
          (λ x n h. behind x n (left_inside x n) (no_long depth x.0 x.1 (omega (arith, left_inside x n, inner→ (i, j) x h))))
        where
          tree : Covers m (triangles 1 t)
          tree = tree_covers m t three e

          behind : (x : Triangle) → Memᴰ x left → InPiece 1 m x → count (inner (x.0, x.1)) left ≡ 0 → ⊥
          behind x n w h =
              let i = x.0 in
              let k = x.1 in
              let met = count_member (outer (i, k)) left n (outer_first x i refl) in
              by_order k (suc i)
              (λ a. let b : k ≡ suc i = omega arith in
              let one : count (outer (i, k)) ts ≡ 1 = rw b (c.ring i w.0 (omega arith)) in
              let same : count (outer (i, k)) (triangles 1 t) ≡ 1 = rw b (tree.ring i w.0 (omega arith)) in
              omega (arith, parts (outer (i, k))))
              (λ a. let f : (i ≡ 1) × (k ≡ m) → ⊥ = λ q. omega arith in
              omega (
                arith,
                parts (outer (i, k)),
                parts (inner (i, k)),
                c.others i k w.0 (omega arith) (omega arith) f,
                tree.others i k w.0 (omega arith) (omega arith) f,
              ))

      none_left : left ≡ []
      none_left =
          empty left (λ x n. let h = no_long x.2 x.0 x.2 (omega arith) in
          omega (arith, count_member (inner (x.0, x.2)) left n (→inner x)))

    alike_tree : Alike ts (triangles 1 t)
    alike_tree x =
        let r = leftover (triangles 1 t) ts fewer in
        let gone : count (same_triangle x) r.0 ≡ count (same_triangle x) [] = rw (none_left r.0 r.1) in
        omega (arith, r.1 (same_triangle x), nothing (same_triangle x))

-- ---- the laws

-- a covering has a tree
pub covering_tree : (m : ℕ) (ts : List Triangle) → 3 ≤ m → Covers m ts → (t : Tri) × (span t ≡ m - 1) × Alike ts (triangles 1 t)
covering_tree m ts three c =
    let r = grow m ts three c m 1 m (omega arith) (omega arith) (omega arith) (omega arith) (inr (omega (arith, c.closing))) in
    let t = r.0 in
    (t, omega (arith, end_span 1 t, r.1), alike_tree m ts three c t r.1 r.2)

-- a tree's triangles cover, in any order
pub covers_by : (m : ℕ) (ts : List Triangle) → 3 ≤ m → (t : Tri) → span t ≡ m - 1 → Alike ts (triangles 1 t) → Covers m ts
covers_by m ts three t e a =
    let us = triangles 1 t in
    let tree = tree_covers m t three (omega (arith, end_span 1 t)) in
    let same = alike→ ts us a in
    record {
      places = alike_every (within 1 m) us ts (λ x. sym (a x)) tree.places;
      ring = λ i g h. same (outer (i, suc i)) ∙ tree.ring i g h;
      closing = same (inner (1, m)) ∙ tree.closing;
      others = λ i j g h k f. same (inner (i, j)) ∙ tree.others i j g h k f ∙ sym (same (outer (i, j)));
    }

-- the coverings are the trees' triangles, in any order
pub coverings : (m : ℕ) (ts : List Triangle) → 3 ≤ m → Covers m ts ↔ ((t : Tri) × (span t ≡ m - 1) × Alike ts (triangles 1 t))
coverings m ts three = (covering_tree m ts three, λ r. covers_by m ts three r.0 r.1 r.2)

-- cutting by overlaps and covering by sides are one
pub cuts_covers : (m : ℕ) (ts : List Triangle) → 3 ≤ m → T (cuts m ts) ↔ Covers m ts
cuts_covers m ts three = (
  λ h. let r = tree_of m ts (omega arith) h in covers_by m ts three r.0 r.1 r.2,
  λ c. let r = covering_tree m ts three c in cuts_by m ts (omega arith) r.0 r.1 r.2,
)

-- no two have one long side, so a diagonal lies in two triangles, one on each side, or in none
pub one_each : (m : ℕ) (ts : List Triangle) → 3 ≤ m → Covers m ts → (d : Side) → count (inner d) ts ≤ 1
one_each m ts three c d =
    let parts = cuts→ m ts ((cuts_covers m ts three).1 c) in
    at_most_one (inner d) ts parts.2
    (λ x y n k a b f. go x y (parts.1 x n) (parts.1 y k) (inner→ d x a) (inner→ d y b) f)
  where
    go : (x y : Triangle) → InPiece 1 m x → InPiece 1 m y → (d.0 ≡ x.0) × (d.1 ≡ x.2) → (d.0 ≡ y.0) × (d.1 ≡ y.2)
        → Apart x y → ⊥
    go x y v w a b (before p) = omega arith
    go x y v w a b (after p) = omega arith
    go x y v w a b (under_first p q) = omega arith
    go x y v w a b (under_second p q) = omega arith
    go x y v w a b (over_first p q) = omega arith
    go x y v w a b (over_second p q) = omega arith
