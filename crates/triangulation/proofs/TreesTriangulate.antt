-- A tree of span m - 1 is a triangulation of v1..vm: it has m - 2 triangles (i < k < j); each side of the ring is an edge of one of
-- them, each diagonal of two. The edges are counted piece by piece, the closing side once more from outside.
use Prim.Native.Nat.{ℕ, suc, ◌+◌, ◌-◌, ◌*◌, ◌<◌, ◌≤◌}
use mathlib.Core.Bool.{Bool, true, false, ◌&&◌, ◌||◌}
use mathlib.Core.List.Memᴰ
use mathlib.Core.List.{List, [], ◌∷◌, ◌++◌, flat_map, Memᴰ}
use mathlib.Core.Logic.{◌⊎◌, inl, inr}
use mathlib.Core.Path.{◌≡◌, refl}
use native.Mathlib.Decide.{dec_lt}
use native.Mathlib.Omega.{arith}
use lib.Dec.{T, eqb, eqb→eq}
use lib.ListN.{length, length-append}
use Rattle.lists.specs.Lists.{those, count}
use Rattle.lists.proofs.Tests.{and_l, and_r, and_i, eq_test}
use Rattle.lists.proofs.Counts.{Alt, none, most_one, reason, alt, join, ind, ind_yes, ind_no, count_cons, count_append, count_member}
use Rattle.ring.specs.Ring.{Site}
use Rattle.triangulation.specs.Triangulation.{Tri, side, cut, span, Triangle, triangles, closing_sides, diagonals, two_rows, new_rows}
use Rattle.triangulation.proofs.Trees.{end_of, end_span, end_more, triangles_cut}

-- ---- how many triangles and rows

triangles_more : (i : ℕ) (t : Tri) → suc (length (triangles i t)) ≡ span t
unfolding triangles span
triangles_more i side = refl
triangles_more i (cut l r) =
    let k = i + span l in
    omega (arith, length-append (triangles i l) (triangles k r), triangles_more i l, triangles_more k r)

pub triangles_count : (i : ℕ) (t : Tri) → length (triangles i t) ≡ span t - 1
triangles_count i t = omega (arith, triangles_more i t)

two_each : (site : Site) (ts : List Triangle) → length (flat_map (two_rows site) ts) ≡ 2 * length ts
unfolding flat_map two_rows
two_each site [] = refl
two_each site (x ∷ ts) = omega (arith, two_each site ts)

pub rows_count : (site : Site) (i : ℕ) (t : Tri) → length (new_rows site i t) ≡ 2 * (span t - 1)
unfolding new_rows
rows_count site i t = omega (arith, two_each site (triangles i t), triangles_count i t)

-- ---- where they lie

-- i < k < j, all of them places of the piece
abbrev pub InPiece : ℕ → ℕ → Triangle → Type 0
InPiece i j x = (i ≤ x.0) × (x.0 < x.1) × (x.1 < x.2) × (x.2 ≤ j)

pub triangles_within : (i : ℕ) (t : Tri) {x : Triangle} → Memᴰ x (triangles i t) → InPiece i (i + span t) x
unfolding triangles span
triangles_within i side m = absurd (Memᴰ.not-nil m)
triangles_within i (cut l r) {x} m =
    go (Memᴰ.cases_cons m)
    (λ m. both (Memᴰ.append_cases (triangles i l) m) (triangles_within i l) (triangles_within (i + span l) r))
  where
    both : Memᴰ x (triangles i l) ⊎ Memᴰ x (triangles (i + span l) r) → (Memᴰ x (triangles i l) → InPiece i (i + span l) x)
        → (Memᴰ x (triangles (i + span l) r) → InPiece (i + span l) (i + span l + span r) x) → InPiece i (i + (span l + span r)) x
    both (inl m) f g = omega (arith, f m)
    both (inr m) f g = omega (arith, g m)

    go : (x ≡ (i, i + span l, i + span l + span r)) ⊎ Memᴰ x (triangles i l ++ triangles (i + span l) r)
        → (Memᴰ x (triangles i l ++ triangles (i + span l) r) → InPiece i (i + (span l + span r)) x)
        → InPiece i (i + (span l + span r)) x
    go (inl e) f = rw e (omega (arith, triangles_more i l, triangles_more (i + span l) r))
    go (inr m) f = f m

-- ---- edges

-- the same two places
abbrev pub same_side : ℕ × ℕ → ℕ × ℕ → Bool
same_side d e = eqb d.0 e.0 && eqb d.1 e.1

-- the two places, the smaller first, are an edge of the triangle
unfoldable pub has_edge : ℕ × ℕ → Triangle → Bool
has_edge d x = same_side d (x.0, x.1) || same_side d (x.1, x.2) || same_side d (x.0, x.2)

pub side→ : (d e : ℕ × ℕ) → T (same_side d e) → (d.0 ≡ e.0) × (d.1 ≡ e.1)
side→ d e h = (eqb→eq d.0 e.0 (and_l (eqb d.0 e.0) _ h), eqb→eq d.1 e.1 (and_r (eqb d.0 e.0) _ h))

pub →side : (d e : ℕ × ℕ) → d.0 ≡ e.0 → d.1 ≡ e.1 → T (same_side d e)
→side d e f g = and_i (eqb d.0 e.0) (eqb d.1 e.1) (eq_test _ _ f) (eq_test _ _ g)

pub side_yes : (d e : ℕ × ℕ) → d.0 ≡ e.0 → d.1 ≡ e.1 → ind (same_side d e) ≡ 1
side_yes d e f g = ind_yes (same_side d e) (→side d e f g)

pub side_no : (d e : ℕ × ℕ) → ((d.0 ≡ e.0) × (d.1 ≡ e.1) → ⊥) → ind (same_side d e) ≡ 0
side_no d e f = ind_no (same_side d e) (λ h. f (side→ d e h))

-- a triangle's three edges are different
three_edges : (d : ℕ × ℕ) (i k j : ℕ) → i < k → k < j
    → ind (has_edge d (i, k, j)) ≡ ind (same_side d (i, k)) + ind (same_side d (k, j)) + ind (same_side d (i, j))
unfolding has_edge
three_edges d i k j g h =
    one_of (same_side d (i, k)) (same_side d (k, j)) (same_side d (i, j))
    (λ a b. omega (arith, side→ d (i, k) a, side→ d (k, j) b))
    (λ a b. omega (arith, side→ d (i, k) a, side→ d (i, j) b))
    (λ a b. omega (arith, side→ d (k, j) a, side→ d (i, j) b))
  where
    one_of : (a b c : Bool) → (T a → T b → ⊥) → (T a → T c → ⊥) → (T b → T c → ⊥) → ind (a || b || c) ≡ ind a + ind b + ind c
    one_of true true c f g h = absurd (f tt tt)
    one_of true false true f g h = absurd (g tt tt)
    one_of true false false f g h = refl
    one_of false true true f g h = absurd (h tt tt)
    one_of false true false f g h = refl
    one_of false false c f g h = omega arith

module _ (d : ℕ × ℕ) where
  -- the triangles that have the edge, the closing side counted once more
  bordered : ℕ → Tri → ℕ
  bordered i t = count (has_edge d) (triangles i t) + ind (same_side d (i, end_of i t))

  bordered_side : (i : ℕ) → bordered i side ≡ ind (same_side d (i, suc i))
  unfolding bordered triangles those
  bordered_side i = omega arith

  bordered_cut : (i : ℕ) (l r : Tri)
      → bordered i (cut l r) ≡ bordered i l + bordered (end_of i l) r + 2 * ind (same_side d (i, end_of (end_of i l) r))
  unfolding bordered
  bordered_cut i l r =
      let k = end_of i l in
      let j = end_of k r in
      let first = count_cons (has_edge d) (i, k, j) (triangles i l ++ triangles k r) in
      let rest = count_append (has_edge d) (triangles i l) (triangles k r) in
      rw (triangles_cut i l r) (omega (arith, three_edges d i k j (end_more i l) (end_more k r)))

  -- ---- the closing sides, each of which stands once

  closing_top : (i : ℕ) (l r : Tri) → count (same_side d) (closing_sides i (cut l r))
      ≡ ind (same_side d (i, end_of i (cut l r))) + count (same_side d) (diagonals i (cut l r))
  unfolding closing_sides diagonals
  closing_top i l r = rw (end_span (end_of i l) r, end_span i l) (count_cons (same_side d) (i, i + span l + span r) (diagonals i (cut l r)))

  closing_cut : (i : ℕ) (l r : Tri) → count (same_side d) (diagonals i (cut l r))
      ≡ count (same_side d) (closing_sides i l) + count (same_side d) (closing_sides (end_of i l) r)
  unfolding diagonals
  closing_cut i l r = rw (end_span i l) (count_append (same_side d) (closing_sides i l) (closing_sides (i + span l) r))

  closing_once : (i : ℕ) (t : Tri) → Alt (count (same_side d) (closing_sides i t)) ((i ≤ d.0) × (d.0 + 2 ≤ d.1) × (d.1 ≤ end_of i t))
  unfolding closing_sides those
  closing_once i side = none refl
  closing_once i (cut l r) =
      let k = end_of i l in
      let j = end_of k r in
      let u = end_more i l in
      let w = end_more k r in
      rw (closing_top i l r, closing_cut i l r)
      (join {P = (d.0 ≡ i) × (d.1 ≡ j)} {R = (i ≤ d.0) × (d.0 + 2 ≤ d.1) × (d.1 ≤ j) × ((d.1 ≤ k) ⊎ (k ≤ d.0))}
      (alt (same_side d (i, j)) (side→ d (i, j)))
      (join (closing_once i l) (closing_once k r)
      (λ s t. omega arith)
      (λ s. (omega arith, omega arith, omega arith, inl (omega arith)))
      (λ s. (omega arith, omega arith, omega arith, inr (omega arith))))
      (λ s t. apart s t.3)
      (λ s. omega arith)
      (λ s. (s.0, s.1, s.2)))
    where
      apart : (d.0 ≡ i) × (d.1 ≡ end_of (end_of i l) r) → (d.1 ≤ end_of i l) ⊎ (end_of i l ≤ d.0) → ⊥
      apart s (inl t) = omega (arith, end_more (end_of i l) r)
      apart s (inr t) = omega (arith, end_more i l)

  bordered_closing : d.0 + 2 ≤ d.1 → (i : ℕ) (t : Tri) → bordered i t ≡ 2 * count (same_side d) (closing_sides i t)
  unfolding closing_sides those
  bordered_closing w i side = omega (arith, bordered_side i, side_no d (i, suc i) (λ e. omega arith))
  bordered_closing w i (cut l r) =
      omega (arith, bordered_cut i l r, closing_top i l r, closing_cut i l r, bordered_closing w i l, bordered_closing w (end_of i l) r)

-- ---- sides of the ring

module _ (j : ℕ) where
  -- a side of the ring closes no piece
  no_closing : (i : ℕ) (l r : Tri) → ind (same_side (j, suc j) (i, end_of (end_of i l) r)) ≡ 0
  no_closing i l r = side_no (j, suc j) (i, end_of (end_of i l) r) (λ e. omega (arith, end_more i l, end_more (end_of i l) r))

  before : (i : ℕ) (t : Tri) → j < i → bordered (j, suc j) i t ≡ 0
  before i side h = omega (arith, bordered_side (j, suc j) i, side_no (j, suc j) (i, suc i) (λ e. omega arith))
  before i (cut l r) h =
      omega (arith, bordered_cut (j, suc j) i l r, no_closing i l r, before i l h, before (end_of i l) r (omega (arith, end_more i l)))

  after : (i : ℕ) (t : Tri) → end_of i t ≤ j → bordered (j, suc j) i t ≡ 0
  after i side h = omega (arith, bordered_side (j, suc j) i, side_no (j, suc j) (i, suc i) (λ e. omega arith))
  after i (cut l r) h =
      omega (
        arith,
        bordered_cut (j, suc j) i l r,
        no_closing i l r,
        after i l (omega (arith, end_more (end_of i l) r)),
        after (end_of i l) r h,
      )

  inside : (i : ℕ) (t : Tri) → i ≤ j → j < end_of i t → bordered (j, suc j) i t ≡ 1
  inside i side g h = omega (arith, bordered_side (j, suc j) i, side_yes (j, suc j) (i, suc i) (omega arith) (omega arith))
  inside i (cut l r) g h = go (dec_lt j (end_of i l)) (inside i l g) (λ k. inside (end_of i l) r k h)
    where
      go : Dec (j < end_of i l) → (j < end_of i l → bordered (j, suc j) i l ≡ 1) → (end_of i l ≤ j → bordered (j, suc j) (end_of i l) r ≡ 1)
          → bordered (j, suc j) i (cut l r) ≡ 1
      go (yes c) f k = omega (arith, bordered_cut (j, suc j) i l r, no_closing i l r, f c, before (end_of i l) r c)
      go (no c) f k =
          let w : end_of i l ≤ j = omega arith in
          omega (arith, bordered_cut (j, suc j) i l r, no_closing i l r, after i l w, k w)

-- ---- the laws

-- each side of the ring from vi on is an edge of one triangle
pub side_in_one : (i j : ℕ) (t : Tri) → 2 ≤ span t → i ≤ j → j < i + span t → count (has_edge (j, suc j)) (triangles i t) ≡ 1
unfolding bordered
side_in_one i j t two g h =
    let ends = end_span i t in
    omega (arith, inside j i t g (omega arith), side_no (j, suc j) (i, end_of i t) (λ e. omega arith))

-- the closing side is an edge of one triangle
pub closing_in_one : (i : ℕ) (t : Tri) → 2 ≤ span t → count (has_edge (i, i + span t)) (triangles i t) ≡ 1
unfolding bordered span
closing_in_one i side two = absurd (omega arith)
closing_in_one i (cut l r) two =
    let t = cut l r in
    let d : ℕ × ℕ = (i, end_of i t) in
    let top = side_yes d d refl refl in
    let wide : i + 2 ≤ end_of i t = omega (arith, end_more i l, end_more (end_of i l) r) in
    rw (← (end_span i t)) (omega (arith, closing_top d i l r, most_one (closing_once d i t), bordered_closing d wide i t))

-- each diagonal is an edge of two
pub diagonal_in_two : (i : ℕ) (t : Tri) {d : ℕ × ℕ} → Memᴰ d (diagonals i t) → count (has_edge d) (triangles i t) ≡ 2
unfolding bordered diagonals
diagonal_in_two i side m = absurd (Memᴰ.not-nil m)
diagonal_in_two i (cut l r) {d} m =
    let t = cut l r in
    let inner = count_member (same_side d) (diagonals i t) m (→side d d refl refl) in
    let top = closing_top d i l r in
    let once = reason (closing_once d i t) (omega arith) in
    omega (arith, bordered_closing d once.1.1 i t)
