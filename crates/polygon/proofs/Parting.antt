-- In a piece (i,j) there is room for j - i - 1 triangles that do not overlap, and if there are so many they are a tree's. A place k is
-- found at which the piece parts: each triangle lies in (i,k) or in (k,j), or is (i,k,j) itself; the two parts are smaller pieces.
use Prim.Native.Nat.{ℕ, zero, suc, ◌+◌, ◌<◌, ◌≤◌}
use mathlib.Core.Bool.{Bool, not}
use mathlib.Core.List.Memᴰ
use mathlib.Core.List.{List, [], ◌∷◌, ◌++◌, Memᴰ}
use mathlib.Core.Logic.{◌⊎◌, inl, inr}
use mathlib.Core.Path.{◌≡◌, refl, sym, ap, ◌∙◌}
use native.Mathlib.Omega.{arith}
use lib.Dec.{T, T_not}
use lib.ListN.{length}
use Rattle.lists.specs.Lists.{those, count}
use Rattle.triangulation.specs.Triangulation.{Tri, side, cut, Triangle, triangles}
use Rattle.polygon.specs.Polygon.{within}
use Rattle.lists.proofs.Places.{in_cases}
use Rattle.lists.proofs.Lists.{those_e, those_split}
use Rattle.lists.proofs.Counts.{count_cons, count_append, count_split}
use Rattle.triangulation.proofs.Trees.{end_of, triangles_cut}
use Rattle.triangulation.proofs.TreesTriangulate.{InPiece}
use Rattle.polygon.proofs.SameTriangles.{Same, three, nothing}
use Rattle.polygon.proofs.Apart.{within→, →within, Apart, before, after, under_first, under_second, over_first, over_second}
use Rattle.polygon.proofs.Apart.{InOrder, not_itself, by_order, Parted, pair, parted_those}

-- each lies in the piece
abbrev pub Inside : ℕ → ℕ → List Triangle → Type 0
Inside i j ts = (x : Triangle) → Memᴰ x ts → InPiece i j x

-- ---- the place that parts them

-- where a triangle lies when the piece parts at k
data Part (i k j : ℕ) (x : Triangle) : Type 0 where
  lower : InPiece i k x → Part i k j x
  upper : InPiece k j x → Part i k j x
  top : x ≡ (i, k, j) → Part i k j x

record Parting (i j : ℕ) (ts : List Triangle) : Type 0 where
  at : ℕ
  over : i < at
  below : at < j
  parts : (x : Triangle) → Memᴰ x ts → Part i at j x

-- k comes next after i, or some triangle goes from i to k
abbrev Reached : ℕ → List Triangle → ℕ → Type 0
Reached i ts k = (k ≡ suc i) ⊎ ((x : Triangle) × Memᴰ x ts × (x.0 ≡ i) × (x.2 ≡ k))

-- the last such place
record Reach (i j : ℕ) (ts : List Triangle) : Type 0 where
  far : ℕ
  over : i < far
  below : far ≤ j
  most : (x : Triangle) → Memᴰ x ts → x.0 ≡ i → x.2 ≤ far
  by : Reached i ts far

reach : (i j : ℕ) (ts : List Triangle) → i < j → Inside i j ts → Reach i j ts
reach i j [] h g =
    record { far = suc i; over = omega arith; below = h; most = λ x m. absurd (Memᴰ.not-nil m); by = inl refl }
reach i j (y ∷ ys) h g = go (reach i j ys h (λ x m. g x (Memᴰ.tail m))) (g y (Memᴰ.head refl))
  where
    go : Reach i j ys → InPiece i j y → Reach i j (y ∷ ys)
    go r w =
        by_order y.0 i
        (λ a. by_order y.2 r.far (λ b. keep (λ e. b))
        (λ b. record {
          far = y.2;
          over = omega arith;
          below = w.3;
          most = λ x m. in_cases m (λ e q. rw e (omega arith)) (λ n q. omega (arith, r.most x n q));
          by = inr (y, Memᴰ.head refl, omega arith, refl);
        }))
        (λ a. keep (λ e. absurd (omega arith)))
      where
        found : Reached i ys r.far → Reached i (y ∷ ys) r.far
        found (inl e) = inl e
        found (inr s) = inr (s.0, Memᴰ.tail s.1, s.2, s.3)

        keep : (y.0 ≡ i → y.2 ≤ r.far) → Reach i j (y ∷ ys)
        keep f =
            record {
              far = r.far;
              over = r.over;
              below = r.below;
              most = λ x m. in_cases m (λ e q. rw e (f (rw e at q))) (λ n q. r.most x n q);
              by = found r.by;
            }

module _ (i j : ℕ) (ts : List Triangle) (inside : Inside i j ts) (parted : Parted ts) where
  -- with a triangle on the closing side the piece parts at its middle corner,
  by_top : (x : Triangle) → Memᴰ x ts → x.0 ≡ i → x.2 ≡ j → Parting i j ts
  by_top x m a c =
      let w = inside x m in
      record { at = x.1; over = omega arith; below = omega arith; parts = λ y n. go y (inside y n) (pair ts parted m n) }
    where
      go : (y : Triangle) → InPiece i j y → (x ≡ y) ⊎ Apart x y → Part i x.1 j y
      go y w (inl e) = top (sym e ∙ three x i x.1 j a refl c)
      go y w (inr (before u)) = absurd (omega arith)
      go y w (inr (after u)) = absurd (omega arith)
      go y w (inr (under_first u v)) = lower (omega arith)
      go y w (inr (under_second u v)) = upper (omega arith)
      go y w (inr (over_first u v)) = absurd (omega arith)
      go y w (inr (over_second u v)) = absurd (omega arith)

  -- and otherwise at the last place to which a triangle goes from i
  by_reach : (r : Reach i j ts) → r.far < j → Parting i j ts
  by_reach r h = record { at = r.far; over = r.over; below = h; parts = λ y n. go y n (inside y n) }
    where
      under : (x y : Triangle) → InPiece i j x → InPiece i j y → x.0 ≡ i → x.2 ≡ r.far → i < y.0 → y.0 < r.far
          → (x ≡ y) ⊎ Apart x y → Part i r.far j y
      under x y u w a c f g (inl e) = absurd (omega (arith, ap (λ z. z.0) e))
      under x y u w a c f g (inr (before p)) = absurd (omega arith)
      under x y u w a c f g (inr (after p)) = absurd (omega arith)
      under x y u w a c f g (inr (under_first p q)) = lower (omega arith)
      under x y u w a c f g (inr (under_second p q)) = lower (omega arith)
      under x y u w a c f g (inr (over_first p q)) = absurd (omega arith)
      under x y u w a c f g (inr (over_second p q)) = absurd (omega arith)

      between : (y : Triangle) → Memᴰ y ts → InPiece i j y → i < y.0 → y.0 < r.far → Reached i ts r.far → Part i r.far j y
      between y n w f g (inl e) = absurd (omega arith)
      between y n w f g (inr s) = under s.0 y (inside s.0 s.1) w s.2 s.3 f g (pair ts parted s.1 n)

      go : (y : Triangle) → Memᴰ y ts → InPiece i j y → Part i r.far j y
      go y n w =
          by_order y.0 i (λ a. lower (omega (arith, r.most y n (omega arith))))
          (λ a. by_order r.far y.0 (λ b. upper (omega arith)) (λ b. between y n w a b r.by))

  parting : suc i < j → Parting i j ts
  parting h =
      let r = reach i j ts (omega arith) inside in
      by_order j r.far (λ a. full r r.by (omega (arith, r.below))) (by_reach r)
    where
      full : (r : Reach i j ts) → Reached i ts r.far → r.far ≡ j → Parting i j ts
      full r (inl e) f = absurd (omega arith)
      full r (inr s) f = by_top s.0 s.1 s.2 (s.3 ∙ f)

-- ---- how many, and their tree

-- There are at most j - i - 1, and if so many, they are a tree's.
pub record Filled (i j : ℕ) (ts : List Triangle) : Type 0 where
  pub most : length ts + suc i ≤ j
  pub tree : length ts + suc i ≡ j → (t : Tri) × (end_of i t ≡ j) × Same ts (triangles i t)

-- no triangle lies apart from itself, so a list of one triangle only has none or one
alone : (x : Triangle) → InOrder x → (xs : List Triangle) → ((y : Triangle) → Memᴰ y xs → y ≡ x) → Parted xs
    → (xs ≡ []) ⊎ (xs ≡ x ∷ [])
alone x g [] f h = inl refl
alone x g (y ∷ []) f h = inr (ap (λ z. z ∷ []) (f y (Memᴰ.head refl)))
alone x g (y ∷ z ∷ zs) f h =
    let e = f y (Memᴰ.head refl) in
    let d = f z (Memᴰ.tail (Memᴰ.head refl)) in
    absurd (not_itself x g (rw (e, d) at (h.0 z (Memᴰ.head refl))))

-- those in (i,k), those of the others in (k,j), and the rest

abbrev in_low : ℕ → ℕ → List Triangle → List Triangle
in_low i k ts = those (within i k) ts

abbrev others : ℕ → ℕ → List Triangle → List Triangle
others i k ts = those (λ x. not (within i k x)) ts

abbrev in_high : ℕ → ℕ → ℕ → List Triangle → List Triangle
in_high i k j ts = those (within k j) (others i k ts)

abbrev on_top : ℕ → ℕ → ℕ → List Triangle → List Triangle
on_top i k j ts = those (λ x. not (within k j x)) (others i k ts)

module _ (i j k : ℕ) (ts : List Triangle) where
  sizes : length (in_low i k ts) + (length (in_high i k j ts) + length (on_top i k j ts)) ≡ length ts
  sizes = omega (arith, those_split (within i k) ts, those_split (within k j) (others i k ts))

  counts : (p : Triangle → Bool) → count p (in_low i k ts) + (count p (in_high i k j ts) + count p (on_top i k j ts)) ≡ count p ts
  counts p = omega (arith, count_split p (within i k) ts, count_split p (within k j) (others i k ts))

  join : Filled i k (in_low i k ts) → Filled k j (in_high i k j ts)
      → (on_top i k j ts ≡ []) ⊎ (on_top i k j ts ≡ (i, k, j) ∷ []) → Filled i j ts
  join f g (inl e) =
      let none : length (on_top i k j ts) ≡ 0 = rw e in
      record {
        most = omega (arith, sizes, f.most, g.most);
        tree = λ h. absurd (omega (arith, sizes, f.most, g.most));
      }
  join f g (inr e) =
      let one : length (on_top i k j ts) ≡ 1 = rw e in
      record {
        most = omega (arith, sizes, f.most, g.most);
        tree = λ h. grow (f.tree (omega (arith, sizes, f.most, g.most))) (g.tree (omega (arith, sizes, f.most, g.most)));
      }
    where
      grow : (l : Tri) × (end_of i l ≡ k) × Same (in_low i k ts) (triangles i l)
          → (r : Tri) × (end_of k r ≡ j) × Same (in_high i k j ts) (triangles k r)
          → (t : Tri) × (end_of i t ≡ j) × Same ts (triangles i t)
      grow l r = (cut l.0 r.0, rw l.1 r.1, same)
        where
          same : Same ts (triangles i (cut l.0 r.0))
          same p =
              let a = triangles i l.0 in
              let b = triangles k r.0 in
              let top : count p (on_top i k j ts) ≡ count p ((i, k, j) ∷ []) = rw e in
              let whole = count_cons p (i, k, j) (a ++ b) in
              let only = count_cons p (i, k, j) [] in
              rw (triangles_cut i l.0 r.0, l.1, r.1)
              (omega (arith, counts p, count_append p a b, l.2 p, r.2 p, nothing p))

pub triangles_side : (i : ℕ) → triangles i side ≡ []
unfolding triangles
triangles_side i = refl

pub fill : (depth i j : ℕ) → j ≤ i + depth → i < j → (ts : List Triangle) → Inside i j ts → Parted ts → Filled i j ts
fill zero i j d h ts w g = absurd (omega arith)
fill (suc depth) i j d h ts w g =
    by_order j (suc i) (λ a. narrow ts w a)
    (λ a. let c = parting i j ts w g a in
    let k = c.at in
    join i j k ts
    (fill depth i k (omega (arith, c.below)) c.over (in_low i k ts)
    (λ x m. within→ i k x (those_e (within i k) ts m).1)
    (parted_those (within i k) ts g))
    (fill depth k j (omega (arith, c.over)) c.below (in_high i k j ts)
    (λ x m. within→ k j x (those_e (within k j) (others i k ts) m).1)
    (parted_those (within k j) (others i k ts) (parted_those (λ x. not (within i k x)) ts g)))
    (alone (i, k, j) (c.over, c.below) (on_top i k j ts) (only c)
    (parted_those (λ x. not (within k j x)) (others i k ts) (parted_those (λ x. not (within i k x)) ts g))))
  where
    narrow : (ts : List Triangle) → Inside i j ts → j ≤ suc i → Filled i j ts
    narrow [] w a =
        record { most = omega arith; tree = λ e. (side, omega arith, λ p. rw (triangles_side i)) }
    narrow (x ∷ xs) w a = absurd (omega (arith, w x (Memᴰ.head refl)))

    only : (c : Parting i j ts) (x : Triangle) → Memᴰ x (on_top i c.at j ts) → x ≡ (i, c.at, j)
    only c x m =
        let high = those_e (λ x. not (within c.at j x)) (others i c.at ts) m in
        let low = those_e (λ x. not (within i c.at x)) ts high.0 in
        go (c.parts x low.0) (T_not (within i c.at x) low.1) (T_not (within c.at j x) high.1)
      where
        go : Part i c.at j x → (T (within i c.at x) → ⊥) → (T (within c.at j x) → ⊥) → x ≡ (i, c.at, j)
        go (lower u) f g = absurd (f (→within i c.at x u))
        go (upper u) f g = absurd (g (→within c.at j x u))
        go (top e) f g = e
