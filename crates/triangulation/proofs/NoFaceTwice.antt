-- The new rows of a triangulation use no face twice: their faces, counted piece by piece. What one piece brings is known by
-- which ends its faces hold and by the first and last of their ring points, so two pieces never bring the same face.
use Prim.Native.Nat.{ℕ, zero, suc, ◌+◌, ◌<◌, ◌≤◌, min, max}
use mathlib.Core.Bool.{Bool, true, false, cond, ◌||◌}
use mathlib.Core.List.{◌∷◌, ◌++◌}
use mathlib.Core.Logic.{◌⊎◌, inl, inr, ◌≢◌}
use mathlib.Core.Path.{◌≡◌, refl, sym, ◌∙◌}
use native.Mathlib.Omega.{arith}
use borrow.Author.Tests.{eq-eqb, ne_eqb}
use lib.Dec.{T, eqb, eqb→eq}
use Rattle.lists.specs.Lists.{any, those}
use Rattle.lists.proofs.Counts.{Alt, most_one, alt, join, ind, ind_or, ind_less, count_cons, count_append}
use Rattle.lists.proofs.Tests.{eq_test}
use Rattle.rows.specs.declared.Row.{Row}
use Rattle.mesh.specs.Mesh.{Face, faces, same_face, uses}
use Rattle.mesh.proofs.TurnedFaces.{Turned, as_is, once, twice, on, back, same_turned, turned_same, turned_sym, turned_trans, turned_equal}
use Rattle.mesh.proofs.FacesCounted.{hits}
use Rattle.ring.specs.Ring.{Site, m}
use Rattle.triangulation.specs.Triangulation.{Tri, side, cut, v, new_rows}
use Rattle.triangulation.proofs.Trees.{end_of, end_more, a_top, b_top, rows_side, rows_cut}

-- ---- the faces of the new rows

module _ (site : Site) (f : Face) where
  -- one if the face is that of an end with two points of the ring
  unfoldable pub with_end : ℕ → ℕ → ℕ → ℕ
  with_end e i j = ind (same_face f (e, v site i, v site j))

  abbrev pub with_a : ℕ → ℕ → ℕ
  with_a = with_end site.a

  abbrev pub with_b : ℕ → ℕ → ℕ
  with_b = with_end site.b

  -- one if it is that of three points of the ring
  unfoldable pub of_three : ℕ → ℕ → ℕ → ℕ
  of_three i k j = ind (same_face f (v site i, v site k, v site j))

  -- the faces of the new rows
  unfoldable pub own : ℕ → Tri → ℕ
  own i side = 0
  own i (cut l r) = both i (end_of i l) (end_of (end_of i l) r) + (own i l + own (end_of i l) r)
    where
      both : ℕ → ℕ → ℕ → ℕ
      both i k j = of_three i k j + with_a j k + with_a i j + with_a k i + (with_b k j + with_b j i + with_b i k + of_three i j k)

  uses_least : (row : Row) → ind (uses f row)
      ≤ ind (same_face f (row.q, row.r, row.s)) + ind (same_face f (row.p, row.s, row.r))
      + ind (same_face f (row.p, row.q, row.s)) + ind (same_face f (row.p, row.r, row.q))
  unfolding uses faces any
  uses_least row =
      four (same_face f (row.q, row.r, row.s)) (same_face f (row.p, row.s, row.r))
      (same_face f (row.p, row.q, row.s)) (same_face f (row.p, row.r, row.q))
    where
      four : (a b c d : Bool) → ind (a || (b || (c || (d || false)))) ≤ ind a + ind b + ind c + ind d
      four a b c d = omega (arith, ind_or a (b || (c || (d || false))), ind_or b (c || (d || false)), ind_or c (d || false), ind_or d false)

  turn_on : (x y z : ℕ) → ind (same_face f (y, z, x)) ≤ ind (same_face f (x, y, z))
  turn_on x y z = ind_less (same_face f (y, z, x)) (same_face f (x, y, z)) (λ h. turned_same _ _ (turned_trans (same_turned _ _ h) on))

  turn_back : (x y z : ℕ) → ind (same_face f (z, x, y)) ≤ ind (same_face f (x, y, z))
  turn_back x y z = ind_less (same_face f (z, x, y)) (same_face f (x, y, z)) (λ h. turned_same _ _ (turned_trans (same_turned _ _ h) back))

  pub users_cut : (i : ℕ) (l r : Tri) → hits f (new_rows site i (cut l r))
      ≡ ind (uses f (a_top site i l r)) + ind (uses f (b_top site i l r)) + (hits f (new_rows site i l) + hits f (new_rows site (end_of i l) r))
  users_cut i l r =
      let left = new_rows site i l in
      let right = new_rows site (end_of i l) r in
      let a = count_cons (uses f) (a_top site i l r) (b_top site i l r ∷ (left ++ right)) in
      let b = count_cons (uses f) (b_top site i l r) (left ++ right) in
      rw (rows_cut site i l r) (omega (arith, count_append (uses f) left right))

  pub users_own : (i : ℕ) (t : Tri) → hits f (new_rows site i t) ≤ own i t
  unfolding those own with_end of_three
  users_own i side = rw (rows_side site i) (omega arith)
  users_own i (cut l r) =
      let k = end_of i l in
      let vi = v site i in
      let vk = v site k in
      let vj = v site (end_of k r) in
      let ikj = turn_on site.b vk vj in
      let kji = turn_back site.b vj vi in
      let jik = turn_on site.b vi vk in
      omega (arith, users_cut i l r, uses_least (a_top site i l r), uses_least (b_top site i l r), users_own i l, users_own k r)

-- ---- places on the ring

module _ (site : Site) where
  -- i is a place on the ring
  abbrev pub OnRing : ℕ → Type 0
  OnRing i = (1 ≤ i) × (i ≤ m site)

  -- The ends and the points of the ring are all different.
  pub record Different : Type 0 where
    pub ends : site.a ≢ site.b
    pub not_a : (i : ℕ) → OnRing i → site.a ≢ v site i
    pub not_b : (i : ℕ) → OnRing i → site.b ≢ v site i
    pub points : (i j : ℕ) → OnRing i → OnRing j → v site i ≡ v site j → i ≡ j

  -- the place of a point, among the first n places
  place_of : ℕ → ℕ → ℕ
  place_of zero x = 0
  place_of (suc n) x = cond (eqb x (v site (suc n))) (suc n) (place_of n x)

  place_is : (n i : ℕ) → 1 ≤ i → i ≤ n → ((j : ℕ) → 1 ≤ j → j ≤ n → v site i ≡ v site j → i ≡ j) → place_of n (v site i) ≡ i
  unfolding place_of
  place_is zero i g h f = absurd (omega arith)
  place_is (suc n) i g h f =
      go (eqb (v site i) (v site (suc n)))
      (λ t. f (suc n) (omega arith) (omega arith) (eqb→eq (v site i) (v site (suc n)) t))
      (λ e. eq_test (v site i) (v site (suc n)) (rw e))
      (λ l. place_is n i g l (λ j a b. f j a (omega arith)))
    where
      go : (b : Bool) → (T b → i ≡ suc n) → (i ≡ suc n → T b) → (i ≤ n → place_of n (v site i) ≡ i)
          → cond b (suc n) (place_of n (v site i)) ≡ i
      go true k l ih = sym (k tt)
      go false k l ih = ih (omega (arith, ne))
        where
          ne : i ≢ suc n
          ne e = l e

  -- a number for each point: A and B for the ends, g i for the ring's vi
  label : ℕ → ℕ → (ℕ → ℕ) → ℕ → ℕ
  label A B g x = cond (eqb x site.a) A (cond (eqb x site.b) B (g (place_of (m site) x)))

  -- which end, if any
  kind : ℕ → ℕ
  kind = label 1 2 (λ i. 0)

  -- the place, with the ends after all others
  low : ℕ → ℕ
  low = label (suc (m site)) (suc (m site)) (λ i. i)

  -- the place, with the ends before all others
  high : ℕ → ℕ
  high = label 0 0 (λ i. i)

  abbrev Labelled : ℕ → ℕ → ℕ → ℕ → Type 0
  Labelled x c l h = (kind x ≡ c) × (low x ≡ l) × (high x ≡ h)

  kinds : ℕ → ℕ → ℕ → ℕ
  kinds x y z = kind x + (kind y + kind z)

  lows : ℕ → ℕ → ℕ → ℕ
  lows x y z = min (low x) (min (low y) (low z))

  highs : ℕ → ℕ → ℕ → ℕ
  highs x y z = max (high x) (max (high y) (high z))

  -- the face of three numbers is of the kind c, over the piece from i to j
  abbrev Seen : ℕ → ℕ → ℕ → ℕ → ℕ → ℕ → Type 0
  Seen x y z c i j = (kind x + (kind y + kind z) ≡ c) × (min (low x) (min (low y) (low z)) ≡ i) × (max (high x) (max (high y) (high z)) ≡ j)

-- ---- no face twice

module _ (site : Site) (d : Different site) where
  pub apart : (i j : ℕ) → 1 ≤ i → i < j → j ≤ m site → v site i ≢ v site j
  apart i j o h l e = omega (arith, d.points i j (omega arith) (omega arith) e)

  label_a : (A B : ℕ) (g : ℕ → ℕ) → label site A B g site.a ≡ A
  unfolding label
  label_a A B g = rw (eq-eqb site.a site.a refl)

  label_b : (A B : ℕ) (g : ℕ → ℕ) → label site A B g site.b ≡ B
  unfolding label
  label_b A B g = rw (ne_eqb site.b site.a (λ e. d.ends (sym e)), eq-eqb site.b site.b refl)

  label_v : (A B : ℕ) (g : ℕ → ℕ) (i : ℕ) → OnRing site i → label site A B g (v site i) ≡ g i
  unfolding label
  label_v A B g i l =
      rw (
        ne_eqb (v site i) site.a (λ e. d.not_a i l (sym e)),
        ne_eqb (v site i) site.b (λ e. d.not_b i l (sym e)),
        place_is site (m site) i l.0 l.1 (λ j a b. d.points i j l (a, b)),
      )

  labels_a : Labelled site site.a 1 (suc (m site)) 0
  unfolding kind low high
  labels_a = (label_a 1 2 (λ i. 0), label_a (suc (m site)) (suc (m site)) (λ i. i), label_a 0 0 (λ i. i))

  labels_b : Labelled site site.b 2 (suc (m site)) 0
  unfolding kind low high
  labels_b = (label_b 1 2 (λ i. 0), label_b (suc (m site)) (suc (m site)) (λ i. i), label_b 0 0 (λ i. i))

  labels_v : (i : ℕ) → OnRing site i → Labelled site (v site i) 0 i i
  unfolding kind low high
  labels_v i l = (label_v 1 2 (λ i. 0) i l, label_v (suc (m site)) (suc (m site)) (λ i. i) i l, label_v 0 0 (λ i. i) i l)

  module _ (f : Face) where
    kind_of : ℕ
    kind_of = kinds site f.0 f.1 f.2

    low_of : ℕ
    low_of = lows site f.0 f.1 f.2

    high_of : ℕ
    high_of = highs site f.0 f.1 f.2

    -- the face is of the kind c, over the piece from i to j
    abbrev Spot : ℕ → ℕ → ℕ → Type 0
    Spot c i j = (kind_of ≡ c) × (low_of ≡ i) × (high_of ≡ j)

    spot : (x y z c i j : ℕ) → Turned f (x, y, z) → Seen site x y z c i j → Spot c i j
    unfolding kinds lows highs kind_of low_of high_of
    spot x y z c i j h seen =
        let k = turned_equal (kinds site) (λ x y z. omega arith) f (x, y, z) h in
        let l = turned_equal (lows site) (λ x y z. omega arith) f (x, y, z) h in
        let g = turned_equal (highs site) (λ x y z. omega arith) f (x, y, z) h in
        (k ∙ seen.0, l ∙ seen.1, g ∙ seen.2)

    -- a face with three different numbers is not itself the other way round
    pair : (x y z c i j : ℕ) → x ≢ y → x ≢ z → y ≢ z → Seen site x y z c i j
        → Alt (ind (same_face f (x, y, z)) + ind (same_face f (x, z, y))) (Spot c i j)
    pair x y z c i j xy xz yz seen =
        join (alt (same_face f (x, y, z)) (same_turned f (x, y, z))) (alt (same_face f (x, z, y)) (same_turned f (x, z, y)))
        (λ s t. one_way (turned_trans (turned_sym s) t))
        (λ s. spot x y z c i j s seen)
        (λ s. spot x z y c i j s (omega arith))
      where
        one_way : Turned (x, y, z) (x, z, y) → ⊥
        one_way (as_is a b c) = yz b
        one_way (once a b c) = xz a
        one_way (twice a b c) = xy a

    at_end : (e c : ℕ) → ((i : ℕ) → OnRing site i → e ≢ v site i) → Labelled site e c (suc (m site)) 0
        → (i j : ℕ) → 1 ≤ i → i < j → j ≤ m site → Alt (with_end site f e i j + with_end site f e j i) (Spot c i j)
    unfolding with_end
    at_end e c ne labels i j o h k =
        let li : OnRing site i = omega arith in
        let lj : OnRing site j = omega arith in
        let p = labels_v i li in
        let q = labels_v j lj in
        pair e (v site i) (v site j) c i j (ne i li) (ne j lj) (apart i j o h k) (omega arith)

    at_three : (i k j : ℕ) → 1 ≤ i → i < k → k < j → j ≤ m site → Alt (of_three site f i k j + of_three site f i j k) (Spot 0 i j)
    unfolding of_three
    at_three i k j o g h l =
        let p = labels_v i (omega arith) in
        let q = labels_v k (omega arith) in
        let r = labels_v j (omega arith) in
        let ik = apart i k o g (omega arith) in
        let ij = apart i j o (omega arith) l in
        let kj = apart k j (omega arith) h l in
        pair (v site i) (v site k) (v site j) 0 i j ik ij kj (omega arith)

    -- what a triangle brings, its closing side both ways
    six : ℕ → ℕ → ℕ → ℕ
    six i k j =
        with_a site f i j + with_a site f j i + (with_b site f i j + with_b site f j i) + (of_three site f i k j + of_three site f i j k)

    at_six : (i k j : ℕ) → 1 ≤ i → i < k → k < j → j ≤ m site → Alt (six i k j) ((low_of ≡ i) × (high_of ≡ j))
    unfolding six
    at_six i k j o g h l =
        let a = at_end site.a 1 d.not_a labels_a i j o (omega arith) l in
        let b = at_end site.b 2 d.not_b labels_b i j o (omega arith) l in
        join {P = (1 ≤ kind_of) × (low_of ≡ i) × (high_of ≡ j)}
        (join a b (λ s t. omega arith) (λ s. omega arith) (λ s. omega arith))
        (at_three i k j o g h l)
        (λ s t. omega arith)
        (λ s. omega arith)
        (λ s. omega arith)

    -- what a whole piece brings: the faces of its new rows, and its closing side the other way
    sum : ℕ → Tri → ℕ
    sum i side = with_a site f (suc i) i + with_b site f i (suc i)
    sum i (cut l r) = six i (end_of i l) (end_of (end_of i l) r) + (sum i l + sum (end_of i l) r)

    own_sum : (i : ℕ) (t : Tri) → own site f i t + with_a site f (end_of i t) i + with_b site f i (end_of i t) ≡ sum i t
    unfolding own sum six
    own_sum i side = omega arith
    own_sum i (cut l r) = omega (arith, own_sum i l, own_sum (end_of i l) r)

    abbrev Inside : ℕ → ℕ → Type 0
    Inside i j = (i ≤ low_of) × (low_of < high_of) × (high_of ≤ j)

    at_side : (i : ℕ) → 1 ≤ i → suc i ≤ m site → Alt (with_a site f (suc i) i + with_b site f i (suc i)) (Inside i (suc i))
    unfolding with_end
    at_side i o h =
        let p = labels_v i (omega arith) in
        let q = labels_v (suc i) (omega arith) in
        let a = labels_a in
        let b = labels_b in
        let vi = v site i in
        let vj = v site (suc i) in
        join {P = Spot 1 i (suc i)} {R = Spot 2 i (suc i)}
        (alt (same_face f (site.a, vj, vi)) (λ t. spot site.a vj vi 1 i (suc i) (same_turned _ _ t) (omega arith)))
        (alt (same_face f (site.b, vi, vj)) (λ t. spot site.b vi vj 2 i (suc i) (same_turned _ _ t) (omega arith)))
        (λ s t. omega arith)
        (λ s. omega arith)
        (λ s. omega arith)

    at_sum : (i : ℕ) (t : Tri) → 1 ≤ i → end_of i t ≤ m site → Alt (sum i t) (Inside i (end_of i t))
    unfolding sum
    at_sum i side o h = at_side i o h
    at_sum i (cut l r) o h =
        let k = end_of i l in
        let j = end_of k r in
        let u = end_more i l in
        let w = end_more k r in
        join {P = (low_of ≡ i) × (high_of ≡ j)} {R = Inside i j × ((high_of ≤ k) ⊎ (i < low_of))}
        (at_six i k j o u w h)
        (join (at_sum i l o (omega arith)) (at_sum k r (omega arith) h)
        (λ s t. omega arith)
        (λ s. (omega arith, inl (omega arith)))
        (λ s. (omega arith, inr (omega arith))))
        (λ s t. other s t.1)
        (λ s. omega arith)
        (λ s. s.0)
      where
        other : (low_of ≡ i) × (high_of ≡ end_of (end_of i l) r) → (high_of ≤ end_of i l) ⊎ (i < low_of) → ⊥
        other s (inl t) = omega (arith, end_more (end_of i l) r)
        other s (inr t) = omega arith

  -- no face stands in two new rows
  pub new_once : (f : Face) (i : ℕ) (t : Tri) → 1 ≤ i → end_of i t ≤ m site → hits f (new_rows site i t) ≤ 1
  new_once f i t o h = omega (arith, users_own site f i t, own_sum f i t, most_one (at_sum f i t o h))
