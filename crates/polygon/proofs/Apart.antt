-- Where triangles that do not overlap can lie: one after the other, or one behind a short side of the other. The test by crossing
-- sides says this and no more: a law each way for two triangles, then for a list.
use Prim.Native.Nat.{ℕ, ◌+◌, ◌<◌, ◌≤◌}
use mathlib.Core.Bool.{Bool, true, false, cond, not}
use mathlib.Core.List.Memᴰ
use mathlib.Core.List.{List, [], ◌∷◌, ◌++◌, Memᴰ}
use mathlib.Core.Logic.{◌⊎◌, inl, inr}
use mathlib.Core.Path.{◌≡◌, refl, sym, ◌∙◌}
use native.Mathlib.Decide.{dec_le}
use native.Mathlib.Omega.{arith}
use lib.Dec.{T, leb, ltb, leb→le, le→leb, ltb→lt, lt→ltb, T_not, not_T}
use Rattle.lists.specs.Lists.{any, those, count}
use Rattle.triangulation.specs.Triangulation.{Triangle}
use Rattle.polygon.specs.Polygon.{Side, sides, overtakes, cross, same_triangle, overlap, apart, within}
use Rattle.lists.proofs.Tests.{and_l, and_r, and_i, or_l, or_r, or_e}
use Rattle.lists.proofs.Places.{in_cases}
use Rattle.lists.proofs.Lists.{any_i, any_e, none_passes, those_e}
use Rattle.lists.proofs.Counts.{ind, ind_yes, count_cons}
use Rattle.lists.proofs.Sums.{Single, none, one_more}
use Rattle.triangulation.proofs.TreesTriangulate.{InPiece}
use Rattle.polygon.proofs.SameTriangles.{same→, →same, same_self, nothing, some_in, is_in}

-- ---- tests

pub within→ : (i j : ℕ) (x : Triangle) → T (within i j x) → InPiece i j x
unfolding within
within→ i j x h =
    let a : T (leb i x.0) = search (and_l, and_r) in
    let b : T (ltb x.0 x.1) = search (and_l, and_r) in
    let c : T (ltb x.1 x.2) = search (and_l, and_r) in
    let d : T (leb x.2 j) = search (and_l, and_r) in
    omega (arith, leb→le, ltb→lt)

pub →within : (i j : ℕ) (x : Triangle) → InPiece i j x → T (within i j x)
unfolding within
→within i j x h = search (and_i, le→leb)

-- the statement behind the test
abbrev Overtakes : Side → Side → Type 0
Overtakes d e = (d.0 < e.0) × (e.0 < d.1) × (d.1 < e.1)

overtakes→ : (d e : Side) → T (overtakes d e) → Overtakes d e
unfolding overtakes
overtakes→ d e h =
    let a : T (ltb d.0 e.0) = search (and_l, and_r) in
    let b : T (ltb e.0 d.1) = search (and_l, and_r) in
    let c : T (ltb d.1 e.1) = search (and_l, and_r) in
    omega (arith, ltb→lt)

→overtakes : (d e : Side) → Overtakes d e → T (overtakes d e)
unfolding overtakes
→overtakes d e h = search (and_i, lt→ltb)

cross→ : (d e : Side) → T (cross d e) → Overtakes d e ⊎ Overtakes e d
unfolding cross
cross→ d e h = go (or_e (overtakes d e) (overtakes e d) h)
  where
    go : T (overtakes d e) ⊎ T (overtakes e d) → Overtakes d e ⊎ Overtakes e d
    go (inl k) = inl (overtakes→ d e k)
    go (inr k) = inr (overtakes→ e d k)

→cross : (d e : Side) → Overtakes d e → T (cross d e)
unfolding cross
→cross d e h = or_l (overtakes d e) _ (→overtakes d e h)

→cross_back : (d e : Side) → Overtakes e d → T (cross d e)
unfolding cross
→cross_back d e h = or_r (overtakes d e) _ (→overtakes e d h)

-- ---- two triangles

-- The six cases: x before y or after it, y behind the first or the second short side of x, and x behind one of y.
pub data Apart (x y : Triangle) : Type 0 where
  before : x.2 ≤ y.0 → Apart x y
  after : y.2 ≤ x.0 → Apart x y
  under_first : x.0 ≤ y.0 → y.2 ≤ x.1 → Apart x y
  under_second : x.1 ≤ y.0 → y.2 ≤ x.2 → Apart x y
  over_first : y.0 ≤ x.0 → x.2 ≤ y.1 → Apart x y
  over_second : y.1 ≤ x.0 → x.2 ≤ y.2 → Apart x y

pub turned : {x y : Triangle} → Apart x y → Apart y x
turned (before a) = after a
turned (after a) = before a
turned (under_first a b) = over_first a b
turned (under_second a b) = over_second a b
turned (over_first a b) = under_first a b
turned (over_second a b) = under_second a b

-- i < k < j
abbrev pub InOrder : Triangle → Type 0
InOrder x = (x.0 < x.1) × (x.1 < x.2)

pub not_itself : (x : Triangle) → InOrder x → Apart x x → ⊥
not_itself x g (before a) = omega arith
not_itself x g (after a) = omega arith
not_itself x g (under_first a b) = omega arith
not_itself x g (under_second a b) = omega arith
not_itself x g (over_first a b) = omega arith
not_itself x g (over_second a b) = omega arith

pub by_order : {P : Type 0} (a b : ℕ) → (a ≤ b → P) → (b < a → P) → P
by_order {P} a b f g = go (dec_le a b)
  where
    go : Dec (a ≤ b) → P
    go (yes h) = f h
    go (no h) = g (omega arith)

-- the sides of a triangle

first_of : (z : Triangle) → Memᴰ (z.0, z.1) (sides z)
unfolding sides
first_of z = Memᴰ.head refl

second_of : (z : Triangle) → Memᴰ (z.1, z.2) (sides z)
unfolding sides
second_of z = Memᴰ.tail (Memᴰ.head refl)

long_of : (z : Triangle) → Memᴰ (z.0, z.2) (sides z)
unfolding sides
long_of z = Memᴰ.tail (Memᴰ.tail (Memᴰ.head refl))

-- triangles that do not overlap lie apart: in every other case some side crosses a side, or they are the same
module _ (x y : Triangle) (gx : InOrder x) (gy : InOrder y) (free : T (not (overlap x y))) where
  differ : T (same_triangle x y) → ⊥
  unfolding overlap
  differ h = T_not (overlap x y) free (or_l (same_triangle x y) _ h)

  clear : {d e : Side} → Memᴰ d (sides x) → Memᴰ e (sides y) → T (cross d e) → ⊥
  unfolding overlap
  clear {d} {e} m n h =
      T_not (overlap x y) free
      (or_r (same_triangle x y) (any (λ d. any (cross d) (sides y)) (sides x))
      (any_i (λ d. any (cross d) (sides y)) (sides x) m (any_i (cross d) (sides y) n h)))

  no_cross : {d e : Side} → Memᴰ d (sides x) → Memᴰ e (sides y) → Overtakes d e → ⊥
  no_cross {d} {e} m n h = clear m n (→cross d e h)

  no_cross_back : {d e : Side} → Memᴰ d (sides x) → Memᴰ e (sides y) → Overtakes e d → ⊥
  no_cross_back {d} {e} m n h = clear m n (→cross_back d e h)

  -- y starts in front of x and reaches into it
  begins_before : y.0 < x.0 → x.0 < y.2 → Apart x y
  begins_before a b =
      by_order x.2 y.2
      (λ c. by_order y.1 x.0 (λ d. over_second d c)
      (λ d. by_order x.2 y.1 (over_first (omega arith)) (λ e. absurd (no_cross_back (long_of x) (first_of y) (omega arith)))))
      (λ c. absurd (no_cross_back (long_of x) (long_of y) (omega arith)))

  -- both start at one place, and y reaches over the middle corner of x
  begin_together : x.0 ≡ y.0 → x.1 < y.2 → Apart x y
  begin_together a b =
      by_order x.2 y.2
      (λ c. by_order x.2 y.1 (over_first (omega arith))
      (λ d. by_order y.2 x.2
      (λ e. by_order x.1 y.1
      (λ f. by_order y.1 x.1
      (λ g. absurd (differ (→same x y a (omega arith) (omega arith))))
      (λ g. absurd (no_cross_back (second_of x) (first_of y) (omega arith))))
      (λ f. absurd (no_cross (first_of x) (second_of y) (omega arith))))
      (λ e. absurd (no_cross (long_of x) (second_of y) (omega arith)))))
      (λ c. absurd (no_cross_back (second_of x) (long_of y) (omega arith)))

  -- y starts inside x
  begins_inside : x.0 ≤ y.0 → y.0 < x.2 → Apart x y
  begins_inside a b =
      by_order x.1 y.0
      (λ c. by_order y.2 x.2 (under_second c) (λ d. absurd (no_cross (long_of x) (long_of y) (omega arith))))
      (λ c. by_order y.2 x.1 (under_first a)
      (λ d. by_order y.0 x.0 (λ e. begin_together (omega arith) d) (λ e. absurd (no_cross (first_of x) (long_of y) (omega arith)))))

  pub free→ : Apart x y
  free→ =
      by_order y.2 x.0 after
      (λ a. by_order x.2 y.0 before (λ b. by_order x.0 y.0 (λ c. begins_inside c b) (λ c. begins_before c a)))

-- a side stays between the first and the last corner
spread : (z : Triangle) → InOrder z → {d : Side} → Memᴰ d (sides z) → (z.0 ≤ d.0) × (d.0 < d.1) × (d.1 ≤ z.2)
unfolding sides
spread z g m =
    in_cases m (λ e. rw e (omega arith))
    (λ m. in_cases m (λ e. rw e (omega arith)) (λ m. in_cases m (λ e. rw e (omega arith)) (λ m. absurd (Memᴰ.not-nil m))))

-- sides do not cross where one comes after the other or lies inside it

beside : (d e : Side) → d.1 ≤ e.0 → T (cross d e) → d.0 < d.1 → e.0 < e.1 → ⊥
beside d e a h f g = go (cross→ d e h)
  where
    go : Overtakes d e ⊎ Overtakes e d → ⊥
    go (inl k) = omega arith
    go (inr k) = omega arith

inside : (d e : Side) → d.0 ≤ e.0 → e.1 ≤ d.1 → T (cross d e) → ⊥
inside d e a b h = go (cross→ d e h)
  where
    go : Overtakes d e ⊎ Overtakes e d → ⊥
    go (inl k) = omega arith
    go (inr k) = omega arith

swap : (d e : Side) → T (cross d e) → T (cross e d)
swap d e h = go (cross→ d e h)
  where
    go : Overtakes d e ⊎ Overtakes e d → T (cross e d)
    go (inl k) = →cross_back e d k
    go (inr k) = →cross e d k

-- what lies behind a short side of a triangle crosses no side of it
behind : (z : Triangle) → InOrder z → {d : Side} → Memᴰ d (sides z) → (e : Side) → e.0 < e.1
    → ((z.0 ≤ e.0) × (e.1 ≤ z.1)) ⊎ ((z.1 ≤ e.0) × (e.1 ≤ z.2)) → T (cross d e) → ⊥
unfolding sides
behind z g {d} m e f (inl a) h =
    in_cases m (λ q. inside d e (rw q (omega arith)) (rw q (omega arith)) h)
    (λ m. in_cases m (λ q. beside e d (rw q (omega arith)) (swap d e h) f (rw q (omega arith)))
    (λ m. in_cases m (λ q. inside d e (rw q (omega arith)) (rw q (omega arith)) h) (λ m. absurd (Memᴰ.not-nil m))))
behind z g {d} m e f (inr a) h =
    in_cases m (λ q. beside d e (rw q (omega arith)) h (rw q (omega arith)) f)
    (λ m. in_cases m (λ q. inside d e (rw q (omega arith)) (rw q (omega arith)) h)
    (λ m. in_cases m (λ q. inside d e (rw q (omega arith)) (rw q (omega arith)) h) (λ m. absurd (Memᴰ.not-nil m))))

-- triangles that lie apart do not overlap
module _ (x y : Triangle) (gx : InOrder x) (gy : InOrder y) where
  not_crossed : Apart x y → {d e : Side} → Memᴰ d (sides x) → Memᴰ e (sides y) → T (cross d e) → ⊥
  not_crossed c {d} {e} m n h = go c (spread x gx m) (spread y gy n)
    where
      go : Apart x y → (x.0 ≤ d.0) × (d.0 < d.1) × (d.1 ≤ x.2) → (y.0 ≤ e.0) × (e.0 < e.1) × (e.1 ≤ y.2) → ⊥
      go (before a) u v = beside d e (omega arith) h (omega arith) (omega arith)
      go (after a) u v = beside e d (omega arith) (swap d e h) (omega arith) (omega arith)
      go (under_first a b) u v = behind x gx m e v.1 (inl (omega arith)) h
      go (under_second a b) u v = behind x gx m e v.1 (inr (omega arith)) h
      go (over_first a b) u v = behind y gy n d u.1 (inl (omega arith)) (swap d e h)
      go (over_second a b) u v = behind y gy n d u.1 (inr (omega arith)) (swap d e h)

  not_same : Apart x y → T (same_triangle x y) → ⊥
  not_same c h = not_itself y gy (rw (same→ x y h) at c)

  pub →free : Apart x y → T (not (overlap x y))
  unfolding overlap
  →free c = not_T (overlap x y) (λ h. go (or_e (same_triangle x y) (any (λ d. any (cross d) (sides y)) (sides x)) h))
    where
      go : T (same_triangle x y) ⊎ T (any (λ d. any (cross d) (sides y)) (sides x)) → ⊥
      go (inl h) = not_same c h
      go (inr h) =
          let r = any_e (λ d. any (cross d) (sides y)) (sides x) h in
          let s = any_e (cross r.0) (sides y) r.2 in
          not_crossed c r.1 s.1 s.2

-- ---- a whole list

-- each lies apart from all that follow in the list
abbrev pub Parted : List Triangle → Type 0
Parted [] = Unit {0}
Parted (x ∷ xs) = ((y : Triangle) → Memᴰ y xs → Apart x y) × Parted xs

pub apart→ : (xs : List Triangle) → ((x : Triangle) → Memᴰ x xs → InOrder x) → T (apart xs) → Parted xs
unfolding apart
apart→ [] g h = tt
apart→ (x ∷ xs) g h = (
  λ y m. free→ x y (g x (Memᴰ.head refl)) (g y (Memᴰ.tail m))
      (none_passes (overlap x) xs (and_l (not (any (overlap x) xs)) (apart xs) h) m),
  apart→ xs (λ y m. g y (Memᴰ.tail m)) (and_r (not (any (overlap x) xs)) (apart xs) h),
)

pub →apart : (xs : List Triangle) → ((x : Triangle) → Memᴰ x xs → InOrder x) → Parted xs → T (apart xs)
unfolding apart
→apart [] g h = tt
→apart (x ∷ xs) g h =
    and_i (not (any (overlap x) xs)) (apart xs)
    (not_T (any (overlap x) xs) (λ k. let r = any_e (overlap x) xs k in
    T_not (overlap x r.0) (→free x r.0 (g x (Memᴰ.head refl)) (g r.0 (Memᴰ.tail r.1)) (h.0 r.0 r.1)) r.2))
    (→apart xs (λ y m. g y (Memᴰ.tail m)) h.1)

-- any two are the same or lie apart
pub pair : (xs : List Triangle) → Parted xs → {x y : Triangle} → Memᴰ x xs → Memᴰ y xs → (x ≡ y) ⊎ Apart x y
pair [] h m n = absurd (Memᴰ.not-nil m)
pair (z ∷ zs) h {x} {y} m n =
    in_cases m
    (λ e. in_cases n (λ f. inl (e ∙ sym f)) (λ n. inr (rw e (h.0 y n))))
    (λ m. in_cases n (λ f. inr (rw f (turned (h.0 x m)))) (λ n. pair zs h.1 m n))

pub parted_those : (p : Triangle → Bool) (xs : List Triangle) → Parted xs → Parted (those p xs)
unfolding those
parted_those p [] h = tt
parted_those p (x ∷ xs) h = go (p x) (parted_those p xs h.1)
  where
    go : (b : Bool) → Parted (those p xs) → Parted (cond b (x ∷ those p xs) (those p xs))
    go true k = (λ y m. h.0 y (those_e p xs m).0, k)
    go false k = k

pub parted_append : (xs ys : List Triangle) → Parted xs → Parted ys
    → ((x y : Triangle) → Memᴰ x xs → Memᴰ y ys → Apart x y) → Parted (xs ++ ys)
parted_append [] ys h k f = k
parted_append (x ∷ xs) ys h k f =
    (λ y m. go y (Memᴰ.append_cases xs m), parted_append xs ys h.1 k (λ u v m n. f u v (Memᴰ.tail m) n))
  where
    go : (y : Triangle) → Memᴰ y xs ⊎ Memᴰ y ys → Apart x y
    go y (inl m) = h.0 y m
    go y (inr m) = f x y (Memᴰ.head refl) m

-- a test that no two apart pass both is passed at most once
pub at_most_one : (p : Triangle → Bool) (xs : List Triangle) → Parted xs
    → ((x y : Triangle) → Memᴰ x xs → Memᴰ y xs → T (p x) → T (p y) → Apart x y → ⊥) → count p xs ≤ 1
at_most_one p [] h f = omega (arith, nothing p)
at_most_one p (x ∷ xs) h f =
    rw (count_cons p x xs)
    (go (p x) refl (at_most_one p xs h.1 (λ y z m n. f y z (Memᴰ.tail m) (Memᴰ.tail n))))
  where
    go : (b : Bool) → p x ≡ b → count p xs ≤ 1 → ind b + count p xs ≤ 1
    go true e k =
        by_order (count p xs) 0 (λ a. omega arith)
        (λ a. let r = some_in p xs a in
        absurd (f x r.0 (Memᴰ.head refl) (Memᴰ.tail r.1) (rw e tt) r.2 (h.0 r.0 r.1)))
    go false e k = omega arith

-- triangles that lie apart are different
pub distinct : (xs : List Triangle) → ((x : Triangle) → Memᴰ x xs → InOrder x) → Parted xs
    → (x : Triangle) → count (same_triangle x) xs ≤ 1
distinct xs g h x =
    at_most_one (same_triangle x) xs h
    (λ y z m n a b c. not_itself z (g z n) (rw (sym (same→ x y a) ∙ same→ x z b) at c))

-- the other way: no triangle twice, and any two the same or apart
pub parted_by : (xs : List Triangle) → ((x : Triangle) → count (same_triangle x) xs ≤ 1)
    → ((x y : Triangle) → Memᴰ x xs → Memᴰ y xs → (x ≡ y) ⊎ Apart x y) → Parted xs
parted_by [] d f = tt
parted_by (x ∷ xs) d f = (
  λ y m. go y m (f x y (Memᴰ.head refl) (Memᴰ.tail m)),
  parted_by xs (λ z. omega (arith, d z, count_cons (same_triangle z) x xs)) (λ y z m n. f y z (Memᴰ.tail m) (Memᴰ.tail n)),
)
  where
    go : (y : Triangle) → Memᴰ y xs → (x ≡ y) ⊎ Apart x y → Apart x y
    go y m (inl e) =
        let twice : count (same_triangle x) (x ∷ xs) ≤ 1 = d x in
        let again : 1 ≤ count (same_triangle x) xs = rw e (is_in xs m) in
        absurd (omega (arith, count_cons (same_triangle x) x xs, ind_yes (same_triangle x x) (same_self x)))
    go y m (inr a) = a

-- triangles of which none overlaps another stand once each
pub apart_single : (ts : List Triangle) → T (apart ts) → Single ts
unfolding apart overlap
apart_single [] h = none
apart_single (x ∷ xs) h =
    one_more
    (λ m. T_not (any (overlap x) xs) (and_l (not (any (overlap x) xs)) (apart xs) h)
    (any_i (overlap x) xs m (or_l (same_triangle x x) _ (same_self x))))
    (apart_single xs (and_r (not (any (overlap x) xs)) (apart xs) h))
