-- Of two lists in which each triangle stands as often, as many pass any test. The one is taken out of the other, triangle by triangle,
-- and nothing is left.
use Prim.Native.Nat.{ℕ, ◌+◌, ◌≤◌}
use mathlib.Core.Bool.{Bool, true}
use mathlib.Core.List.{List, [], ◌∷◌, ◌++◌, Memᴰ}
use mathlib.Core.Path.{◌≡◌, refl, sym, ap}
use native.Mathlib.Omega.{arith}
use lib.Dec.{T, eqb, eqb→eq, not_T}
use lib.ListN.{length}
use Rattle.lists.specs.Lists.{every, any, those, count}
use Rattle.triangulation.specs.Triangulation.{Triangle}
use Rattle.polygon.specs.Polygon.{same_triangle, Alike}
use Rattle.lists.proofs.Tests.{and_l, and_r, and_i, eq_test}
use Rattle.lists.proofs.Lists.{every_at, every_i, any_e, any_split}
use Rattle.lists.proofs.Counts.{ind, ind_yes, count_cons, count_append, count_member, count_none, some_counted}

-- of both as many pass, whatever the test
abbrev pub Same : List Triangle → List Triangle → Type 0
Same ts us = (p : Triangle → Bool) → count p ts ≡ count p us

-- ---- the same triangle

pub three : (x : Triangle) (i k j : ℕ) → x.0 ≡ i → x.1 ≡ k → x.2 ≡ j → x ≡ (i, k, j)
three x i k j a b c = λ n. (a n, b n, c n)

pub same→ : (x y : Triangle) → T (same_triangle x y) → x ≡ y
unfolding same_triangle
same→ x y h =
    let a : T (eqb x.0 y.0) = search (and_l, and_r) in
    let b : T (eqb x.1 y.1) = search (and_l, and_r) in
    let c : T (eqb x.2 y.2) = search (and_l, and_r) in
    three x y.0 y.1 y.2 (eqb→eq _ _ a) (eqb→eq _ _ b) (eqb→eq _ _ c)

pub →same : (x y : Triangle) → x.0 ≡ y.0 → x.1 ≡ y.1 → x.2 ≡ y.2 → T (same_triangle x y)
unfolding same_triangle
→same x y a b c = search (and_i, eq_test)

pub same_self : (x : Triangle) → T (same_triangle x x)
same_self x = →same x x refl refl refl

-- ---- how many

pub nothing : {A : Type 0} (p : A → Bool) → count p [] ≡ 0
unfolding those
nothing p = refl

-- none is counted where none passes
pub none : {A : Type 0} (p : A → Bool) (xs : List A) → ((x : A) → Memᴰ x xs → T (p x) → ⊥) → count p xs ≡ 0
none p xs f = count_none p xs (not_T (any p xs) (λ h. let r = any_e p xs h in f r.0 r.1 r.2))

pub all_pass : (xs : List Triangle) → count (λ x. true) xs ≡ length xs
unfolding those
all_pass [] = refl
all_pass (x ∷ xs) = omega (arith, all_pass xs)

pub some_in : (p : Triangle → Bool) (xs : List Triangle) → 1 ≤ count p xs → (x : Triangle) × Memᴰ x xs × T (p x)
some_in p xs h = any_e p xs (some_counted p xs h)

pub is_in : (xs : List Triangle) {x : Triangle} → Memᴰ x xs → 1 ≤ count (same_triangle x) xs
is_in xs {x} m = count_member (same_triangle x) xs m (same_self x)

-- one triangle taken out of a list
take_out : (x : Triangle) (ys : List Triangle) → 1 ≤ count (same_triangle x) ys
    → (zs : List Triangle) × ((p : Triangle → Bool) → count p ys ≡ ind (p x) + count p zs)
take_out x ys h =
    let (y, front, back, split, own) = any_split (same_triangle x) ys (some_counted (same_triangle x) ys h) in (
      front ++ back,
      λ p. omega (
        arith,
        ap (count p) split,
        ap (λ z. ind (p z)) (same→ x y own),
        count_append p front (y ∷ back),
        count_cons p y back,
        count_append p front back,
      ),
    )

-- a whole list taken out of another that has all of it
pub leftover : (xs ys : List Triangle) → ((x : Triangle) → count (same_triangle x) xs ≤ count (same_triangle x) ys)
    → (zs : List Triangle) × ((p : Triangle → Bool) → count p ys ≡ count p xs + count p zs)
leftover [] ys h = (ys, λ p. omega (arith, nothing p))
leftover (x ∷ xs) ys h =
    let first = ind_yes (same_triangle x x) (same_self x) in
    let r = take_out x ys (omega (arith, h x, count_cons (same_triangle x) x xs)) in
    let s = leftover xs r.0 (λ z. omega (arith, h z, count_cons (same_triangle z) x xs, r.1 (same_triangle z))) in
    (s.0, λ p. omega (arith, r.1 p, s.1 p, count_cons p x xs))

pub empty : (xs : List Triangle) → ((x : Triangle) → Memᴰ x xs → ⊥) → xs ≡ []
empty [] f = refl
empty (x ∷ xs) f = absurd (f x (Memᴰ.head refl))

pub alike→ : (xs ys : List Triangle) → Alike xs ys → Same xs ys
alike→ xs ys h p =
    let r = leftover xs ys (λ x. omega (arith, h x)) in
    let none = empty r.0 (λ x m. omega (arith, is_in r.0 m, r.1 (same_triangle x), h x)) in
    let gone : count p r.0 ≡ count p [] = rw none in
    omega (arith, r.1 p, nothing p)

pub alike_length : (xs ys : List Triangle) → Alike xs ys → length xs ≡ length ys
alike_length xs ys h = omega (arith, all_pass xs, all_pass ys, alike→ xs ys h (λ x. true))

pub alike_in : (xs ys : List Triangle) → Alike xs ys → {x : Triangle} → Memᴰ x xs → Memᴰ x ys
alike_in xs ys h {x} m =
    let r = some_in (same_triangle x) ys (omega (arith, h x, is_in xs m)) in
    rw (same→ x r.0 r.2) r.1

-- what each triangle of the one list has, each of the other has
pub alike_every : (p : Triangle → Bool) (xs ys : List Triangle) → Alike xs ys → T (every p xs) → T (every p ys)
alike_every p xs ys h k = every_i p ys (λ x m. every_at p xs k (alike_in ys xs (λ x. sym (h x)) m))
