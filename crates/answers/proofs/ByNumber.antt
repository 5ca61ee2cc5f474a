-- The tests of a call by their numbers: what answer 0 and a refusal say of the test that has a number, and tests in stages.
use Prim.Native.Nat.{ℕ}
use mathlib.Core.Bool.{Bool, true, false, cond, not}
use mathlib.Core.List.{[], ◌∷◌, ◌++◌}
use mathlib.Core.Path.{◌≡◌, refl, sym, subst}
use borrow.Author.Tests.{eqb-true, eqb-false}
use lib.Dec.{T, eqb}
use Rattle.lists.specs.Lists.{every}
use Rattle.lists.proofs.Tests.{and_l, and_r, no_is}
use Rattle.answers.specs.Answers.{Tests, first_refusal}

-- what the test with number n says; false where there is none
unfoldable pub test_of : ℕ → Tests → Bool
test_of n [] = false
test_of n (test ∷ tests) = let rest = test_of n tests in cond (eqb test.0 n) test.1 rest

-- the tests in front of the one with number n
unfoldable pub before : ℕ → Tests → Tests
before n [] = []
before n (test ∷ tests) = let rest = before n tests in cond (eqb test.0 n) [] (test ∷ rest)

-- no test gives n
abbrev pub unlike : ℕ → Tests → Bool
unlike n tests = every (λ test. not (eqb test.0 n)) tests

unlike_head : (n k : ℕ) (b : Bool) (tests : Tests) → T (unlike n ((k, b) ∷ tests)) → k ≡ n → ⊥
unfolding every
unlike_head n k b tests h = eqb-false k n (no_is (eqb k n) (and_l (not (eqb k n)) (unlike n tests) h))

unlike_rest : (n k : ℕ) (b : Bool) (tests : Tests) → T (unlike n ((k, b) ∷ tests)) → T (unlike n tests)
unfolding every
unlike_rest n k b tests h = and_r (not (eqb k n)) (unlike n tests) h

-- ---- one test

-- answer 0: whatever its number, a test is false
pub passes : (n : ℕ) (tests : Tests) → T (unlike 0 tests) → first_refusal tests ≡ 0 → test_of n tests ≡ false
unfolding first_refusal test_of
passes n [] h e = refl
passes n ((k, b) ∷ tests) h e = go b e (passes n tests (unlike_rest 0 k b tests h))
  where
    past : (c : Bool) → test_of n tests ≡ false → cond c false (test_of n tests) ≡ false
    past true q = refl
    past false q = q

    go : (b : Bool) → cond b k (first_refusal tests) ≡ 0 → (first_refusal tests ≡ 0 → test_of n tests ≡ false)
        → cond (eqb k n) b (test_of n tests) ≡ false
    go true e f = absurd (unlike_head 0 k b tests h e)
    go false e f = past (eqb k n) (f e)

-- a test that is true gives its number, if those in front of it are passed
pub stops : (n : ℕ) (tests : Tests) → T (unlike 0 tests) → first_refusal (before n tests) ≡ 0 → test_of n tests ≡ true
    → first_refusal tests ≡ n
unfolding first_refusal test_of before
stops n [] h e q = absurd (subst T (sym q) tt)
stops n ((k, b) ∷ tests) h e q = go (eqb k n) refl b e q (stops n tests (unlike_rest 0 k b tests h))
  where
    go : (c : Bool) → eqb k n ≡ c → (b : Bool) → first_refusal (cond c [] ((k, b) ∷ before n tests)) ≡ 0
        → cond c b (test_of n tests) ≡ true
        → (first_refusal (before n tests) ≡ 0 → test_of n tests ≡ true → first_refusal tests ≡ n)
        → cond b k (first_refusal tests) ≡ n
    go true c true e q f = eqb-true k n c
    go true c false e q f = absurd (subst T (sym q) tt)
    go false c true e q f = absurd (unlike_head 0 k b tests h e)
    go false c false e q f = f e q

-- ---- stages

-- an answer that no test in front gives comes from behind, and those in front are passed
pub both_passed : (n : ℕ) (xs ys : Tests) → T (unlike n xs) → first_refusal (xs ++ ys) ≡ n → (first_refusal xs ≡ 0) × (first_refusal ys ≡ n)
unfolding first_refusal every
both_passed n [] ys h e = (refl, e)
both_passed n ((k, b) ∷ xs) ys h e = go b e (both_passed n xs ys (and_r (not (eqb k n)) (unlike n xs) h))
  where
    go : (b : Bool) → cond b k (first_refusal (xs ++ ys)) ≡ n → (first_refusal (xs ++ ys) ≡ n → (first_refusal xs ≡ 0) × (first_refusal ys ≡ n))
        → (cond b k (first_refusal xs) ≡ 0) × (first_refusal ys ≡ n)
    go true e f = absurd (eqb-false k n (no_is (eqb k n) (and_l (not (eqb k n)) (unlike n xs) h)) e)
    go false e f = f e

pub front_passed : (xs ys : Tests) → T (unlike 0 xs) → first_refusal xs ≡ 0 → first_refusal (xs ++ ys) ≡ first_refusal ys
unfolding first_refusal every
front_passed [] ys h e = refl
front_passed ((k, b) ∷ xs) ys h e = go b e (front_passed xs ys (and_r (not (eqb k 0)) (unlike 0 xs) h))
  where
    go : (b : Bool) → cond b k (first_refusal xs) ≡ 0 → (first_refusal xs ≡ 0 → first_refusal (xs ++ ys) ≡ first_refusal ys)
        → cond b k (first_refusal (xs ++ ys)) ≡ first_refusal ys
    go true e f = absurd (eqb-false k 0 (no_is (eqb k 0) (and_l (not (eqb k 0)) (unlike 0 xs) h)) e)
    go false e f = f e

-- tests behind others matter only if those are passed
pub same_behind : (xs ys zs : Tests) → (first_refusal xs ≡ 0 → first_refusal ys ≡ first_refusal zs)
    → first_refusal (xs ++ ys) ≡ first_refusal (xs ++ zs)
unfolding first_refusal
same_behind [] ys zs f = f refl
same_behind ((k, b) ∷ xs) ys zs f = go b f (same_behind xs ys zs)
  where
    go : (b : Bool) → (cond b k (first_refusal xs) ≡ 0 → first_refusal ys ≡ first_refusal zs)
        → ((first_refusal xs ≡ 0 → first_refusal ys ≡ first_refusal zs) → first_refusal (xs ++ ys) ≡ first_refusal (xs ++ zs))
        → cond b k (first_refusal (xs ++ ys)) ≡ cond b k (first_refusal (xs ++ zs))
    go true f below = refl
    go false f below = below f
