-- A refusal says that the test with its number is true and those in front of it false; and where a test and those in front of it are false,
-- the tests behind it are left.
use Prim.Native.Nat.{ℕ}
use mathlib.Core.Bool.{Bool, true, false, cond, not}
use mathlib.Core.List.{[], ◌∷◌, append-nil}
use mathlib.Core.Logic.{◌↔◌}
use mathlib.Core.Path.{◌≡◌, refl, sym, ap, ◌∙◌, subst}
use borrow.Author.Tests.{eqb-false}
use lib.Dec.{T, eqb}
use Rattle.lists.specs.Lists.{every}
use Rattle.lists.proofs.Tests.{and_l, and_r, no_is}
use Rattle.answers.specs.Answers.{Tests, first_refusal}
use Rattle.answers.proofs.ByNumber.{test_of, before, unlike, stops, both_passed}

-- the tests behind the one with number n
unfoldable pub past : ℕ → Tests → Tests
past n [] = []
past n (test ∷ tests) = let rest = past n tests in cond (eqb test.0 n) tests rest

-- no test behind the first one with number n has it too
unfoldable pub once : ℕ → Tests → Bool
once n [] = true
once n (test ∷ tests) = let rest = once n tests in cond (eqb test.0 n) (unlike n tests) rest

none_gives : (n : ℕ) (tests : Tests) → T (not (eqb n 0)) → T (unlike n tests) → first_refusal tests ≡ n → ⊥
unfolding first_refusal
none_gives n tests over other e =
    let (own, rest) = both_passed n tests [] other (ap first_refusal (append-nil tests) ∙ e) in
    eqb-false n 0 (no_is (eqb n 0) over) (sym rest)

pub told : (n : ℕ) (tests : Tests) → T (not (eqb n 0)) → T (once n tests) → first_refusal tests ≡ n
    → (first_refusal (before n tests) ≡ 0) × (test_of n tests ≡ true)
unfolding first_refusal test_of before once
told n [] over h e = absurd (eqb-false n 0 (no_is (eqb n 0) over) (sym e))
told n ((k, b) ∷ tests) over h e = go (eqb k n) refl b h e (told n tests over)
  where
    go : (c : Bool) → eqb k n ≡ c → (b : Bool) → T (cond c (unlike n tests) (once n tests)) → cond b k (first_refusal tests) ≡ n
        → (T (once n tests) → first_refusal tests ≡ n → (first_refusal (before n tests) ≡ 0) × (test_of n tests ≡ true))
        → (first_refusal (cond c [] ((k, b) ∷ before n tests)) ≡ 0) × (cond c b (test_of n tests) ≡ true)
    go true c true other e f = (refl, refl)
    go true c false other e f = absurd (none_gives n tests over other e)
    go false c true other e f = absurd (eqb-false k n c e)
    go false c false other e f = f other e

-- where those in front are passed, the number comes exactly when its test is true
pub exactly : {answer : ℕ} (n : ℕ) (tests : Tests) → T (not (eqb n 0)) → T (once n tests) → T (unlike 0 tests)
    → answer ≡ first_refusal tests → first_refusal (before n tests) ≡ 0 → (answer ≡ n) ↔ (test_of n tests ≡ true)
exactly n tests over apart numbered is front =
    (λ e. (told n tests over apart (sym is ∙ e)).1, λ yes. is ∙ stops n tests numbered front yes)

-- a test by what is said where it is false
pub unless : {A W : Type 0} (test : Bool) → A ↔ (test ≡ true) → (W → test ≡ false) → (test ≡ false → W) → A ↔ (W → ⊥)
unless true given to from = (λ a v. subst T (to v) tt, λ none. given.1 refl)
unless false given to from = (λ a v. subst T (sym (given.0 a)) tt, λ none. absurd (none (from refl)))

pub goes_past : (n : ℕ) (tests : Tests) → T (unlike 0 tests) → first_refusal (before n tests) ≡ 0 → test_of n tests ≡ false
    → first_refusal tests ≡ first_refusal (past n tests)
unfolding first_refusal test_of before past every
goes_past n [] h e q = refl
goes_past n ((k, b) ∷ tests) h e q = go (eqb k n) b e q (goes_past n tests (and_r (not (eqb k 0)) (unlike 0 tests) h))
  where
    go : (c b : Bool) → first_refusal (cond c [] ((k, b) ∷ before n tests)) ≡ 0 → cond c b (test_of n tests) ≡ false
        → (first_refusal (before n tests) ≡ 0 → test_of n tests ≡ false → first_refusal tests ≡ first_refusal (past n tests))
        → cond b k (first_refusal tests) ≡ first_refusal (cond c tests (past n tests))
    go true true e q f = absurd (subst T q tt)
    go true false e q f = refl
    go false true e q f = absurd (eqb-false k 0 (no_is (eqb k 0) (and_l (not (eqb k 0)) (unlike 0 tests) h)) e)
    go false false e q f = f e q
