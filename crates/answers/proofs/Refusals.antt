-- Numbered answers, tested from the top: what the first refusal is, and which numbers it can be.
use Prim.Native.Nat.{ℕ, zero, suc}
use mathlib.Core.Bool.{Bool, true, false, cond, ◌||◌}
use mathlib.Core.List.{[], ◌∷◌, map}
use mathlib.Core.Path.{◌≡◌, refl, sym, ap, ◌∙◌}
use native.Mathlib.Omega.{arith}
use lib.Dec.{T, eqb, eqb_refl}
use Rattle.lists.specs.Lists.{has, any}
use Rattle.lists.proofs.Tests.{or_l, or_r}
use Rattle.std.specs.Prelude.{Ok, Err}
use Rattle.answers.specs.declared.Refusal.{Refusal}
use Rattle.answers.specs.Answers.{Tests, first_refusal, gives, number_of}

-- a test that is false is passed over
pub goes_on : (n : ℕ) (b : Bool) (tests : Tests) → b ≡ false → first_refusal ((n, b) ∷ tests) ≡ first_refusal tests
unfolding first_refusal
goes_on n b tests e = rw e

-- a test that is true gives its number
pub refuses : (n : ℕ) (b : Bool) (tests : Tests) → b ≡ true → first_refusal ((n, b) ∷ tests) ≡ n
unfolding first_refusal
refuses n b tests e = rw e

one_more : (a b c : Bool) → T (a || c) → T (a || (b || c))
one_more true b c h = tt
one_more false b c h = or_r b c h

-- the answer is 0 or the number of a test
pub on_list : (tests : Tests) → T (has (0 ∷ map (λ test. test.0) tests) (first_refusal tests))
unfolding first_refusal any
on_list [] = tt
on_list (test ∷ tests) = go test.1 (on_list tests)
  where
    go : (b : Bool) → T (has (0 ∷ map (λ test. test.0) tests) (first_refusal tests))
        → T (has (0 ∷ test.0 ∷ map (λ test. test.0) tests) (cond b test.0 (first_refusal tests)))
    go true h = or_r (eqb test.0 0) _ (or_l (eqb test.0 test.0) _ (eqb_refl test.0))
    go false h = one_more (eqb (first_refusal tests) 0) (eqb (first_refusal tests) test.0) _ h

-- the number of what is given is the answer's
pub number_of_lem : {A : Type 0} (n : ℕ) (x : A) → number_of (gives n x) ≡ n
number_of_lem zero x = refl
number_of_lem (suc n) x = refl

-- with answer 0 only something is given, and with any other number a refusal that has it

pub given_done : {A : Type 0} (n : ℕ) (x y : A) → gives n x ≡ Ok y → n ≡ 0
given_done zero x y e = refl
given_done (suc n) x y e = cc

pub given_refused : {A : Type 0} (n : ℕ) (x : A) (r : Refusal) → gives n x ≡ Err r → n ≡ 0 → ⊥
given_refused zero x r e z = cc
given_refused (suc n) x r e z = omega arith

-- a refusal is the same whatever would be given
pub refused_same : {A B : Type 0} (n : ℕ) (x : A) (y : B) {r : Refusal} → gives n x ≡ Err r → gives n y ≡ Err r
refused_same zero x y e = cc
refused_same (suc n) x y e = cc

-- a refusal passed on: the same is given by a call whose answer is that of the call that refused
pub passed_on : {A B : Type 0} (n k : ℕ) (x : A) (y : B) {r : Refusal} → gives n x ≡ Err r → ((n ≡ 0 → ⊥) → k ≡ n) → Err r ≡ gives k y
passed_on n k x y {r} e f = sym (refused_same n x y e) ∙ ap (λ i. gives i y) (sym (f (given_refused n x r e)))
