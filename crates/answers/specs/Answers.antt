-- Requirement §9: numbered answers, tested from the top, and what a refusal leaves.
use Rattle.std.specs.Prelude.{ℕ, zero, suc, Bool, cond, List, [], ◌∷◌, eqb, Result, Ok, Err}
use Rattle.answers.specs.declared.Refusal.{Refusal}

-- Answer numbers, each with the test for which it is given.
abbrev pub Tests : Type 0
Tests = List (ℕ × Bool)

-- the number of the first test that is true, or 0
unfoldable pub first_refusal : Tests → ℕ
first_refusal [] = 0
first_refusal (test ∷ tests) = let rest = first_refusal tests in cond test.1 test.0 rest

-- ---- the answer as a type

-- what a call gives whose answer has a number: x with 0, and otherwise a refusal
abbrev pub gives : {T : Type 0} → ℕ → T → Result T Refusal
gives zero x = Ok x
gives (suc n) x = Err (record { number = suc n })

-- the same of a call that gives nothing else
abbrev pub answer_of : ℕ → Result (Unit {0}) Refusal
answer_of n = gives n tt

-- the number of each case
abbrev pub number_of : {T : Type 0} → Result T Refusal → ℕ
number_of (Ok x) = 0
number_of (Err refusal) = refusal.number

-- with answer 0 the bytes are written; a refusal returns its number and nothing else, output bytes stay as they came
abbrev pub written : ℕ → List ℕ → List ℕ → List ℕ
written answer bytes out = cond (eqb answer 0) bytes out
