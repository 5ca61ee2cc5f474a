-- The answer is held against the stored one, then what a call gives, where it gives something: that is the definitions' test.
use Prim.Native.Nat.{ℕ, zero, suc}
use mathlib.Core.Bool.{Bool, true, false, ◌&&◌}
use mathlib.Core.List.{List}
use mathlib.Core.Path.{◌≡◌, refl, sym, ap, ◌∙◌}
use lib.Dec.{eqb, eqb-suc-zero, eqb-zero-suc}
use Rattle.std.specs.Prelude.{Result, Ok, Err}
use Rattle.answers.specs.declared.Refusal.{Refusal}
use Rattle.answers.specs.Answers.{number_of}
use Rattle.page.specs.declared.PageRow.{PageRow}
use Rattle.summary.specs.declared.Summary.{Summary}
use Rattle.records.specs.Records.{answer_in}
use Rattle.expected.proofs.TestsInTurn.{fails, passes}
use Rattle.figures.specs.Figures.{page_is, summary_is, removal_is, summarised_is}

-- what is given passes the test, where something is given
abbrev pub given_is : {A : Type 0} → (A → Bool) → Result A Refusal → Bool
given_is is (Ok x) = is x
given_is is (Err refusal) = true

-- the answer of a call, then what it gives
abbrev pub both : {A : Type 0} → (A → Bool) → Result A Refusal → ℕ → Bool
both is r n = eqb (number_of r) n && given_is is r

-- the definitions name the stored answer first
zero_first : (n : ℕ) → eqb 0 n ≡ eqb n 0
zero_first zero = refl
zero_first (suc n) = eqb-zero-suc n ∙ sym (eqb-suc-zero n)

and_true : (b : Bool) → (b && true) ≡ b
and_true true = refl
and_true false = refl

pub both_removal : (r : Result PageRow Refusal) (stored : List ℕ) → both (λ page. page_is page stored) r (answer_in stored) ≡ removal_is r stored
unfolding removal_is
both_removal (Ok page) stored = ap (λ b. b && page_is page stored) (zero_first (answer_in stored))
both_removal (Err refusal) stored = and_true _

pub both_summary : (r : Result Summary Refusal) (stored : List ℕ) → both (λ summary. summary_is summary stored) r (answer_in stored) ≡ summarised_is r stored
unfolding summarised_is
both_summary (Ok summary) stored = ap (λ b. b && summary_is summary stored) (zero_first (answer_in stored))
both_summary (Err refusal) stored = and_true _

-- the test of the answer, of which the outcome is known
pub other_answer : {a b : Bool} (rest : Bool) → a ≡ b → a ≡ false → a ≡ (b && rest)
other_answer rest e h = h ∙ fails rest (sym e ∙ h)

pub same_answer : {a b rest given : Bool} → a ≡ b → a ≡ true → given ≡ rest → given ≡ (b && rest)
same_answer e h g = g ∙ passes (sym e ∙ h)
