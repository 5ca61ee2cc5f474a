-- The number that a call hands to C is its answer, and the elements it leaves are those of its answer.
use Prim.Native.Nat.{ℕ}
use mathlib.Core.List.{List}
use mathlib.Core.Path.{◌≡◌, refl, ap, ◌∙◌}
use lib.Ieee.{Float}
use lib.ListN.{length, replicate}
use Rattle.std.specs.Prelude.{Result, Ok, Err}
use Rattle.answers.specs.declared.Refusal.{Refusal}
use Rattle.page.specs.declared.PageRow.{PageRow}
use Rattle.layout.specs.Layout.{block_bytes}
use Rattle.answers.specs.Answers.{number_of, gives}
use Rattle.answers.proofs.Refusals.{number_of_lem}
use Rattle.summary.specs.declared.Summary.{Summary}
use Rattle.calls.specs.Summarising.{summary_gives}
use Rattle.calls.specs.declared.Removed.{Removed}
use Rattle.calls.specs.Removing.{remove_gives, page_given}
use Rattle.accepted.proofs.CallsNumbered.{summary_number_fact, remove_number}
use Rattle.elements.specs.Elements.{sized, fitting, summary_elements, summary_over, page_elements, page_over}
use Rattle.sumpnewt.specs.Boundary.{summary_answer, summary_out, page_answer, page_out}

-- an answer
pub handed : {A : Type 0} {r : ℕ} (n : ℕ) (x : A) {given : Result A Refusal} → r ≡ number_of given → given ≡ gives n x → r ≡ n
handed n x e d = e ∙ ap number_of d ∙ number_of_lem n x

-- a summary
pub summary_handed : (block out : List ℕ) {given : Result Summary Refusal} → given ≡ summary_gives block
    → {r : ℕ} → r ≡ sized summary_elements (length out) (number_of given)
    → {now : List ℕ} → now ≡ fitting summary_elements (summary_over out given) out
    → (r ≡ summary_answer block out) × (now ≡ summary_out block out)
unfolding summary_answer summary_out
summary_handed block out gives number elements = (
  number ∙ ap (sized summary_elements (length out)) (ap number_of gives ∙ summary_number_fact block),
  elements ∙ ap (λ given. fitting summary_elements (summary_over out given) out) gives,
)

-- the page row of a removal has its number
page_number : (given : Result Removed Refusal) → number_of (page_given given) ≡ number_of given
page_number (Ok removed) = refl
page_number (Err refusal) = refl

-- a page row
pub page_handed : (block : List ℕ) (row : List Float) (e f : ℕ) {page : Result PageRow Refusal}
    → page ≡ page_given (remove_gives block (replicate block_bytes 0) e f)
    → {r : ℕ} → r ≡ sized page_elements (length row) (number_of page)
    → {now : List Float} → now ≡ fitting page_elements (page_over row page) row
    → (r ≡ page_answer block row e f) × (now ≡ page_out block row e f)
unfolding page_answer page_out
page_handed block row e f gives number elements = (
  number
      ∙ ap (sized page_elements (length row))
      (ap number_of gives ∙ page_number (remove_gives block (replicate block_bytes 0) e f) ∙ remove_number block (replicate block_bytes 0) e f),
  elements ∙ ap (λ (given : Result PageRow Refusal). fitting page_elements (page_over row given) row) gives,
)
