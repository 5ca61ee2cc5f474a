-- A summary and a page row as the elements of an array.
use Rattle.std.specs.Prelude.{ℕ, cond, List, [], ◌∷◌, eqb, length, Float, Option, None, Some, option_map, unwrap_or, Result, Ok, Err}
use Rattle.answers.specs.declared.Refusal.{Refusal}
use Rattle.page.specs.declared.PageRow.{PageRow}
use Rattle.summary.specs.declared.Summary.{Summary}

-- 1 for an output of another length than it must have, before anything in the block
abbrev pub sized : ℕ → ℕ → ℕ → ℕ
sized must given answer = cond (eqb given must) answer 1

-- an output of another length than it must have stays as it came
abbrev pub fitting : {A : Type 0} → ℕ → List A → List A → List A
fitting must elements out = cond (eqb (length out) must) elements out

-- ---- the summary: upright, flat, inverted, has_worst, worst, has_octave, octave

-- a patch with no rows has no worst score, and one with no upright row has no octave
abbrev pub has_value : {A : Type 0} → Option A → ℕ
has_value (Some x) = 1
has_value None = 0

-- the elements of a summary
abbrev pub summary_elements : ℕ
summary_elements = 7

-- a summary, element by element; a number that is not there is told as 0
unfoldable pub summary_numbers : Summary → List ℕ
summary_numbers summary =
    summary.upright ∷ summary.flat ∷ summary.inverted
    ∷ has_value summary.worst ∷ unwrap_or (option_map (λ score. score.value) summary.worst) 0
    ∷ has_value summary.octave ∷ unwrap_or summary.octave 0 ∷ []

-- with a summary each element is written; with a refusal they stay as they came
abbrev pub summary_over : List ℕ → Result Summary Refusal → List ℕ
summary_over out (Ok summary) = summary_numbers summary
summary_over out (Err refusal) = out

-- ---- the page row: worst before, worst after

-- the elements of a page row
abbrev pub page_elements : ℕ
page_elements = 2

-- a page row, element by element
abbrev pub page_numbers : PageRow → List Float
page_numbers page = page.before ∷ page.after ∷ []

-- with a page row both elements are written; with a refusal they stay as they came
abbrev pub page_over : List Float → Result PageRow Refusal → List Float
page_over row (Ok page) = page_numbers page
page_over row (Err refusal) = row
