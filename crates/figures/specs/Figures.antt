-- When the numbers that a call gives are the stored ones: the bits of the page row, or the seven numbers of the summary.
use Rattle.std.specs.Prelude.{ℕ, Bool, not, ◌&&◌, List, eqb, Float, Option, None, Some, option_map, Result, Ok, Err}
use Rattle.std.specs.Float.{binary64}
use Rattle.std.specs.Float.Ieee.{is_nan, to_bits}
use Rattle.answers.specs.declared.Refusal.{Refusal}
use Rattle.page.specs.declared.PageRow.{PageRow}
use Rattle.summary.specs.declared.Summary.{Summary}
use Rattle.records.specs.Records.{answer_in, figure_in}

-- the size is a number, and has these bits
abbrev pub has_bits : Float → ℕ → Bool
has_bits size bits = not (is_nan size) && eqb (to_bits binary64 size) bits

-- the page row has the stored bits
unfoldable pub page_is : PageRow → List ℕ → Bool
page_is page stored = has_bits page.before (figure_in stored 0) && has_bits page.after (figure_in stored 1)

-- the number is there and is this one, or is not there
unfoldable pub number_is : Option ℕ → ℕ → ℕ → Bool
number_is (Some n) there number = eqb there 1 && eqb n number
number_is None there number = eqb there 0

-- the seven numbers of the summary are the stored ones
unfoldable pub summary_is : Summary → List ℕ → Bool
summary_is s stored =
    eqb s.upright (figure_in stored 0)
    && (eqb s.flat (figure_in stored 1)
    && (eqb s.inverted (figure_in stored 2)
    && (number_is (option_map (λ score. score.value) s.worst) (figure_in stored 3) (figure_in stored 4)
    && number_is s.octave (figure_in stored 5) (figure_in stored 6))))

-- the summary is the stored one, or the refusal
unfoldable pub summarised_is : Result Summary Refusal → List ℕ → Bool
summarised_is (Ok summary) stored = eqb (answer_in stored) 0 && summary_is summary stored
summarised_is (Err refusal) stored = eqb refusal.number (answer_in stored)

-- the page row is the stored one, or the refusal
unfoldable pub removal_is : Result PageRow Refusal → List ℕ → Bool
removal_is (Ok page) stored = eqb (answer_in stored) 0 && page_is page stored
removal_is (Err refusal) stored = eqb refusal.number (answer_in stored)
