-- What the C boundary adds to the public calls: the answer and each element of an output that is an array of numbers.
use Rattle.std.specs.Prelude.{ℕ, List, Float, length, replicate}
use Rattle.layout.specs.Layout.{block_bytes}
use Rattle.block.specs.Opening.{open_answer}
use Rattle.calls.specs.Summarising.{summary_gives}
use Rattle.calls.specs.Removing.{remove_answer, remove_gives, page_given}
use Rattle.elements.specs.Elements.{sized, fitting, summary_elements, summary_over, page_elements, page_over}

-- ---- the summary: upright, flat, inverted, has_worst, worst, has_octave, octave

-- the answer of opening
unfoldable pub summary_answer : List ℕ → List ℕ → ℕ
summary_answer block out = sized summary_elements (length out) (open_answer block)

-- each element of the output afterwards
unfoldable pub summary_out : List ℕ → List ℕ → List ℕ
summary_out block out = fitting summary_elements (summary_over out (summary_gives block)) out

-- ---- the page row: worst before, worst after

-- the answer of the removal, with an output block of the right length
unfoldable pub page_answer : List ℕ → List Float → ℕ → ℕ → ℕ
page_answer block row e f = sized page_elements (length row) (remove_answer block (replicate block_bytes 0) e f)

-- each element of the row afterwards: there is a page row only with answer 0 of a removal
unfoldable pub page_out : List ℕ → List Float → ℕ → ℕ → List Float
page_out block row e f = fitting page_elements (page_over row (page_given (remove_gives block (replicate block_bytes 0) e f))) row
