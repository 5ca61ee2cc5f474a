-- The summary of a block: from all inputs to the answer.
use Rattle.std.specs.Prelude.{List, ℕ, Result}
use Rattle.answers.specs.declared.Refusal.{Refusal}
use Rattle.answers.specs.Answers.{gives}
use Rattle.layout.specs.Layout.{fields_of}
use Rattle.block.specs.Opening.{open_answer}
use Rattle.summary.specs.declared.Summary.{Summary}
use Rattle.summary.specs.Summary.{summary_of}

-- the summary of a block, or a refusal of opening
unfoldable pub summary_gives : List ℕ → Result Summary Refusal
summary_gives block = gives (open_answer block) (summary_of (fields_of block))
