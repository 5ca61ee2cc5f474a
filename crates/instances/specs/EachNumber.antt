-- The lists of numbers are exact: no other number comes, which is demand 1, and each number on a call's list does come: there is an input
-- for each.
use Rattle.std.specs.Prelude.{ℕ, List, ◌≡◌, T, Float, length, replicate}
use Rattle.lists.specs.Lists.{every, has}
use Rattle.page.specs.Page.{plus_zero}
use Rattle.layout.specs.Layout.{max_rows}
use Rattle.layout.specs.Within.{is_byte}
use Rattle.answers.specs.Answers.{number_of}
use Rattle.block.specs.Opening.{open_answer, seal_answer}
use Rattle.display.specs.Display.{shown_answer}
use Rattle.calls.specs.Summarising.{summary_gives}
use Rattle.calls.specs.Removing.{remove_answer}
use Rattle.calls.specs.Flipping.{flip_answer}
use Rattle.accepted.specs.CallNumbers.{open_numbers, seal_numbers, remove_numbers, flip_numbers}
use Rattle.facts.specs.Facts.{blank}

-- an output for what is shown
abbrev pub none_shown : List Float
none_shown = replicate max_rows plus_zero

-- Each number on the list is the answer to some input of bytes; the output, where there is one, has the right length. The list of a flip goes
-- by how many numbers it is given, and each comes with so many.
pub record NumbersCome : Type 0 where
  pub opening : (n : ℕ) → T (has open_numbers n) → (block : List ℕ) × T (every is_byte block) × (open_answer block ≡ n)
  pub summary : (n : ℕ) → T (has open_numbers n) → (block : List ℕ) × T (every is_byte block) × (number_of (summary_gives block) ≡ n)
  pub shown : (n : ℕ) → T (has open_numbers n) → (block : List ℕ) × T (every is_byte block) × (shown_answer block none_shown ≡ n)
  pub sealing : (n : ℕ) → T (has seal_numbers n) → (body : List ℕ) × T (every is_byte body) × (seal_answer body blank ≡ n)
  pub removal : (n : ℕ) → T (has remove_numbers n)
      → (block : List ℕ) × (e f : ℕ) × T (every is_byte block) × (remove_answer block blank e f ≡ n)
  pub flip : (numbers : List ℕ) (n : ℕ) → T (has (flip_numbers numbers) n)
      → (block its : List ℕ) × (length its ≡ length numbers) × T (every is_byte block) × (flip_answer block blank its ≡ n)
