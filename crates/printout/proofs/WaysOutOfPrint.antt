-- The program's ways out, each with the text that the definition asks for: a wrong length, a refusal, a report.
use Prim.Native.Nat.{ℕ, suc, ◌+◌}
use mathlib.Core.Bool.{Bool, true, false, not}
use mathlib.Core.List.{List, []}
use mathlib.Core.Path.{◌≡◌, sym, ap, ◌∙◌}
use borrow.Author.Tests.{eqb-true, eqb-false, not-true, not-false}
use lib.Dec.{eqb}
use lib.ListN.{length, take, replicate}
use Rattle.std.specs.Prelude.{Result, Ok, Err}
use Rattle.answers.specs.declared.Refusal.{Refusal}
use Rattle.layout.specs.Layout.{block_bytes, byte, fields_of}
use Rattle.ring.specs.declared.Ring.{Ring}
use Rattle.ring.specs.Ring.{site_of, ring_with}
use Rattle.calls.specs.declared.Removed.{Removed}
use Rattle.calls.specs.Removing.{remove_answer, remove_bytes, remove_gives}
use Rattle.accepted.proofs.AfterRemoval.{page_given}
use Rattle.text.specs.declared.Text.{Text}
use Rattle.lines.specs.Lines.{answer_line}
use Rattle.printout.specs.Printout.{printout}
use Rattle.text.specs.Steps.{Whole}
use Rattle.text.proofs.BytesBehindAText.{whole_as}
use Rattle.report.specs.Steps.{rows_of, removal_lines, Written, Printable}
use Rattle.printout.proofs.ReadOffTheCalls.{number_is, done_answer, refused_answer, printable, both_written, done_lines}
use Rattle.printout.proofs.PrintoutByAnswer.{printed_length, printed_refusal, printed_done}

-- the ring of a removal
abbrev ring_given : Result Removed Refusal → Ring
ring_given (Ok removed) = removed.ring
ring_given (Err refusal) = ring_with []

-- the test of the length, both ways
pub right_size : (input : List ℕ) {right : Bool} → right ≡ eqb (length input) (block_bytes + 2)
    → not right ≡ false → length input ≡ block_bytes + 2
right_size input {right} e h = eqb-true (length input) (block_bytes + 2) (sym e ∙ not-false right h)

pub wrong_size : (input : List ℕ) {right : Bool} → right ≡ eqb (length input) (block_bytes + 2)
    → not right ≡ true → length input ≡ block_bytes + 2 → ⊥
wrong_size input {right} e h = eqb-false (length input) (block_bytes + 2) (sym e ∙ not-true right h)

module _ (input : List ℕ) where
  -- a wrong length
  pub wrong_length : (length input ≡ block_bytes + 2 → ⊥) → {text : Text} → Whole (answer_line 1) text → Whole (printout input) text
  wrong_length h = whole_as (printed_length input h)

  module _ (size : length input ≡ block_bytes + 2) where
    abbrev block : List ℕ
    block = take block_bytes input

    abbrev e : ℕ
    e = byte input block_bytes

    abbrev f : ℕ
    f = byte input (suc block_bytes)

    abbrev out : List ℕ
    out = replicate block_bytes 0

    -- a refusal
    pub refusal : {refusal : Refusal} → Err refusal ≡ remove_gives block out e f → {k : ℕ} → k ≡ refusal.number
        → {text : Text} → Whole (answer_line k) text → Whole (printout input) text
    refusal gives number =
        whole_as
        (printed_refusal input size (refused_answer block out e f gives) ∙ ap answer_line (sym (number ∙ number_is block out e f gives)))

    module _ (removed : Removed) (gives : Ok removed ≡ remove_gives block out e f) where
      answer : remove_answer block out e f ≡ 0
      answer = done_answer block out e f gives

      module _ (output : List ℕ) (written : output ≡ remove_bytes block out e f) where
        ring_is_lem : removed.ring ≡ ring_with (site_of (fields_of block) e f).ring
        ring_is_lem = ap ring_given (gives ∙ page_given block out e f answer)

        -- what a report asks for
        pub report_asks : Printable removed.ring × Written block output (rows_of removed.ring)
        report_asks = rw (ring_is_lem, written) (printable block out e f answer, both_written block out e f answer)

        -- a report
        pub reported : {text : Text} → Whole (removal_lines block removed.ring output) text → Whole (printout input) text
        reported = whole_as (printed_done input size answer ∙ rw (ring_is_lem, written) (sym (done_lines block out e f answer)))
