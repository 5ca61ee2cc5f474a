-- The program's ways out, each with the text that the definition asks for: a refusal, a report. What is handed to the call is the block
-- and the first four numbers, or as much of both as there is.
use Prim.Native.Nat.{ℕ, ◌-◌, ◌≤◌, min}
use mathlib.Core.List.{List}
use mathlib.Core.Path.{◌≡◌, sym, ap, ap₂, ◌∙◌}
use native.Mathlib.Omega.{arith}
use lib.ListN.{length, take, drop, replicate, length-append, length-take}
use lib.Seq.{take-length, take-append_seam, take-take}
use Rattle.std.specs.Prelude.{Ok, Err}
use Rattle.answers.specs.declared.Refusal.{Refusal}
use Rattle.answers.specs.Answers.{answer_of, number_of}
use Rattle.answers.proofs.Refusals.{number_of_lem, given_done, given_refused}
use Rattle.layout.specs.Layout.{block_bytes}
use Rattle.calls.specs.Flipping.{flip_answer, flip_bytes}
use Rattle.input.specs.declared.Numbers.{Numbers}
use Rattle.input.specs.Steps.{most_numbers, numbers_of}
use Rattle.text.specs.declared.Text.{Text}
use Rattle.text.specs.Steps.{Whole}
use Rattle.text.proofs.BytesBehindAText.{whole_as}
use Rattle.lines.specs.Lines.{answer_line}
use Rattle.report.specs.Steps.{flip_lines, Written}
use Rattle.flip_printout.specs.FlipPrintout.{flip_printed, flip_printout}
use Rattle.flip_printout.proofs.FirstFour.{four_tell}
use Rattle.flip_printout.proofs.ReadOffTheFlip.{printed_refusal, printed_done, report_asks}

-- ---- what is handed to the call

module _ (input : List ℕ) (numbers : Numbers) (is : numbers ≡ numbers_of input) where
  abbrev first : List ℕ
  first = take most_numbers (drop block_bytes input)

  -- the numbers may be lent
  pub numbers_lend : numbers.n ≤ length numbers.all
  numbers_lend = rw is (omega (arith, length-append first (replicate (most_numbers - length first) 0)))

  numbers_are : take numbers.n numbers.all ≡ first
  numbers_are = rw is (take-append_seam first _)

  pub count_is : numbers.n ≡ length (take numbers.n numbers.all)
  count_is = ap (λ (ns : Numbers). ns.n) is ∙ sym (ap length numbers_are)

  -- and tell what is printed
  pub handed_tell : (size : ℕ) → size ≡ min block_bytes (length input)
      → flip_printed (take (size - 0) input) (take numbers.n numbers.all) ≡ flip_printout input
  handed_tell size e =
      let block = take block_bytes input in
      let many : size - 0 ≡ length block = omega (arith, e, length-take block_bytes input) in
      let same = sym (take-take (length block) block_bytes input (omega (arith, length-take block_bytes input))) ∙ take-length block in
      ap₂ flip_printed (ap (λ k. take k input) many ∙ same) numbers_are ∙ four_tell block (drop block_bytes input)

-- ---- what the call gives

module _ (input block numbers : List ℕ) (tell : flip_printed block numbers ≡ flip_printout input) where
  abbrev out : List ℕ
  out = replicate block_bytes 0

  -- a refusal
  pub refusal : {refusal : Refusal} → Err refusal ≡ answer_of (flip_answer block out numbers) → {k : ℕ} → k ≡ refusal.number → {text : Text}
      → Whole (answer_line k) text → Whole (flip_printout input) text
  refusal {refusal} gives told =
      let other = given_refused (flip_answer block out numbers) tt refusal (sym gives) in
      let number = told ∙ ap number_of gives ∙ number_of_lem (flip_answer block out numbers) tt in
      whole_as (sym tell ∙ (printed_refusal block numbers other ∙ ap answer_line (sym number)))

  module _ (gives : Ok tt ≡ answer_of (flip_answer block out numbers)) (n : ℕ) (count : n ≡ length numbers) (output : List ℕ)
      (written : output ≡ flip_bytes block out numbers) where
    zero : flip_answer block out numbers ≡ 0
    zero = given_done (flip_answer block out numbers) tt tt (sym gives)

    -- what a report asks for
    pub asks : (n ≤ 3) × Written block output n
    asks = rw (count, written) (report_asks block numbers zero)

    -- a report
    pub reported : {text : Text} → Whole (flip_lines block n output) text → Whole (flip_printout input) text
    reported = whole_as (sym tell ∙ (printed_done block numbers zero ∙ ap₂ (flip_lines block) (sym count) (sym written)))
