-- What is printed of a flip: a refusal is the line `answer N` alone; of a flip that is done the new rows, as many as numbers, are the last
-- ones of the written block.
use Prim.Native.Nat.{ℕ, ◌≤◌}
use mathlib.Core.List.{List, append_assoc, append-nil}
use mathlib.Core.Path.{◌≡◌, refl}
use native.Mathlib.Omega.{arith}
use borrow.Author.Tests.{ne_eqb}
use lib.ListN.{length, replicate, length-map}
use Rattle.marking.specs.Marking.{dress_by, new_mark}
use Rattle.layout.specs.Layout.{block_bytes, fields_of}
use Rattle.block.specs.Opening.{open_answer}
use Rattle.calls.specs.Flipping.{three_rows, rows_flipped, flip_answer, flip_bytes}
use Rattle.calls.proofs.CallTests.{each_count, never_done, flips_32, flips_23}
use Rattle.accepted.proofs.AcceptedCalls.{flip_accepted}
use Rattle.lines.specs.Lines.{answer_line}
use Rattle.report.specs.Steps.{flip_lines, Written}
use Rattle.report.proofs.NewRows.{new_last, both_open, ring_rows}
use Rattle.flip_printout.specs.FlipPrintout.{flip_printed}
use Rattle.ring.specs.Ring.{site_of}
use Rattle.triangulation.specs.Triangulation.{new_rows}
use Rattle.triangulation.specs.Best.{chosen}

-- What a flip that is done says: the block opens, and there are two numbers and two new rows, or three.
pub record Flips (block numbers : List ℕ) : Type 0 where
  pub opens : open_answer block ≡ 0
  pub new : length (rows_flipped (fields_of block) numbers) ≡ length numbers
  pub few : length numbers ≤ 3

pub flips : (block out numbers : List ℕ) → flip_answer block out numbers ≡ 0 → Flips block numbers
unfolding rows_flipped three_rows
flips block out =
    each_count
    (λ numbers. flip_answer block out numbers ≡ 0 → Flips block numbers)
    (λ e f h.
    let r = flips_32 block out e f h in
    let site = site_of (fields_of block) e f in
    let made = length-map (new_rows site 1 (chosen site)) (dress_by (new_mark site.removed site.kept)) in
    let two = ring_rows block e f r.sound (omega (arith, r.three)) r.way in
    record { opens = r.sound.opens; new = omega (arith, two, r.three); few = omega arith })
    (λ x y z h. record { opens = (flips_23 block out x y z h).opens; new = refl; few = omega arith })
    (λ numbers two three h. absurd (never_done block out numbers two three h))

module _ (block numbers : List ℕ) where
  abbrev out : List ℕ
  out = replicate block_bytes 0

  pub printed_refusal : (flip_answer block out numbers ≡ 0 → ⊥) → flip_printed block numbers ≡ answer_line (flip_answer block out numbers)
  unfolding flip_printed
  printed_refusal h = rw (ne_eqb (flip_answer block out numbers) 0 h) (append-nil (answer_line (flip_answer block out numbers)))

  module _ (done : flip_answer block out numbers ≡ 0) where
    -- what a report asks for
    pub report_asks : (length numbers ≤ 3) × Written block (flip_bytes block out numbers) (length numbers)
    report_asks =
        let f = flips block out numbers done in
        (f.few, rw (← f.new) (both_open block (flip_bytes block out numbers) _ _ (flip_accepted block out numbers done) f.opens))

    -- the report is what is printed
    pub printed_done : flip_printed block numbers ≡ flip_lines block (length numbers) (flip_bytes block out numbers)
    unfolding flip_printed
    printed_done =
        let f = flips block out numbers done in
        rw (done, ← f.new, new_last block (flip_bytes block out numbers) _ _ (flip_accepted block out numbers done)) (simp append_assoc)
