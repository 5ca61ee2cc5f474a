-- The program's printout: a refusal or a wrong length is the line `answer N` alone, and `before` and `after` are the
-- summaries of the block that was given and of the block that was written.
use Prim.Native.Nat.{ℕ, suc, ◌+◌}
use mathlib.Core.List.{List, ◌++◌, flat_map, append-nil}
use mathlib.Core.Path.{◌≡◌, refl}
use borrow.Author.Tests.{eq-eqb, ne_eqb}
use Rattle.std.specs.Prelude.{Ok}
use lib.ListN.{length, take, replicate}
use Rattle.layout.specs.Layout.{block_bytes, byte, fields_of}
use Rattle.ring.specs.Ring.{Site, site_of}
use Rattle.summary.specs.declared.Summary.{Summary}
use Rattle.summary.specs.Summary.{summary_of}
use Rattle.calls.specs.Summarising.{summary_gives}
use Rattle.calls.specs.Removing.{rows_made, remove_answer, remove_bytes}
use Rattle.lines.specs.Lines.{line, summary_fields, answer_line, ring_line, row_line}
use Rattle.printout.specs.Printout.{report, printout}
use Rattle.calls.proofs.CallTests.{removes}
use Rattle.accepted.proofs.AfterRemoval.{summary_opened, opens_after}

module _ (input : List ℕ) where
  -- the block, the two ends and the output block of the program
  abbrev block : List ℕ
  block = take block_bytes input

  abbrev e : ℕ
  e = byte input block_bytes

  abbrev f : ℕ
  f = byte input (suc block_bytes)

  abbrev out : List ℕ
  out = replicate block_bytes 0

  -- a wrong input length prints `answer 1`
  pub printed_length : (length input ≡ block_bytes + 2 → ⊥) → printout input ≡ answer_line 1
  unfolding printout
  printed_length h = rw (ne_eqb (length input) (block_bytes + 2) h) (append-nil (answer_line 1))

  module _ (size : length input ≡ block_bytes + 2) where
    -- a refusal prints the line `answer N` alone
    pub printed_refusal : (remove_answer block out e f ≡ 0 → ⊥) → printout input ≡ answer_line (remove_answer block out e f)
    unfolding printout
    printed_refusal h =
        rw (eq-eqb (length input) (block_bytes + 2) size, ne_eqb (remove_answer block out e f) 0 h)
        (append-nil (answer_line (remove_answer block out e f)))

    -- otherwise the line `answer 0` comes first, then the report
    pub printed_done : remove_answer block out e f ≡ 0
        → printout input ≡ answer_line 0 ++ report block (remove_bytes block out e f) (site_of (fields_of block) e f)
    unfolding printout
    printed_done h = rw (eq-eqb (length input) (block_bytes + 2) size, h)

-- What a report says: both summaries, the ring, and the new rows in written order.
pub record Reported (block output : List ℕ) (site : Site) : Type 0 where
  pub before : Summary
  pub after : Summary
  pub before_is : summary_gives block ≡ Ok before
  pub after_is : summary_gives output ≡ Ok after
  pub lines : report block output site
      ≡ line "before" (summary_fields before) ++ line "after" (summary_fields after) ++ ring_line site.ring
      ++ flat_map row_line (rows_made site)

-- the printed `after` is the summary of the written block
pub reported : (block out : List ℕ) (e f : ℕ) → remove_answer block out e f ≡ 0
    → Reported block (remove_bytes block out e f) (site_of (fields_of block) e f)
unfolding report
reported block out e f done = record {
  before = summary_of (fields_of block);
  after = summary_of (fields_of (remove_bytes block out e f));
  before_is = summary_opened block (removes block out e f done).sound.opens;
  after_is = summary_opened (remove_bytes block out e f) (opens_after block out e f done);
  lines = refl;
}
