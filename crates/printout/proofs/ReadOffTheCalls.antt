-- What the program reads off its calls: the number of a refusal and, of a removal that is done, the ring and the new rows, which are
-- the last ones of the written block.
use Prim.Native.Nat.{ℕ, ◌≤◌}
use mathlib.Core.List.{List, ◌++◌, append_assoc}
use mathlib.Core.Path.{◌≡◌, sym, ap, ◌∙◌}
use native.Mathlib.Omega.{arith}
use lib.Dec.{T, lt→ltb}
use lib.ListN.{length, length-map}
use lib.Seq.{take-append_seam}
use Rattle.lists.specs.Lists.{every}
use Rattle.lists.proofs.Lists.{every_i}
use Rattle.std.specs.Prelude.{Ok, Err}
use Rattle.answers.specs.declared.Refusal.{Refusal}
use Rattle.answers.specs.Answers.{number_of}
use Rattle.answers.proofs.Refusals.{given_refused}
use Rattle.marking.specs.Marking.{dress_by, new_mark}
use Rattle.layout.specs.Layout.{fields_of}
use Rattle.layout.specs.Within.{is_byte}
use Rattle.layout.proofs.BlockParts.{filled_length}
use Rattle.layout.proofs.PatchWritten.{points_counted}
use Rattle.block.proofs.RightBlocks.{right_block}
use Rattle.ring.specs.Ring.{Site, site_of, m, min_ring, max_ring, ring_with}
use Rattle.triangulation.specs.Triangulation.{new_rows}
use Rattle.triangulation.specs.Best.{chosen}
use Rattle.calls.specs.declared.Removed.{Removed}
use Rattle.calls.specs.Removing.{remove_answer, remove_bytes, remove_gives, rows_made}
use Rattle.calls.proofs.CallTests.{removes}
use Rattle.calls.proofs.SoundEdges.{ring_point}
use Rattle.accepted.proofs.AcceptedCalls.{remove_accepted}
use Rattle.accepted.proofs.CallsNumbered.{remove_number}
use Rattle.tables.proofs.RingReplaced.{length_fits}
use Rattle.lines.specs.Lines.{answer_line}
use Rattle.report.specs.Steps.{rows_of, removal_lines, Written, Printable}
use Rattle.report.proofs.NewRows.{new_last, both_open, ring_rows}
use Rattle.printout.specs.Printout.{report}

-- ---- the answer

module _ (block out : List ℕ) (e f : ℕ) where
  -- of a refusal
  pub refused_answer : {refusal : Refusal} → Err refusal ≡ remove_gives block out e f → remove_answer block out e f ≡ 0 → ⊥
  unfolding remove_gives
  refused_answer {refusal} gives = given_refused (remove_answer block out e f) _ refusal (sym gives)

  -- its number
  pub number_is : {refusal : Refusal} → Err refusal ≡ remove_gives block out e f → refusal.number ≡ remove_answer block out e f
  number_is gives = ap number_of gives ∙ remove_number block out e f

  -- of a removal that is done
  pub done_answer : {removed : Removed} → Ok removed ≡ remove_gives block out e f → remove_answer block out e f ≡ 0
  done_answer gives = sym (remove_number block out e f) ∙ ap number_of (sym gives)

-- ---- a removal that is done

module _ (block out : List ℕ) (e f : ℕ) (done : remove_answer block out e f ≡ 0) where
  abbrev site : Site
  site = site_of (fields_of block) e f

  abbrev output : List ℕ
  output = remove_bytes block out e f

  fits : (min_ring ≤ m site) × (m site ≤ max_ring)
  fits = length_fits site (removes block out e f done).length_right

  new_count : length (rows_made site) ≡ rows_of (ring_with site.ring)
  new_count =
      let r = removes block out e f done in
      length-map (new_rows site 1 (chosen site)) (dress_by (new_mark site.removed site.kept)) ∙ ring_rows block e f r.sound fits.0 r.way

  -- a point of the ring is one of 64
  ring_bytes : T (every is_byte site.ring)
  ring_bytes =
      let sound = (removes block out e f done).sound in
      let few = (right_block block sound.opens).body.few_points in
      every_i is_byte site.ring λ x k. lt→ltb x 256 (omega (arith, (ring_point block e f sound k).below, points_counted block, few))

  -- what a report asks for
  pub printable : Printable (ring_with site.ring)
  printable = record {
    from_three = fits.0;
    to_ten = fits.1;
    points = filled_length max_ring site.ring fits.1;
    bytes = rw take-append_seam ring_bytes;
  }

  pub both_written : Written block output (rows_of (ring_with site.ring))
  both_written =
      rw (← new_count) (both_open block output _ _ (remove_accepted block out e f done) (removes block out e f done).sound.opens)

  -- what is printed of it
  pub done_lines : removal_lines block (ring_with site.ring) output ≡ answer_line 0 ++ report block output site
  unfolding report
  done_lines =
      rw (take-append_seam, ← new_count, new_last block output _ _ (remove_accepted block out e f done)) (simp append_assoc)
