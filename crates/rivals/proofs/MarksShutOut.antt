-- Demand 2 shuts out both kernels that lose a load surface, by block A of version 2 with its upper faces marked: one leaves them unmarked,
-- the other leaves a block of version 1.
use Prim.Native.Nat.{ℕ}
use mathlib.Core.Bool.{true, false, true≢false}
use mathlib.Core.List.{List}
use mathlib.Core.Path.{◌≡◌, refl, sym, ◌∙◌}
use native.Mathlib.Omega.{arith}
use Rattle.rows.specs.Rows.{version}
use Rattle.marking.specs.Marking.{marked_in}
use Rattle.layout.specs.Layout.{fields_of, bytes_of}
use Rattle.calls.specs.Removing.{remove_answer}
use Rattle.demands.specs.Demands.{Demand2}
use Rattle.facts.specs.AllDefinitions.{definitions}
use Rattle.facts.specs.Facts.{blank, block_a_with, block_a}
use Rattle.facts.specs.Marked.{capped_a}
use Rattle.rivals.specs.MarksLost.{dropping_marks, writing_version1}
use Rattle.rivals.proofs.ShutOut.{done_too}

abbrev capped : List ℕ
capped = bytes_of 2 capped_a

done_capped : remove_answer capped blank 0 1 ≡ 0
unfolding block_a_with block_a capped_a definitions
done_capped = refl

-- ---- one that drops the marks of the shell

-- the face 0, 3, 2 is one of the upper faces
marked_before : marked_in (fields_of capped).rows (0, 3, 2) ≡ true
unfolding block_a_with block_a capped_a definitions
marked_before = refl

unmarked_after : marked_in (fields_of (dropping_marks.remove capped blank 0 1).1).rows (0, 3, 2) ≡ false
unfolding block_a_with block_a capped_a definitions
unmarked_after = refl

pub marks_dropped : Demand2 dropping_marks → ⊥
marks_dropped meets =
    let marked = (meets.remove capped blank 0 1 (done_too capped done_capped)).accepted.marked (0, 3, 2) in
    true≢false (sym marked_before ∙ sym marked ∙ unmarked_after)

-- ---- one that writes version 1

version_before : version capped ≡ 2
unfolding definitions
version_before = refl

version_after : version (writing_version1.remove capped blank 0 1).1 ≡ 1
unfolding block_a_with block_a capped_a definitions
version_after = refl

pub version_lost : Demand2 writing_version1 → ⊥
version_lost meets =
    let same = (meets.remove capped blank 0 1 (done_too capped done_capped)).accepted.version in
    let never : ◌≡◌ {A = ℕ} 1 2 = sym version_after ∙ same ∙ version_before in
    omega arith
