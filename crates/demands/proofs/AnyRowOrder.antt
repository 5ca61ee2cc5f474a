-- The order of the rows and their even arrangement change no answer of a removal or a flip, nor the ring, nor the new rows:
-- what is so of two tables of the same tetrahedra is so of two blocks that hold them.
use Prim.Native.Nat.{ℕ, zero, suc, min, max}
use mathlib.Core.Bool.{Bool, true, false, cond, not, ◌&&◌}
use mathlib.Core.List.{List, [], ◌∷◌, ◌++◌, append_assoc}
use mathlib.Core.Path.{◌≡◌, refl, sym, ap, ◌∙◌, subst}
use borrow.Author.Tests.{eqb-true, eqb-false, eq-eqb}
use lib.Dec.{eqb, ltb}
use lib.ListN.{length}
use lib.Seq.{take-append_seam, drop-append_seam}
use Rattle.std.specs.Prelude.{Ok}
use Rattle.lists.specs.Lists.{every, any, those, different}
use Rattle.rows.specs.declared.Row.{Row}
use Rattle.rows.specs.Rows.{holds_edge, holds_face}
use Rattle.rows.specs.Tetrahedra.{SameTetrahedra}
use Rattle.layout.specs.Layout.{fields_of}
use Rattle.answers.specs.Answers.{Tests, first_refusal, answer_of}
use Rattle.block.specs.Opening.{not_block}
use Rattle.answers.proofs.Refusals.{refuses, number_of_lem}
use Rattle.block.proofs.RightBlocks.{opens}
use Rattle.answers.proofs.ByNumber.{same_behind}
use Rattle.ring.specs.Ring.{site_of, numbers_wrong, rings_alone, or_chains, edge_tests, ring_with}
use Rattle.calls.specs.Removing.{block_tests, remove_answer, remove_bytes, remove_gives, Sound}
use Rattle.calls.specs.Flipping.{pair_of, flip_tests, flip_answer, flip_bytes}
use Rattle.calls.proofs.CallTests.{block_opened, taken, removes, each_count, miscounted, never_done, flips_32, flips_23}
use Rattle.calls.proofs.SoundEdges.{sound_site, ends_fit}
use Rattle.tables.proofs.SameTables.{SameTables}
use Rattle.tables.proofs.FacingRows.{face_apart}
use Rattle.tables.proofs.RemovalInAnyOrder as Removal
use Rattle.tables.proofs.FlipInAnyOrder as Flip
use Rattle.accepted.proofs.CallsNumbered.{gives_done, gives_refused, remove_number}
use Rattle.accepted.proofs.AcceptedCalls.{remove_accepted, flip32_accepted, flip23_accepted, ends_held}
use Rattle.demands.specs.Orders.{SameMesh, SameOutput, ring_given, AnyRowOrder}
use Rattle.demands.specs.Kernels.{ours}

-- the tables of two blocks with the same mesh
tables : {block other : List ℕ} → SameMesh block other → SameTables (fields_of block) (fields_of other)
tables same = record {
  points = same.points;
  rule = same.right.body.rule;
  other_rule = same.other_right.body.rule;
  tetrahedra = same.tetrahedra;
}

-- ---- the answers

-- 9: an end equal to the other
nine : (chains : Bool) (block : List ℕ) {e f : ℕ} (rest : Tests) → e ≡ f
    → first_refusal (edge_tests chains (site_of (fields_of block) e f) e f ++ rest) ≡ 9
unfolding edge_tests numbers_wrong every different any
nine chains block {e} {f} rest h = refuses 9 _ _ (rw (eq-eqb e f h) (wrong (ltb e _) (ltb f _)))
  where
    wrong : (a b : Bool) → not ((a && (b && true)) && false) ≡ true
    wrong true true = refl
    wrong true false = refl
    wrong false b = refl

module _ (block other out : List ℕ) (same : SameMesh block other) where
  -- behind both blocks, what is the same
  blocks_then : (rest its-rest : Tests) → first_refusal rest ≡ first_refusal its-rest
      → first_refusal (block_tests block out ++ rest) ≡ first_refusal (block_tests other out ++ its-rest)
  unfolding first_refusal
  blocks_then rest its-rest behind =
      block_opened block out rest (opens block same.right)
      ∙ ap (λ n. cond (not_block out) 1 n) behind
      ∙ sym (block_opened other out its-rest (opens other same.other_right))

  -- the tests of an edge, then others that are the same where the edge is sound
  edge_then : (chains : Bool) (e f : ℕ) (rest its-rest : Tests)
      → ((e ≡ f → ⊥) → Sound block e f → Sound other e f → first_refusal rest ≡ first_refusal its-rest)
      → first_refusal (edge_tests chains (site_of (fields_of block) e f) e f ++ rest)
      ≡ first_refusal (edge_tests chains (site_of (fields_of other) e f) e f ++ its-rest)
  edge_then chains e f rest its-rest behind = go (eqb e f) refl
    where
      edges : List ℕ → Tests
      edges block = edge_tests chains (site_of (fields_of block) e f) e f

      go : (b : Bool) → eqb e f ≡ b → first_refusal (edges block ++ rest) ≡ first_refusal (edges other ++ its-rest)
      go true h = nine chains block rest (eqb-true e f h) ∙ sym (nine chains other its-rest (eqb-true e f h))
      go false h =
          let apart = eqb-false e f h in
          let tests = Removal.edge_same (fields_of block) (fields_of other) e f (tables same) apart in
          same_behind (edges block) rest its-rest
          (λ passes.
          let one = (taken chains (site_of (fields_of block) e f) e f passes).0 in
          behind apart (record { opens = opens block same.right; one = one })
          (record { opens = opens other same.other_right; one = rw (← (tests or_chains)) one }))
          ∙ ap (λ front. first_refusal (front ++ its-rest)) (tests chains)

-- ---- the calls

-- two tables, each the rows that stay and the others behind them
same_output : {block other output its-output : List ℕ} (goes : Row → Bool) (new its-new : List Row)
    → (fields_of output).rows ≡ those (λ row. not (goes row)) (fields_of block).rows ++ new
    → (fields_of its-output).rows ≡ those (λ row. not (goes row)) (fields_of other).rows ++ its-new
    → SameTetrahedra (those (λ row. not (goes row)) (fields_of block).rows) (those (λ row. not (goes row)) (fields_of other).rows)
    → new ≡ its-new → SameOutput goes block other output its-output
same_output {block} {other} {output} {its-output} goes new its-new rows its-rows kept fresh =
    let stay = those (λ row. not (goes row)) (fields_of block).rows in
    let its-stay = those (λ row. not (goes row)) (fields_of other).rows in
    record {
      stayed = rw (rows, its-rows, take-append_seam stay new, take-append_seam its-stay its-new) kept;
      behind = rw (rows, its-rows, drop-append_seam stay new, drop-append_seam its-stay its-new) fresh;
    }

module _ (block other out : List ℕ) (e f : ℕ) (same : SameMesh block other) where
  remove_answer_same : remove_answer block out e f ≡ remove_answer other out e f
  unfolding remove_answer
  remove_answer_same =
      ap first_refusal (append_assoc (block_tests block out) _ _)
      ∙ blocks_then block other out same _ _
      (edge_then block other out same or_chains e f _ _
      (λ apart sound its-sound.
      Removal.removal_same (fields_of block) (fields_of other) e f (tables same) apart (sound_site block e f sound)
      (sound_site other e f its-sound)))
      ∙ sym (ap first_refusal (append_assoc (block_tests other out) _ _))

  -- what is left of a flip of the edge
  ends_left_same : first_refusal (flip_tests (fields_of block) (e ∷ f ∷ [])) ≡ first_refusal (flip_tests (fields_of other) (e ∷ f ∷ []))
  unfolding flip_tests
  ends_left_same =
      edge_then block other out same rings_alone e f _ _
      (λ apart sound its-sound.
      Removal.flip_same (fields_of block) (fields_of other) e f (tables same) apart (sound_site block e f sound)
      (sound_site other e f its-sound))

  -- a refusal is the same and returns no ring
  ring_given_same : ring_given (remove_gives block out e f) ≡ ring_given (remove_gives other out e f)
  ring_given_same = go (remove_answer block out e f) refl
    where
      go : (n : ℕ) → remove_answer block out e f ≡ n → ring_given (remove_gives block out e f) ≡ ring_given (remove_gives other out e f)
      go zero h =
          ap ring_given (gives_done block out e f h)
          ∙ ap (λ points. Ok (ring_with points)) (Removal.ring_same (fields_of block) (fields_of other) e f (tables same) (ends_fit block e f (removes block out e f h).sound).2)
          ∙ sym (ap ring_given (gives_done other out e f (sym remove_answer_same ∙ h)))
      go (suc n) h =
          ap ring_given (gives_refused block out e f n h) ∙ sym (ap ring_given (gives_refused other out e f n (sym remove_answer_same ∙ h)))

  remove_output_same : remove_answer block out e f ≡ 0
      → SameOutput (holds_edge (min e f) (max e f)) block other (remove_bytes block out e f) (remove_bytes other out e f)
  unfolding site_of
  remove_output_same done =
      same_output (holds_edge (min e f) (max e f)) _ _ (remove_accepted block out e f done).rows
      (remove_accepted other out e f (sym remove_answer_same ∙ done)).rows (Removal.kept_same (fields_of block) (fields_of other) e f (tables same))
      (Removal.rows_of (fields_of block) (fields_of other) e f (tables same) (ends_fit block e f (removes block out e f done).sound).2)

-- a flip, whatever its numbers
module _ (block other out : List ℕ) (same : SameMesh block other) where
  left_same : (numbers : List ℕ) → first_refusal (flip_tests (fields_of block) numbers) ≡ first_refusal (flip_tests (fields_of other) numbers)
  unfolding flip_tests
  left_same =
      each_count (λ numbers. first_refusal (flip_tests (fields_of block) numbers) ≡ first_refusal (flip_tests (fields_of other) numbers))
      (λ e f. ends_left_same block other out e f same)
      (λ x y z. Flip.tests_same (fields_of block) (fields_of other) x y z (tables same))
      (λ numbers two three.
      ap first_refusal (miscounted (fields_of block) numbers two three ∙ sym (miscounted (fields_of other) numbers two three)))

  flip_answer_same : (numbers : List ℕ) → flip_answer block out numbers ≡ flip_answer other out numbers
  unfolding flip_answer
  flip_answer_same numbers = blocks_then block other out same _ _ (left_same numbers)

  done_too : (numbers : List ℕ) → flip_answer block out numbers ≡ 0 → flip_answer other out numbers ≡ 0
  done_too numbers done = sym (flip_answer_same numbers) ∙ done

  ends_output_same : (e f : ℕ) → flip_answer block out (e ∷ f ∷ []) ≡ 0
      → SameOutput (holds_edge (min e f) (max e f)) block other (flip_bytes block out (e ∷ f ∷ [])) (flip_bytes other out (e ∷ f ∷ []))
  unfolding site_of
  ends_output_same e f done =
      same_output (holds_edge (min e f) (max e f)) _ _ (flip32_accepted block out e f done).rows
      (flip32_accepted other out e f (done_too (e ∷ f ∷ []) done)).rows (Removal.kept_same (fields_of block) (fields_of other) e f (tables same))
      (Removal.rows_of (fields_of block) (fields_of other) e f (tables same) (ends_fit block e f (flips_32 block out e f done).sound).2)

  face_output_same : (x y z : ℕ) → flip_answer block out (x ∷ y ∷ z ∷ []) ≡ 0
      → SameOutput (holds_face (x ∷ y ∷ z ∷ [])) block other (flip_bytes block out (x ∷ y ∷ z ∷ [])) (flip_bytes other out (x ∷ y ∷ z ∷ []))
  unfolding pair_of
  face_output_same x y z done =
      let face : List ℕ = x ∷ y ∷ z ∷ [] in
      let r = flips_23 block out x y z done in
      let apart = face_apart (length (fields_of block).points) face r.numbers in
      let (f, g) = Flip.both_face (fields_of block) (fields_of other) x y z (tables same) apart r.some_row r.no_single r.apart in
      same_output (holds_face face) _ _ (flip23_accepted block out x y z done).rows
      (flip23_accepted other out x y z (done_too face done)).rows (Flip.kept_same (fields_of block) (fields_of other) x y z (tables same))
      (Flip.three_same (fields_of block) (fields_of other) x y z (tables same) apart f g)

  flip_output_same : (numbers : List ℕ) → flip_answer block out numbers ≡ 0
      → SameOutput (holds_face numbers) block other (flip_bytes block out numbers) (flip_bytes other out numbers)
  flip_output_same =
      each_count (λ numbers. flip_answer block out numbers ≡ 0
      → SameOutput (holds_face numbers) block other (flip_bytes block out numbers) (flip_bytes other out numbers))
      (λ e f done.
      subst (λ goes. SameOutput goes block other (flip_bytes block out (e ∷ f ∷ [])) (flip_bytes other out (e ∷ f ∷ []))) (ends_held e f)
      (ends_output_same e f done))
      face_output_same
      (λ numbers two three done. absurd (never_done block out numbers two three done))

pub any_row_order : AnyRowOrder ours
unfolding ours
any_row_order = record {
  remove_answer_fact = λ block other out e f same.
      remove_number block out e f ∙ remove_answer_same block other out e f same ∙ sym (remove_number other out e f);
  ring = ring_given_same;
  remove_output = λ block other out e f same done.
      remove_output_same block other out e f same (sym (remove_number block out e f) ∙ done);
  flip_answer_fact = λ block other out numbers same. ap answer_of (flip_answer_same block other out same numbers);
  flip_output = λ block other out numbers same done. flip_output_same block other out same numbers (sym (number_of_lem _ tt) ∙ done);
}
