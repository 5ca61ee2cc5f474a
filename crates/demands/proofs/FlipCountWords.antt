-- 21 is given exactly where neither two numbers nor three are, and a block that is not right has its own number first.
use Prim.Native.Nat.{ℕ}
use mathlib.Core.List.{List, [], ◌∷◌}
use mathlib.Core.Logic.{◌↔◌}
use mathlib.Core.Path.{◌≡◌, sym, ap, ◌∙◌, subst}
use lib.Dec.{T}
use lib.ListN.{length}
use Rattle.lists.specs.Lists.{any, has}
use Rattle.layout.specs.Layout.{block_bytes, fields_of}
use Rattle.block.specs.Holding.{RightBlock}
use Rattle.block.specs.Opening.{open_answer}
use Rattle.answers.specs.Answers.{first_refusal}
use Rattle.answers.proofs.Refusals.{number_of_lem}
use Rattle.block.proofs.RightBlocks.{right_block, opens}
use Rattle.calls.specs.Flipping.{flip_tests, flip_answer}
use Rattle.calls.proofs.CallTests.{out_opened, front_refuses, each_count, flip_left, miscounted}
use Rattle.accepted.specs.CallNumbers.{flip_numbers}
use Rattle.accepted.proofs.CallsNumbered.{open_number, flip_listed}
use Rattle.demands.specs.Kernels.{ours}
use Rattle.demands.specs.FlipWords.{Tells21}
use Rattle.demands.proofs.FrontTests.{returned}

module _ (block out numbers : List ℕ) (size : length out ≡ block_bytes) where
  -- a refusal of opening is the flip's
  block_first : (RightBlock block → ⊥) → flip_answer block out numbers ≡ open_answer block
  unfolding flip_answer
  block_first wrong =
      let opening = out_opened block out size in
      front_refuses _ (flip_tests (fields_of block) numbers) (λ h. wrong (right_block block (sym opening ∙ h))) ∙ opening

  -- 21 is not given with these
  abbrev Never21 : List ℕ → Type 0
  Never21 ns = flip_answer block out ns ≡ 21 → ⊥

  tells_21 : RightBlock block → (flip_answer block out numbers ≡ 21) ↔ ((length numbers ≡ 2 → ⊥) × (length numbers ≡ 3 → ⊥))
  unfolding first_refusal any
  tells_21 right = (
    each_count (λ ns. flip_answer block out ns ≡ 21 → (length ns ≡ 2 → ⊥) × (length ns ≡ 3 → ⊥))
        (λ e f h. absurd (two e f h)) (λ x y z h. absurd (three x y z h)) (λ ns no-two no-three h. (no-two, no-three)) numbers,
    λ (no-two, no-three).
        flip_left block out numbers (opens block right) size ∙ ap first_refusal (miscounted (fields_of block) numbers no-two no-three),
  )
    where
      two : (e f : ℕ) → Never21 (e ∷ f ∷ [])
      two e f h = subst (λ n. T (has (flip_numbers (e ∷ f ∷ [])) n)) h (flip_listed block out (e ∷ f ∷ []))

      three : (x y z : ℕ) → Never21 (x ∷ y ∷ z ∷ [])
      three x y z h = subst (λ n. T (has (flip_numbers (x ∷ y ∷ z ∷ [])) n)) h (flip_listed block out (x ∷ y ∷ z ∷ []))

pub tells_count : Tells21 ours
unfolding ours
tells_count = record {
  block_first = λ block out numbers wrong size. number_of_lem _ tt ∙ block_first block out numbers size wrong ∙ sym (open_number block);
  twenty_one = λ block out numbers right size. returned (tells_21 block out numbers size right);
}
