-- What a flip tells of its answer and of the output afterwards: a refusal, of the block or of how many numbers there are, leaves the output as
-- it came, and answer 0 writes the patch afterwards.
use Prim.Native.Nat.{ℕ, suc}
use mathlib.Core.List.{List}
use mathlib.Core.Path.{◌≡◌, sym, ap, ◌∙◌}
use native.Mathlib.Omega.{arith}
use borrow.Author.Tests.{ne_eqb}
use lib.ListN.{length}
use Rattle.std.specs.Prelude.{Result, Ok, Err}
use Rattle.answers.specs.declared.Refusal.{Refusal}
use Rattle.rows.specs.Rows.{version}
use Rattle.layout.specs.Layout.{block_bytes, fields_of, bytes_of}
use Rattle.answers.specs.Answers.{first_refusal, answer_of}
use Rattle.answers.proofs.Refusals.{given_refused}
use Rattle.block.specs.Opening.{open_answer}
use Rattle.calls.specs.Removing.{block_tests}
use Rattle.calls.specs.Flipping.{flip_tests, patch_flipped, flip_answer, flip_bytes}
use Rattle.calls.proofs.CallTests.{blocked, flip_left, miscounted}

module _ (block out numbers : List ℕ) where
  -- the answer, and the output afterwards
  abbrev pub Told : Result (Unit {0}) Refusal → List ℕ → Type 0
  Told answer after = (answer ≡ answer_of (flip_answer block out numbers)) × (after ≡ flip_bytes block out numbers)

  pub flip_refused : (n : ℕ) → flip_answer block out numbers ≡ suc n → Told (Err (record { number = suc n })) out
  unfolding flip_bytes
  flip_refused n e = (rw e, rw (e, ne_eqb (suc n) 0 (λ q. omega arith)))

  pub flip_done : (after : List ℕ) → flip_answer block out numbers ≡ 0 → after ≡ bytes_of (version block) (patch_flipped (fields_of block) numbers)
      → Told (Ok tt) after
  unfolding flip_bytes
  flip_done after e w = (rw e, rw e w)

  -- a refusal passed on
  pub flip_passed_on : (refusal : Refusal) → Err refusal ≡ answer_of (flip_answer block out numbers) → Told (Err refusal) out
  unfolding flip_bytes
  flip_passed_on refusal e = (e, rw (ne_eqb (flip_answer block out numbers) 0 (given_refused (flip_answer block out numbers) tt refusal (sym e))))

  -- 1 to 8, whatever numbers there are
  pub flip_blocked : (refusal : Refusal) → answer_of (first_refusal (block_tests block out)) ≡ Err refusal → Told (Err refusal) out
  unfolding flip_answer
  flip_blocked refusal e = flip_passed_on refusal (blocked block out e (flip_tests (fields_of block) numbers) tt)

  -- 21, in a block that opens
  pub flip_21 : open_answer block ≡ 0 → length out ≡ block_bytes → (length numbers ≡ 2 → ⊥) → (length numbers ≡ 3 → ⊥)
      → Told (Err (record { number = 21 })) out
  unfolding first_refusal
  flip_21 opens size two three =
      flip_refused 20 (flip_left block out numbers opens size ∙ ap first_refusal (miscounted (fields_of block) numbers two three))
