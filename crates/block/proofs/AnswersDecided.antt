-- The answers of opening and sealing: what decides 1 and 2, and that the rest is the answer to the body.
use Prim.Native.Nat.{ℕ}
use mathlib.Core.Bool.{true, false}
use mathlib.Core.List.{List}
use mathlib.Core.Path.{◌≡◌}
use borrow.Author.Tests.{eq-eqb, ne_eqb}
use lib.ListN.{length}
use Rattle.answers.specs.Answers.{first_refusal}
use Rattle.layout.specs.Layout.{block_bytes, body_bytes, sum_wrong}
use Rattle.body.specs.Body.{body_tests}
use Rattle.block.specs.Opening.{open_answer, seal_answer}

-- ---- opening

module _ (block : List ℕ) where
  pub open_1 : (length block ≡ block_bytes → ⊥) → open_answer block ≡ 1
  unfolding open_answer first_refusal
  open_1 a = rw (ne_eqb (length block) block_bytes a)

  module _ (a1 : length block ≡ block_bytes) where
    pub open_2 : sum_wrong block ≡ true → open_answer block ≡ 2
    unfolding open_answer first_refusal
    open_2 a = rw (eq-eqb (length block) block_bytes a1, a)

    pub open_body : sum_wrong block ≡ false → open_answer block ≡ first_refusal (body_tests block)
    unfolding open_answer first_refusal
    open_body a2 = rw (eq-eqb (length block) block_bytes a1, a2)

-- ---- sealing

module _ (body out : List ℕ) where
  pub seal_1_body : (length body ≡ body_bytes → ⊥) → seal_answer body out ≡ 1
  unfolding seal_answer first_refusal
  seal_1_body a = rw (ne_eqb (length body) body_bytes a)

  module _ (a1 : length body ≡ body_bytes) where
    pub seal_1_out : (length out ≡ block_bytes → ⊥) → seal_answer body out ≡ 1
    unfolding seal_answer first_refusal
    seal_1_out a = rw (eq-eqb (length body) body_bytes a1, ne_eqb (length out) block_bytes a)

    pub seal_body : length out ≡ block_bytes → seal_answer body out ≡ first_refusal (body_tests body)
    unfolding seal_answer first_refusal
    seal_body b1 = rw (eq-eqb (length body) body_bytes a1, eq-eqb (length out) block_bytes b1)
