-- Requirement §9: opening and sealing, answers 1 to 8 and 22 (those from 3 on are the body's).
use Rattle.std.specs.Prelude.{ℕ, Bool, not, ◌||◌, List, ◌∷◌, eqb, length, Result}
use Rattle.answers.specs.Answers.{first_refusal, gives, written}
use Rattle.answers.specs.declared.Refusal.{Refusal}
use Rattle.layout.specs.declared.Fields.{Fields}
use Rattle.layout.specs.Layout.{block_bytes, body_bytes}
use Rattle.layout.specs.Layout.{sealed, sum_wrong, open_fields}
use Rattle.body.specs.Body.{body_tests}

-- 1: a block, or the output block, is not 512 bytes
abbrev pub not_block : List ℕ → Bool
not_block block = not (eqb (length block) block_bytes)

-- 1, sealing: the input is not 508 bytes
abbrev pub not_body : List ℕ → Bool
not_body body = not (eqb (length body) body_bytes)

-- ---- opening a block

-- the answer of opening
unfoldable pub open_answer : List ℕ → ℕ
open_answer block = first_refusal ((1, not_block block) ∷ (2, sum_wrong block) ∷ body_tests block)

-- what opening gives: the fields beside answer 0
unfoldable pub open_gives : List ℕ → Result Fields Refusal
open_gives block = gives (open_answer block) (open_fields block)

-- ---- sealing

-- sealing takes the first 508 bytes and writes the block, or refuses with 1, 3 to 8 or 22
unfoldable pub seal_answer : List ℕ → List ℕ → ℕ
seal_answer body out = first_refusal ((1, not_body body || not_block out) ∷ body_tests body)

-- each byte of the output block after sealing
unfoldable pub seal_bytes : List ℕ → List ℕ → List ℕ
seal_bytes body out = written (seal_answer body out) (sealed body) out
