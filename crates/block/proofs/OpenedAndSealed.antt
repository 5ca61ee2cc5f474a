-- What opening and sealing answer and give: the numbers on their lists, and what stands beside answer 0 and beside a refusal.
use Prim.Native.Nat.{ℕ}
use mathlib.Core.List.{List, [], ◌∷◌}
use mathlib.Core.Path.{◌≡◌}
use borrow.Author.Tests.{ne_eqb}
use lib.Dec.{T}
use Rattle.lists.specs.Lists.{has}
use Rattle.std.specs.Prelude.{Ok}
use Rattle.answers.proofs.Refusals.{on_list}
use Rattle.layout.specs.Layout.{sealed, open_fields}
use Rattle.body.specs.Body.{body_tests}
use Rattle.block.specs.Opening.{open_answer, open_gives, seal_answer, seal_bytes}

-- opening answers 0 to 5, 7, 8 and 22
pub open_list : (block : List ℕ) → T (has (0 ∷ 1 ∷ 2 ∷ 3 ∷ 4 ∷ 5 ∷ 7 ∷ 8 ∷ 22 ∷ []) (open_answer block))
unfolding open_answer body_tests
open_list block = on_list _

-- sealing answers 0, 1, 3 to 5, 7, 8 and 22
pub seal_list : (body out : List ℕ) → T (has (0 ∷ 1 ∷ 3 ∷ 4 ∷ 5 ∷ 7 ∷ 8 ∷ 22 ∷ []) (seal_answer body out))
unfolding seal_answer body_tests
seal_list body out = on_list _

-- with answer 0 opening gives the fields of the block
pub open_fields_lem : (block : List ℕ) → open_answer block ≡ 0 → open_gives block ≡ Ok (open_fields block)
unfolding open_gives
open_fields_lem block e = rw e

-- answer 0 of sealing writes the body with its sums
pub seal_writes : (body out : List ℕ) → seal_answer body out ≡ 0 → seal_bytes body out ≡ sealed body
unfolding seal_bytes
seal_writes body out e = rw e

-- a refusal to seal leaves every output byte as it came
pub seal_keeps : (body out : List ℕ) → (seal_answer body out ≡ 0 → ⊥) → seal_bytes body out ≡ out
unfolding seal_bytes
seal_keeps body out h = rw (ne_eqb (seal_answer body out) 0 h)
