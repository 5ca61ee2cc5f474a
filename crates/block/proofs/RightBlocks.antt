-- Answers 1 to 8 as statements: a block opens exactly when its length, both sums and the body are right.
use Prim.Native.Nat.{ℕ}
use mathlib.Core.List.{List, [], ◌∷◌}
use mathlib.Core.Path.{◌≡◌}
use native.Mathlib.Omega.{arith}
use borrow.Author.Tests.{eqb-true, eq-eqb, not-false}
use lib.Dec.{eqb}
use lib.ListN.{length, take, drop}
use Rattle.lists.specs.Lists.{every, same}
use Rattle.lists.proofs.Tests.{yes_is, is_yes}
use Rattle.lists.proofs.Numbers.{same_e, same_i}
use Rattle.answers.specs.Answers.{Tests, first_refusal}
use Rattle.answers.proofs.ByNumber.{test_of, passes, both_passed}
use Rattle.layout.specs.Layout.{body_bytes, block_bytes}
use Rattle.layout.specs.Layout.{sum_bytes, sum_wrong}
use Rattle.body.specs.Body.{body_tests}
use Rattle.body.proofs.RightBodies.{right_body, body_passes}
use Rattle.block.specs.Opening.{not_block, open_answer}
use Rattle.block.specs.Holding.{RightBlock}

-- a block that opens is right
pub right_block : (block : List ℕ) → open_answer block ≡ 0 → RightBlock block
unfolding open_answer sum_wrong test_of every
right_block block e =
    let front : Tests = (1, not_block block) ∷ (2, sum_wrong block) ∷ [] in
    let (front_passed, rest-passed) = both_passed 0 front (body_tests block) tt e in
    let size : length block ≡ block_bytes = eqb-true _ _ (not-false _ (passes 1 front tt front_passed)) in
    record {
      size = size;
      sums = same_e _ _ (is_yes _ (not-false (same eqb (drop body_bytes block) (sum_bytes (take body_bytes block))) (passes 2 front tt front_passed)));
      body = right_body block (omega arith) rest-passed;
    }

-- a right block opens
pub opens : (block : List ℕ) → RightBlock block → open_answer block ≡ 0
unfolding open_answer sum_wrong first_refusal
opens block right =
    let a1 = eq-eqb _ _ right.size in
    let sums = sum_bytes (take body_bytes block) in
    let a2 = yes_is (same eqb sums sums) (same_i sums) in
    rw (a1, right.sums, a2) (body_passes block right.body)
