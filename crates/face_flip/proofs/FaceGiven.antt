-- The numbers of a face in a block that opens: answer 9, or right numbers.
use Prim.Native.Nat.{ℕ, ◌<◌}
use mathlib.Core.Bool.{Bool, true, false, ◌&&◌}
use mathlib.Core.List.{List, [], ◌∷◌, Memᴰ}
use mathlib.Core.Path.{◌≡◌, sym, ◌∙◌}
use borrow.Author.Tests.{not-false}
use lib.Dec.{ltb, ltb→lt}
use lib.ListN.{length}
use Rattle.lists.specs.Lists.{every, different}
use Rattle.lists.proofs.Tests.{and_l, is_yes}
use Rattle.lists.proofs.Lists.{every_at}
use Rattle.std.specs.Prelude.{Err}
use Rattle.layout.specs.Layout.{block_bytes, point_count, fields_of}
use Rattle.answers.specs.Answers.{first_refusal}
use Rattle.block.specs.Opening.{open_answer}
use Rattle.layout.proofs.PatchWritten.{points_counted}
use Rattle.ring.specs.Ring.{numbers_wrong}
use Rattle.calls.specs.Flipping.{flip23_tests}
use Rattle.calls.proofs.CallTests.{flip23_left}
use Rattle.calls.proofs.FlipTold.{Told, flip_refused}
use Rattle.face_flip.specs.Steps.{RightFace}

module _ (block out : List ℕ) (x y z : ℕ) (opens : open_answer block ≡ 0) (output : length out ≡ block_bytes) (wrong : Bool)
    (wrong-is : wrong ≡ numbers_wrong (point_count block) (x ∷ y ∷ z ∷ [])) where
  wrong_counted : numbers_wrong (length (fields_of block).points) (x ∷ y ∷ z ∷ []) ≡ wrong
  wrong_counted = rw points_counted (sym wrong-is)

  -- 9: a number of the face is wrong
  pub is_9 : wrong ≡ true → Told block out (x ∷ y ∷ z ∷ []) (Err (record { number = 9 })) out
  unfolding flip23_tests first_refusal
  is_9 a = flip_refused block out (x ∷ y ∷ z ∷ []) 8 (flip23_left block out x y z opens output ∙ rw (wrong_counted ∙ a))

  module _ (right : wrong ≡ false) where
    pub face_given : RightFace block out x y z
    face_given = record { opens = opens; output = output; numbers = wrong_counted ∙ right }

    -- its numbers are point numbers, and so bytes
    pub numbers_below : (n : ℕ) → Memᴰ n (x ∷ y ∷ z ∷ []) → n < point_count block
    unfolding numbers_wrong
    numbers_below n m =
        let face : List ℕ = x ∷ y ∷ z ∷ [] in
        let low = every (λ n. ltb n (point_count block)) face in
        let both = is_yes (low && different face) (not-false (low && different face) (sym wrong-is ∙ right)) in
        ltb→lt n (point_count block) (every_at (λ n. ltb n (point_count block)) face (and_l low (different face) both) m)
