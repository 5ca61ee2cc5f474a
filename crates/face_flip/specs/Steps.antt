-- What only contracts of inner functions and proofs say: what the flip of a face is given.
use Rattle.std.specs.Prelude.{ℕ, false, List, [], ◌∷◌, ◌≡◌, length}
use Rattle.layout.specs.Layout.{block_bytes, fields_of}
use Rattle.block.specs.Opening.{open_answer}
use Rattle.ring.specs.Ring.{numbers_wrong}

-- A face of a block: answers 1 to 9 are not given.
pub record RightFace (block out : List ℕ) (x y z : ℕ) : Type 0 where
  pub opens : open_answer block ≡ 0
  pub output : length out ≡ block_bytes
  pub numbers : numbers_wrong (length (fields_of block).points) (x ∷ y ∷ z ∷ []) ≡ false
