-- Requirement §2 as statements: what a patch must be to stand in a block, what a block holds that opens, and the layout as a bijection.
use Rattle.std.specs.Prelude.{ℕ, List, ◌≡◌, T, length, take, drop}
use Rattle.lists.specs.Lists.{every}
use Rattle.marking.specs.Marking.{agree}
use Rattle.layout.specs.Layout.{Patch, block_bytes, body_bytes}
use Rattle.layout.specs.Layout.{sum_bytes}
use Rattle.layout.specs.Within.{is_byte, Within}
use Rattle.body.specs.Body.{keeps_rule}
use Rattle.body.specs.Body.{RightBody}
use Rattle.block.specs.Opening.{open_answer}

-- A patch that a block of a version may hold: within the limits, it keeps the mesh rule, and both rows at a face agree on its mark.
pub record Holdable (version : ℕ) (patch : Patch) : Type 0 where
  pub within : Within version patch
  pub rule : T (keeps_rule patch)
  pub agrees : T (agree patch.rows)

-- A version, and a patch.
abbrev pub Versioned : Type 0
Versioned = ℕ × Patch

-- A block that opens: bytes, and answer 0.
pub record Opening (block : List ℕ) : Type 0 where
  pub bytes : T (every is_byte block)
  pub answer : open_answer block ≡ 0

-- What answers 1 to 8 and 22 test, met by a block: 512 bytes, both sums and the body are right.
pub record RightBlock (block : List ℕ) : Type 0 where
  pub size : length block ≡ block_bytes
  pub sums : drop body_bytes block ≡ sum_bytes (take body_bytes block)
  pub body : RightBody block

-- Two functions that carry one kind of thing to the other and back, and are inverse there.
pub record Bijection {A B : Type 0} (P : A → Type 0) (Q : B → Type 0) (there : A → B) (back : B → A) : Type 0 where
  pub lands : (a : A) → P a → Q (there a)
  pub returns : (b : B) → Q b → P (back b)
  pub there_back : (a : A) → P a → back (there a) ≡ a
  pub back_there : (b : B) → Q b → there (back b) ≡ b
