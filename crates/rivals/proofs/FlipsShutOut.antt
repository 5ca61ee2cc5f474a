-- Demand 1 shuts out each wrong flip, by one input where its number is not the table's.
use Prim.Native.Nat.{ℕ}
use mathlib.Core.List.{List, [], ◌∷◌}
use mathlib.Core.Path.{◌≡◌, refl, sym, ◌∙◌}
use native.Mathlib.Omega.{arith}
use Rattle.layout.specs.Layout.{bytes_of}
use Rattle.calls.specs.Flipping.{flip_answer}
use Rattle.demands.specs.Kernels.{Kernel, ours, flips}
use Rattle.demands.specs.Demands.{Demand1}
use Rattle.facts.specs.AllDefinitions.{definitions}
use Rattle.facts.specs.Facts.{blank, block_a_with, block_a}
use Rattle.rivals.specs.WrongFlips.{counting_first, numbering_first, taking_four, facing_two}

-- one input with another number is enough
pub shut : (k : Kernel) (block numbers : List ℕ) (n its : ℕ) → flip_answer block blank numbers ≡ n → flips k block blank numbers ≡ its
    → (its ≡ n → ⊥) → Demand1 k → ⊥
shut k block numbers n its table told other meets = other (sym told ∙ meets.numbers.flip_number block blank numbers ∙ table)

-- no byte and no number: 1
pub counted_first : Demand1 counting_first → ⊥
unfolding ours definitions
counted_first = shut counting_first [] [] 1 21 refl refl (λ e. omega arith)

-- block A and one number that is no point: 21
pub numbered_first : Demand1 numbering_first → ⊥
unfolding ours block_a_with block_a definitions
numbered_first = shut numbering_first (bytes_of 1 block_a) (99 ∷ []) 21 9 refl refl (λ e. omega arith)

-- block A and four of its points: 21, and 10 of the first three
pub took_four : Demand1 taking_four → ⊥
unfolding ours block_a_with block_a definitions
took_four = shut taking_four (bytes_of 1 block_a) (2 ∷ 3 ∷ 4 ∷ 0 ∷ []) 21 10 refl refl (λ e. omega arith)

-- block A and the edge 0, 1, whose ring is of three: 0
pub faced_two : Demand1 facing_two → ⊥
unfolding ours block_a_with block_a definitions
faced_two = shut facing_two (bytes_of 1 block_a) (0 ∷ 1 ∷ []) 0 9 refl refl (λ e. omega arith)
