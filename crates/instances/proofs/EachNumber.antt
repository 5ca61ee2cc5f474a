-- Each number on a call's list comes: the tables are computed, and each number of a list stands in its table.
use Prim.Native.Nat.{ℕ}
use mathlib.Core.Bool.{Bool, ◌&&◌}
use mathlib.Core.List.Memᴰ
use mathlib.Core.List.{List, [], ◌∷◌, ◌++◌, map}
use mathlib.Core.Path.{◌≡◌, refl, sym, ap, ◌∙◌}
use native.Mathlib.Omega.{arith}
use lib.Dec.{T, eqb, eqb→eq}
use lib.ListN.{length}
use Rattle.lists.specs.Lists.{every, any, has}
use Rattle.lists.proofs.Tests.{and_l, and_r}
use Rattle.lists.proofs.Lists.{every_at}
use Rattle.lists.proofs.Numbers.{has_e}
use Rattle.layout.specs.Layout.{fields_of}
use Rattle.layout.specs.Within.{is_byte}
use Rattle.answers.specs.Answers.{first_refusal, number_of}
use Rattle.block.specs.Opening.{open_answer, seal_answer}
use Rattle.display.specs.Display.{shown_answer}
use Rattle.calls.specs.Summarising.{summary_gives}
use Rattle.calls.specs.Removing.{block_tests, remove_answer}
use Rattle.calls.specs.Flipping.{flip_answer}
use Rattle.calls.proofs.CallTests.{miscounted}
use Rattle.accepted.specs.CallNumbers.{open_numbers, seal_numbers, remove_numbers, flip_numbers}
use Rattle.facts.specs.AllDefinitions.{definitions}
use Rattle.facts.specs.Facts.{blank, block_a_with, block_a, low_a, octahedron, open_a, blocked_a, six_a}
use Rattle.facts.specs.Joint.{joint_of, joint}
use Rattle.facts.specs.Marked.{load_points, glued_under, half_glued, load_of, load, capped_a, split_a}
use Rattle.plate.specs.Plate.{plate_points, plate_rows, plate_of}
use Rattle.full_blocks.specs.FullBlocks.{strip, six_ring}
use Rattle.instances.specs.EachNumber.{none_shown, NumbersCome}
use Rattle.instances.specs.Steps.{Cases, wrong_blocks, open_cases, seal_cases}
use Rattle.instances.specs.Steps.{Edge, two_rings, mixed_a, edge_cases, remove_cases, flip32_cases, Face, flip23_cases, other_cases}

-- ---- numbers in a table

module _ {X : Type 0} (bytes : X → List ℕ) (answer : X → ℕ) where
  -- the input consists of bytes and gets the number
  abbrev gets : ℕ × X → Bool
  gets case = every is_byte (bytes case.1) && eqb (answer case.1) case.0

  -- a number of the list has its case
  comes : (cases : Cases X) (numbers : List ℕ) → T (every gets cases) → T (every (has (map (λ case. case.0) cases)) numbers)
      → (n : ℕ) → T (has numbers n) → (x : X) × T (every is_byte (bytes x)) × (answer x ≡ n)
  comes cases numbers right all n h =
      let there = every_at (has (map (λ case. case.0) cases)) numbers all (has_e numbers n h) in
      let (case, m, e) = Memᴰ.of_map (λ (case : ℕ × X). case.0) cases (has_e (map (λ case. case.0) cases) n there) in
      let both = every_at gets cases right m in
      let small = every is_byte (bytes case.1) in
      let same = eqb (answer case.1) case.0 in
      (case.1, and_l small same both, eqb→eq (answer case.1) case.0 (and_r small same both) ∙ e)

-- ---- what is computed

-- each case gets its number, and the table has each number of the list

open_get : T (every (gets (λ block. block) open_answer) open_cases)
unfolding wrong_blocks open_cases block_a_with block_a load_points glued_under half_glued capped_a definitions
open_get = tt

open_all : T (every (has (map (λ case. case.0) open_cases)) open_numbers)
unfolding wrong_blocks open_cases every any
open_all = tt

abbrev summarised : List ℕ → ℕ
summarised block = number_of (summary_gives block)

summary_get : T (every (gets (λ block. block) summarised) open_cases)
unfolding wrong_blocks open_cases summary_gives block_a_with block_a load_points glued_under half_glued capped_a definitions
summary_get = tt

shown_get : T (every (gets (λ block. block) (λ block. shown_answer block none_shown)) open_cases)
unfolding wrong_blocks open_cases shown_answer block_a_with block_a load_points glued_under half_glued capped_a definitions
shown_get = tt

seal_get : T (every (gets (λ body. body) (λ body. seal_answer body blank)) seal_cases)
unfolding wrong_blocks seal_cases seal_answer block_a_with block_a load_points glued_under half_glued capped_a definitions
seal_get = tt

seal_all : T (every (has (map (λ case. case.0) seal_cases)) seal_numbers)
unfolding wrong_blocks seal_cases every any
seal_all = tt

-- a block with two ends

abbrev removed : Edge → ℕ
removed edge = remove_answer edge.0 blank edge.1 edge.2

remove_get : T (every (gets (λ (edge : Edge). edge.0) removed) (edge_cases ++ remove_cases))
unfolding
    wrong_blocks open_cases two_rings mixed_a edge_cases remove_cases block_a_with block_a low_a open_a blocked_a six_a plate_points plate_rows plate_of strip six_ring
    load_points glued_under half_glued capped_a split_a definitions
remove_get = tt

remove_all : T (every (has (map (λ case. case.0) (edge_cases ++ remove_cases))) remove_numbers)
unfolding wrong_blocks open_cases edge_cases remove_cases every any
remove_all = tt

abbrev flipped32 : Edge → ℕ
flipped32 edge = flip_answer edge.0 blank (edge.1 ∷ edge.2 ∷ [])

flip32_get : T (every (gets (λ (edge : Edge). edge.0) flipped32) (edge_cases ++ flip32_cases))
unfolding
    wrong_blocks open_cases two_rings mixed_a edge_cases flip32_cases block_a_with block_a octahedron open_a blocked_a six_a
    load_points glued_under half_glued capped_a split_a definitions
flip32_get = tt

flip32_all : T (every (has (map (λ case. case.0) (edge_cases ++ flip32_cases))) (flip_numbers (0 ∷ 0 ∷ [])))
unfolding wrong_blocks open_cases edge_cases flip32_cases every any
flip32_all = tt

-- a block with the three numbers of a face

abbrev flipped23 : Face → ℕ
flipped23 face = flip_answer face.0 blank (face.1 ∷ face.2 ∷ face.3 ∷ [])

flip23_get : T (every (gets (λ (face : Face). face.0) flipped23) flip23_cases)
unfolding wrong_blocks flip23_cases block_a_with block_a strip joint_of joint load_points glued_under half_glued load_of load definitions
flip23_get = tt

flip23_all : T (every (has (map (λ case. case.0) flip23_cases)) (flip_numbers (0 ∷ 0 ∷ 0 ∷ [])))
unfolding wrong_blocks flip23_cases every any
flip23_all = tt

-- a block with any other count

other_get : T (every (gets (λ block. block) (λ block. flip_answer block blank [])) other_cases)
unfolding wrong_blocks other_cases block_a_with block_a load_points glued_under half_glued definitions
other_get = tt

other_all : T (every (has (map (λ case. case.0) other_cases)) (flip_numbers []))
unfolding wrong_blocks other_cases every any
other_all = tt

-- a flip, by how many numbers it is given

-- A block and so many numbers that get it.
abbrev Flipped : List ℕ → ℕ → Type 0
Flipped numbers n = (block its : List ℕ) × (length its ≡ length numbers) × T (every is_byte block) × (flip_answer block blank its ≡ n)

-- the numbers themselves do not matter then
other_comes : (numbers : List ℕ) → (length numbers ≡ 2 → ⊥) → (length numbers ≡ 3 → ⊥) → (n : ℕ) → T (has (flip_numbers []) n) → Flipped numbers n
unfolding flip_answer
other_comes numbers two three n h =
    let (block, bytes, e) = comes (λ block. block) (λ block. flip_answer block blank []) other_cases (flip_numbers []) other_get other_all n h in
    let none = miscounted (fields_of block) [] (λ q. omega arith) (λ q. omega arith) in
    let same = miscounted (fields_of block) numbers two three ∙ sym none in
    (block, numbers, refl, bytes, ap (λ tests. first_refusal (block_tests block blank ++ tests)) same ∙ e)

flip_comes : (numbers : List ℕ) (n : ℕ) → T (has (flip_numbers numbers) n) → Flipped numbers n
flip_comes [] n h = other_comes [] (λ q. omega arith) (λ q. omega arith) n h
flip_comes (x ∷ []) n h = other_comes (x ∷ []) (λ q. omega arith) (λ q. omega arith) n h
flip_comes (x ∷ y ∷ []) n h =
    let (edge, bytes, e) = comes (λ (edge : Edge). edge.0) flipped32 (edge_cases ++ flip32_cases) _ flip32_get flip32_all n h in
    (edge.0, edge.1 ∷ edge.2 ∷ [], refl, bytes, e)
flip_comes (x ∷ y ∷ z ∷ []) n h =
    let (face, bytes, e) = comes (λ (face : Face). face.0) flipped23 flip23_cases _ flip23_get flip23_all n h in
    (face.0, face.1 ∷ face.2 ∷ face.3 ∷ [], refl, bytes, e)
flip_comes (x ∷ y ∷ z ∷ w ∷ more) n h = other_comes (x ∷ y ∷ z ∷ w ∷ more) (λ q. omega arith) (λ q. omega arith) n h

-- ---- together

pub numbers_come : NumbersCome
numbers_come = record {
  opening = comes (λ block. block) open_answer open_cases open_numbers open_get open_all;
  summary = comes (λ block. block) summarised open_cases open_numbers summary_get open_all;
  shown = comes (λ block. block) (λ block. shown_answer block none_shown) open_cases open_numbers shown_get open_all;
  sealing = comes (λ body. body) (λ body. seal_answer body blank) seal_cases seal_numbers seal_get seal_all;
  removal = λ n h.
      let (edge, bytes, e) = comes (λ (edge : Edge). edge.0) removed (edge_cases ++ remove_cases) remove_numbers remove_get remove_all n h in
      (edge.0, edge.1, edge.2, bytes, e);
  flip = flip_comes;
}
