-- What decides answers 1 and 9 to 13 of an edge, one by one, given what the tests above found.
use Prim.Native.Nat.{ℕ, ◌≤◌, ◌<◌, min, max}
use mathlib.Core.Bool.{Bool, true, false}
use mathlib.Core.List.{List, [], ◌∷◌, ◌++◌}
use mathlib.Core.Path.{◌≡◌, refl, sym, ap, ◌∙◌}
use native.Mathlib.Omega.{arith}
use borrow.Author.Tests.{eq-eqb, ne_eqb, lt-ltb, le-ltb}
use lib.ListN.{length}
use Rattle.lists.specs.Lists.{every, any, different}
use Rattle.rows.specs.Rows.{rows_in}
use Rattle.std.specs.Prelude.{Result, Err}
use Rattle.answers.specs.declared.Refusal.{Refusal}
use Rattle.layout.specs.Layout.{block_bytes, point_count, row_count, fields_of}
use Rattle.answers.specs.Answers.{first_refusal}
use Rattle.block.specs.Opening.{open_answer}
use Rattle.answers.proofs.Refusals.{goes_on}
use Rattle.answers.proofs.ByNumber.{test_of, before, stops}
use Rattle.layout.proofs.PatchWritten.{points_counted}
use Rattle.tally.proofs.OpensMeasured.{block_size, few_rows, rule_kept}
use Rattle.ring.specs.declared.Found.{Found}
use Rattle.ring.specs.Ring.{Site, site_of, numbers_wrong, edge_tests, length_tests}
use Rattle.links.specs.Steps.{Table}
use Rattle.ring.specs.Steps.{found_of, edge_in}
use Rattle.ring.specs.Ring.{ring_tests}
use Rattle.ring.proofs.EdgeGoesRound.{found_rows}
use Rattle.ring.proofs.RingInAnyOrder.{site_ordered}
use Rattle.calls.specs.Removing.{block_tests}
use Rattle.edge.specs.Steps.{edge_answer, edge_found}

-- ---- both lengths, then opening

module _ (block out : List ℕ) where
  pub block_1 : (length block ≡ block_bytes → ⊥) → first_refusal (block_tests block out) ≡ 1
  unfolding block_tests first_refusal
  block_1 a = rw (ne_eqb (length block) block_bytes a)

  pub out_1 : length block ≡ block_bytes → (length out ≡ block_bytes → ⊥) → first_refusal (block_tests block out) ≡ 1
  unfolding block_tests first_refusal
  out_1 a b = rw (eq-eqb (length block) block_bytes a, ne_eqb (length out) block_bytes b)

-- ---- the numbers of the edge

module _ (count e f : ℕ) where
  first_over : count ≤ e → numbers_wrong count (e ∷ f ∷ []) ≡ true
  unfolding numbers_wrong every
  first_over h = rw (le-ltb e count h)

  second_over : e < count → count ≤ f → numbers_wrong count (e ∷ f ∷ []) ≡ true
  unfolding numbers_wrong every
  second_over h k = rw (lt-ltb e count h, le-ltb f count k)

  both_one : e < count → f < count → e ≡ f → numbers_wrong count (e ∷ f ∷ []) ≡ true
  unfolding numbers_wrong every different any
  both_one h k i = rw (lt-ltb e count h, lt-ltb f count k, eq-eqb e f i)

  numbers_fine : e < count → f < count → (e ≡ f → ⊥) → numbers_wrong count (e ∷ f ∷ []) ≡ false
  unfolding numbers_wrong every different any
  numbers_fine h k i = rw (lt-ltb e count h, lt-ltb f count k, ne_eqb e f i)

-- ---- what is found

module _ (chains : Bool) (block : List ℕ) (e f : ℕ) (opens : open_answer block ≡ 0) where
  abbrev site : Site
  site = site_of (fields_of block) e f

  -- 9
  wrong_numbers : numbers_wrong (point_count block) (e ∷ f ∷ []) ≡ true → Err (record { number = 9 }) ≡ edge_found chains block e f
  unfolding site_of edge_found edge_answer edge_tests first_refusal test_of before every
  wrong_numbers w =
      let wrong = ap (λ count. numbers_wrong count (e ∷ f ∷ [])) (points_counted block) ∙ w in
      let nine : edge_answer chains block e f ≡ 9 = stops 9 (edge_tests chains site e f ++ length_tests site) tt refl wrong in
      rw nine

  pub edge_9_first : point_count block ≤ e → Err (record { number = 9 }) ≡ edge_found chains block e f
  edge_9_first h = wrong_numbers (first_over (point_count block) e f h)

  pub edge_9_second : e < point_count block → point_count block ≤ f → Err (record { number = 9 }) ≡ edge_found chains block e f
  edge_9_second h k = wrong_numbers (second_over (point_count block) e f h k)

  pub edge_9_same : e < point_count block → f < point_count block → e ≡ f → Err (record { number = 9 }) ≡ edge_found chains block e f
  edge_9_same h k q = wrong_numbers (both_one (point_count block) e f h k q)

  -- 10 to 13, and the ring
  pub edge_table : (a b : ℕ) → a ≡ min e f → b ≡ max e f → (e ≡ f → ⊥) → Table block (row_count block) a b
  edge_table a b p q apart = record {
    room = omega (arith, block_size block opens, few_rows block opens);
    few = few_rows block opens;
    count = point_count block;
    rule = rule_kept block opens;
    order = omega arith;
  }

  -- with right numbers these are left
  ring_left : numbers_wrong (point_count block) (e ∷ f ∷ []) ≡ false → edge_answer chains block e f ≡ first_refusal (ring_tests chains site)
  unfolding site_of edge_answer edge_tests ring_tests
  ring_left fine = goes_on 9 _ _ (ap (λ count. numbers_wrong count (e ∷ f ∷ [])) (points_counted block) ∙ fine)

  pub edge_ring : (a b : ℕ) → a ≡ min e f → b ≡ max e f → e < point_count block → f < point_count block → (e ≡ f → ⊥) → (found : Result Found Refusal)
      → found ≡ found_of chains (edge_in (rows_in block (row_count block)) a b) → found ≡ edge_found chains block e f
  unfolding fields_of site_of edge_found found_of
  edge_ring a b p q h k apart found g =
      let left = ring_left (numbers_fine (point_count block) e f h k apart) in
      let ordered : edge_in (rows_in block (row_count block)) a b ≡ edge_in (rows_in block (row_count block)) e f =
      rw (p, q) (site_ordered (record { points = []; rows = rows_in block (row_count block) }) e f) in
      let own : found_of chains (site_of (fields_of block) e f) ≡ edge_found chains block e f = rw left in
      g ∙ (ap (found_of chains) ordered ∙ (sym (found_rows chains (fields_of block) e f) ∙ own))
