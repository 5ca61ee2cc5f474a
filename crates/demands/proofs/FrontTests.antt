-- The tests that every call on an edge has in front, whatever the call takes and tests behind them: 9 and 10 are given exactly when their
-- words are true, and of an edge that some row holds 11 and what comes behind it are left.
use Prim.Native.Nat.{ℕ, min, max}
use mathlib.Core.Bool.{Bool, true, false, not}
use mathlib.Core.List.{List, [], ◌∷◌, ◌++◌, append_assoc}
use mathlib.Core.Logic.{◌↔◌}
use mathlib.Core.Path.{◌≡◌, sym, ap, ◌∙◌, refl}
use native.Mathlib.Omega.{arith}
use borrow.Author.Tests.{eq-eqb, ne_eqb, eqb-true}
use lib.Dec.{T}
use lib.ListN.{length}
use Rattle.lists.specs.Lists.{every, any, count}
use Rattle.lists.proofs.Counts.{count_some, count_none, none_counted}
use Rattle.rows.specs.declared.Row.{Row}
use Rattle.rows.specs.Rows.{holds_edge}
use Rattle.layout.specs.Layout.{block_bytes, fields_of}
use Rattle.block.specs.Holding.{RightBlock}
use Rattle.answers.specs.Answers.{Tests, first_refusal, answer_of, number_of}
use Rattle.block.specs.Opening.{not_block}
use Rattle.answers.proofs.Refusals.{goes_on, number_of_lem}
use Rattle.block.proofs.RightBlocks.{opens}
use Rattle.answers.proofs.ByNumber.{test_of, before, unlike}
use Rattle.ring.specs.Ring.{Site, site_of, numbers_wrong, edge_missing, link_open, edge_tests}
use Rattle.ring.proofs.EdgeGoesRound.{numbers_right}
use Rattle.calls.specs.Removing.{block_tests}
use Rattle.calls.proofs.CallTests.{block_opened}
use Rattle.demands.specs.Premises.{Held, TwoPoints}
use Rattle.demands.proofs.EdgeFound.{numbers_fit_lem}
use Rattle.answers.proofs.ToldByNumber.{once, exactly, unless}

module _ (chains : Bool) (block out : List ℕ) (e f : ℕ) (rest : Tests) where
  abbrev site : Site
  site = site_of (fields_of block) e f

  abbrev points : ℕ
  points = length (fields_of block).points

  abbrev held_by : Row → Bool
  held_by = holds_edge (min e f) (max e f)

  -- the number that comes, and the tests of the edge with what is behind them

  abbrev pub number : ℕ
  number = first_refusal (block_tests block out ++ edge_tests chains site e f ++ rest)

  abbrev pub tests : Tests
  tests = edge_tests chains site e f ++ rest

  -- of a right block they are left
  right_left : RightBlock block → length out ≡ block_bytes → number ≡ first_refusal tests
  right_left right size =
      let full : not_block out ≡ false = rw (eq-eqb (length out) block_bytes size) in
      ap first_refusal (append_assoc (block_tests block out) (edge_tests chains site e f) rest)
      ∙ block_opened block out tests (opens block right)
      ∙ goes_on 1 (not_block out) tests full

  ends_fit : TwoPoints block e f → numbers_wrong points (e ∷ f ∷ []) ≡ false
  ends_fit two = numbers_fit_lem points e f two.below_e two.below_f two.apart

  module _ (numbered : T (unlike 0 rest)) (right : RightBlock block) (size : length out ≡ block_bytes) where
    pub tells_9 : T (unlike 9 rest) → (number ≡ 9) ↔ (TwoPoints block e f → ⊥)
    unfolding edge_tests site_of once before test_of first_refusal every
    tells_9 other =
        unless (numbers_wrong points (e ∷ f ∷ [])) (exactly 9 tests tt other numbered (right_left right size) refl) ends_fit
        (λ q. let (low, high, apart) = numbers_right points e f q in record { below_e = low; below_f = high; apart = apart })

    pub tells_10 : T (unlike 10 rest) → TwoPoints block e f → (number ≡ 10) ↔ T (not (any held_by (fields_of block).rows))
    unfolding edge_tests site_of once before test_of first_refusal every
    tells_10 other two =
        let rows = (fields_of block).rows in
        let (to, from) = exactly 10 tests tt other numbered (right_left right size) (rw (ends_fit two)) in (
          λ h. none_counted held_by rows (eqb-true (count held_by rows) 0 (to h)),
          λ none. from (eq-eqb (count held_by rows) 0 (count_none held_by rows none)),
        )

  -- of an edge that some row holds, neither is given
  module _ (held : Held block out e f) where
    pub held_left : number ≡ first_refusal tests
    held_left = right_left held.right held.right_length

    some_row : edge_missing site ≡ false
    unfolding site_of
    some_row =
        let some = count_some held_by (fields_of block).rows held.some_row in
        ne_eqb (length site.removed) 0 (λ z. omega arith)

    pub front_11 : first_refusal (before 11 tests) ≡ 0
    unfolding edge_tests site_of before first_refusal
    front_11 = rw (ends_fit held.ends, some_row)

    pub front_12 : link_open chains site ≡ false → first_refusal (before 12 tests) ≡ 0
    unfolding edge_tests site_of before first_refusal
    front_12 closed = rw (ends_fit held.ends, some_row, closed)

-- ---- the last test of a flip

-- 15 exactly where the table afterwards breaks the mesh rule
pub rule_15 : (answer : ℕ) (keeps : Bool) → answer ≡ first_refusal ((15, not keeps) ∷ []) → (answer ≡ 15) ↔ (T keeps → ⊥)
unfolding first_refusal
rule_15 answer true e = (λ h k. omega arith, λ h. absurd (h tt))
rule_15 answer false e = (λ h k. k, λ h. e)

-- and otherwise 0
pub rule_0 : (answer : ℕ) (keeps : Bool) → answer ≡ first_refusal ((15, not keeps) ∷ []) → (answer ≡ 0) ↔ T keeps
unfolding first_refusal
rule_0 answer true e = (λ h. tt, λ h. e)
rule_0 answer false e = (λ h. omega arith, λ h. absurd h)

-- ---- what a flip returns

-- what is said of the number is said of the answer returned
pub returned : {n k : ℕ} {W : Type 0} → (n ≡ k) ↔ W → (number_of (answer_of n) ≡ k) ↔ W
returned {n} told = (λ h. told.0 (sym (number_of_lem n tt) ∙ h), λ w. number_of_lem n tt ∙ told.1 w)
