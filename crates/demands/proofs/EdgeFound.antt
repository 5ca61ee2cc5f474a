-- An edge whose tetrahedra form one ring, or one chain: the kernel's edge in its patch is that one, and 9 to 13, 19, 20, 23 and 14 are passed
-- over.
use Prim.Native.Nat.{ℕ, ◌+◌, ◌-◌, ◌≤◌, ◌<◌, min, max}
use mathlib.Core.Bool.{Bool, true, false, cond, not, ◌&&◌}
use mathlib.Core.List.{List, [], ◌∷◌}
use mathlib.Core.Path.{◌≡◌, refl, sym, ap, ◌∙◌, subst}
use native.Mathlib.Omega.{arith}
use borrow.Author.Tests.{ne_eqb, lt-ltb, le-ltb}
use lib.Dec.{T}
use lib.ListN.{length, length-map}
use Rattle.lists.specs.Lists.{every, any, has, different}
use Rattle.lists.proofs.Tests.{yes_is}
use Rattle.rows.proofs.RegionsOfRows.{not_mixed}
use Rattle.layout.specs.Layout.{Patch, max_rows, fields_of}
use Rattle.block.specs.Holding.{RightBlock}
use Rattle.answers.specs.Answers.{Tests, first_refusal}
use Rattle.answers.proofs.Refusals.{on_list}
use Rattle.block.proofs.RightBlocks.{opens}
use Rattle.answers.proofs.ByNumber.{test_of, before}
use Rattle.links.specs.Links.{link, starts}
use Rattle.ring.specs.Ring.{Site, site_of, m, flat, numbers_wrong, edge_missing, whole, or_chains, link_open, many_circles}
use Rattle.ring.specs.Ring.{length_wrong, not_flat, edge_tests}
use Rattle.triangulation.specs.Triangulation.{rows_after}
use Rattle.calls.specs.Removing.{no_room, mark_lost, removal_tests, remove_answer, Sound}
use Rattle.calls.proofs.CallTests.{remove_left}
use Rattle.tables.specs.RoundAnEdge.{pair_count, Round}
use Rattle.tables.proofs.RingReplaced.{length_passes}
use Rattle.tables.proofs.RowsAndLinks.{round_ends, as_many}
use Rattle.tables.proofs.RoundByWords.{closed_is, ring_is_lem, whole_is}
use Rattle.accepted.proofs.AcceptedCalls.{rows_after_lem}
use Rattle.demands.specs.Kernels.{ours}
use Rattle.demands.specs.Premises.{edge_at, Ringed, FlatChain, OneMaterial, MarksStay, HasRoom}
use Rattle.demands.specs.Words.{Passes}
use Rattle.answers.proofs.ToldByNumber.{past, goes_past}
use Rattle.demands.proofs.Demand1.{numbered}
use Rattle.demands.proofs.MarksByWords.{marks_stay_stated, marks_stay_tested}

pub numbers_fit_lem : (points e f : ℕ) → e < points → f < points → (e ≡ f → ⊥) → numbers_wrong points (e ∷ f ∷ []) ≡ false
unfolding numbers_wrong every different any
numbers_fit_lem points e f h k apart = rw (lt-ltb e points h, lt-ltb f points k, ne_eqb e f apart)

not_open : (closed all : Bool) → all ≡ true → not closed && not (true && all) ≡ false
not_open true all e = refl
not_open false all e = rw e

none_of_four : (p q r s : Bool) → p ≡ false → q ≡ false → r ≡ false → s ≡ false
    → first_refusal ((9, p) ∷ (10, q) ∷ (11, r) ∷ (12, s) ∷ []) ≡ 0
unfolding first_refusal
none_of_four p q r s a b c d = rw (a, b, c, d)

module _ (block : List ℕ) (e f : ℕ) (right : RightBlock block) (closed : Bool) (vs : List ℕ)
    (round : Round (fields_of block).rows (min e f) (max e f) closed vs) (some_pair : 0 < pair_count closed vs) where
  abbrev patch : Patch
  patch = fields_of block

  abbrev its : Site
  its = edge_at patch e f closed vs

  -- the ring that the kernel finds is v1..vm
  pub site_is : site_of patch e f ≡ its
  unfolding site_of
  site_is =
      let a = min e f in
      let b = max e f in
      let points = length patch.points in
      rw (
        closed_is a b points patch.rows right.body.rule closed vs round some_pair,
        ring_is_lem a b points patch.rows right.body.rule closed vs round some_pair,
      )

  -- no marked face of it goes, by the test and by words

  pub site_tested : MarksStay patch e f → mark_lost its ≡ false
  site_tested stay = ap (λ (site : Site). mark_lost site) (sym site_is) ∙ marks_stay_tested patch e f stay

  pub site_stated : mark_lost its ≡ false → MarksStay patch e f
  site_stated q = marks_stay_stated patch e f (ap (λ (site : Site). mark_lost site) site_is ∙ q)

  all_on_lem : whole its ≡ true
  unfolding whole
  all_on_lem = yes_is (every (has vs) (starts its.links))
      (whole_is (min e f) (max e f) (length patch.points) patch.rows right.body.rule closed vs round some_pair)

  -- 9 to 12 are not given
  its_passed : first_refusal (edge_tests or_chains its e f) ≡ 0
  unfolding edge_tests link_open many_circles
  its_passed =
      let points = length patch.points in
      let (low, high, apart) = round_ends (min e f) (max e f) points patch.rows right.body.rule closed vs round some_pair in
      let many = as_many (min e f) (max e f) points patch.rows right.body.rule closed vs round some_pair in
      let some_row : edge_missing its ≡ false = ne_eqb (length its.removed) 0 (λ z.
      omega (arith, length-map its.removed (link (min e f) (max e f)))) in
      let fit = numbers_fit_lem points e f (omega arith) (omega arith) (λ i. apart (omega arith)) in
      let twelve : not (whole its) ≡ false = rw all_on_lem in
      none_of_four (numbers_wrong points (e ∷ f ∷ [])) (edge_missing its) (link_open or_chains its) (many_circles its) fit some_row
      (not_open closed (whole its) all_on_lem) twelve

  pub site_sound : Sound block e f
  site_sound = record {
    opens = opens block right;
    one = rw site_is its_passed;
  }

-- there is one such ring or chain
pub one_round : (block : List ℕ) (e f : ℕ) → RightBlock block → (c d : Bool) (vs ws : List ℕ)
    → Round (fields_of block).rows (min e f) (max e f) c vs → 0 < pair_count c vs
    → Round (fields_of block).rows (min e f) (max e f) d ws → 0 < pair_count d ws → (c ≡ d) × (vs ≡ ws)
one_round block e f right c d vs ws p some-p q some-q =
    let same = sym (site_is block e f right c vs p some-p) ∙ site_is block e f right d ws q some-q in
    (ap (λ (site : Site). site.closed) same, ap (λ (site : Site). site.ring) same)

-- ---- none of 9 to 14, 19, 20 and 23

module _ (block out : List ℕ) (e f : ℕ) (closed : Bool) (vs : List ℕ) (given : Ringed block out e f closed vs) where
  abbrev ringed : Site
  ringed = edge_at (fields_of block) e f closed vs

  some_pair : 0 < pair_count closed vs
  some_pair = go closed
    where
      go : (c : Bool) → 0 < pair_count c vs
      go true = omega (arith, given.from_three)
      go false = omega (arith, given.from_three)

  pub sited : site_of (fields_of block) e f ≡ ringed
  sited = site_is block e f given.right closed vs given.round some_pair

  pub ringed_sound : Sound block e f
  ringed_sound = site_sound block e f given.right closed vs given.round some_pair

  abbrev pub tests : Tests
  tests = removal_tests ringed

  -- 13 to 16, 19, 20 and 23 are left
  pub left : remove_answer block out e f ≡ first_refusal tests
  left =
      remove_left block out e f ringed_sound given.right_length
      ∙ ap (λ (site : Site). first_refusal (removal_tests site)) sited

  pub length_right : length_wrong ringed ≡ false
  length_right = length_passes ringed given.from_three given.to_ten

  passes_13 : T (has (0 ∷ 19 ∷ 20 ∷ 23 ∷ 14 ∷ 15 ∷ 16 ∷ []) (remove_answer block out e f))
  unfolding removal_tests before past test_of first_refusal every
  passes_13 = rw (left ∙ goes_past 13 tests tt refl length_right) (on_list (past 13 tests))

  pub ringed_marks : MarksStay (fields_of block) e f → mark_lost ringed ≡ false
  ringed_marks = site_tested block e f given.right closed vs given.round some_pair

  pub marks_ringed : mark_lost ringed ≡ false → MarksStay (fields_of block) e f
  marks_ringed = site_stated block e f given.right closed vs given.round some_pair

  pub front_19 : first_refusal (before 19 tests) ≡ 0
  unfolding removal_tests before first_refusal
  front_19 = rw length_right

  module _ (flat-one : FlatChain block e f closed vs) where
    pub ringed_flat : not_flat ringed ≡ false
    unfolding flat
    ringed_flat = go closed flat-one
      where
        go : (c : Bool) → FlatChain block e f c vs → not_flat (edge_at (fields_of block) e f c vs) ≡ false
        go true h = refl
        go false h = rw (h refl)

    passes_19 : T (has (0 ∷ 20 ∷ 23 ∷ 14 ∷ 15 ∷ 16 ∷ []) (remove_answer block out e f))
    unfolding removal_tests past test_of every
    passes_19 = rw (left ∙ goes_past 19 tests tt front_19 ringed_flat) (on_list (past 19 tests))

    pub front_20 : first_refusal (before 20 tests) ≡ 0
    unfolding removal_tests before first_refusal
    front_20 = rw (length_right, ringed_flat)

    -- the rows afterwards
    pub after_is : rows_after ringed ≡ length (fields_of block).rows + length vs - cond closed 4 3
    after_is =
        subst (λ (s : Site). 3 ≤ m s → rows_after s ≡ length (fields_of block).rows + m s - cond s.closed 4 3) sited
        (rows_after_lem block e f ringed_sound) given.from_three

    pub ringed_room : HasRoom block closed vs → no_room ringed ≡ false
    ringed_room room = le-ltb max_rows (rows_after ringed) (omega (arith, after_is))

    module _ (one : OneMaterial (fields_of block) e f) where
      passes_20 : T (has (0 ∷ 23 ∷ 14 ∷ 15 ∷ 16 ∷ []) (remove_answer block out e f))
      unfolding removal_tests past test_of every
      passes_20 = rw (left ∙ goes_past 20 tests tt front_20 (not_mixed ringed.removed one)) (on_list (past 20 tests))

      pub front_23 : first_refusal (before 23 tests) ≡ 0
      unfolding removal_tests before first_refusal
      front_23 = rw (length_right, ringed_flat, not_mixed ringed.removed one)

      module _ (stay : MarksStay (fields_of block) e f) where
        passes_23 : T (has (0 ∷ 14 ∷ 15 ∷ 16 ∷ []) (remove_answer block out e f))
        unfolding removal_tests past test_of every
        passes_23 = rw (left ∙ goes_past 23 tests tt front_23 (ringed_marks stay)) (on_list (past 23 tests))

        pub front_14 : first_refusal (before 14 tests) ≡ 0
        unfolding removal_tests before first_refusal
        front_14 = rw (length_right, ringed_flat, not_mixed ringed.removed one, ringed_marks stay)

        module _ (room : HasRoom block closed vs) where
          passes_14 : T (has (0 ∷ 15 ∷ 16 ∷ []) (remove_answer block out e f))
          unfolding removal_tests past test_of every
          passes_14 = rw (left ∙ goes_past 14 tests tt front_14 (ringed_room room)) (on_list (past 14 tests))

          pub front_15 : first_refusal (before 15 tests) ≡ 0
          unfolding removal_tests before first_refusal
          front_15 = rw (length_right, ringed_flat, not_mixed ringed.removed one, ringed_marks stay, ringed_room room)

pub passes : Passes ours
passes = record {
  by_13 = λ block out e f closed vs given. rw (numbered.remove_number block out e f) (passes_13 block out e f closed vs given);
  by_19 = λ block out e f closed vs given flat. rw (numbered.remove_number block out e f) (passes_19 block out e f closed vs given flat);
  by_20 = λ block out e f closed vs given flat one.
      rw (numbered.remove_number block out e f) (passes_20 block out e f closed vs given flat one);
  by_23 = λ block out e f closed vs given flat one stay.
      rw (numbered.remove_number block out e f) (passes_23 block out e f closed vs given flat one stay);
  by_14 = λ block out e f closed vs given flat one stay room.
      rw (numbered.remove_number block out e f) (passes_14 block out e f closed vs given flat one stay room);
}
