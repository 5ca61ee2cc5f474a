-- Each answer from 9 to 15, 19, 20 and 23 of a removal is given exactly when its words are true of the block, where those before it are not; and 0
-- and 16 are given under the third demand's premises alone.
use Prim.Native.Nat.{ℕ, ◌≤◌, min, max}
use mathlib.Core.Bool.{Bool, false, not}
use mathlib.Core.List.{List, ◌++◌}
use mathlib.Core.Logic.{◌↔◌}
use mathlib.Core.Path.{◌≡◌, sym, ◌∙◌}
use native.Mathlib.Omega.{arith}
use borrow.Author.Tests.{ltb-false}
use lib.Dec.{T}
use lib.ListN.{length}
use Rattle.lists.specs.Lists.{every, any}
use Rattle.rows.specs.Rows.{holds_edge}
use Rattle.rows.specs.Regions.{mixed}
use Rattle.rows.proofs.RegionsOfRows.{one_region, not_mixed}
use Rattle.layout.specs.Layout.{Patch, block_bytes, max_rows, fields_of}
use Rattle.block.specs.Holding.{RightBlock}
use Rattle.answers.specs.Answers.{Tests, first_refusal}
use Rattle.body.specs.Body.{body_tests}
use Rattle.answers.proofs.ByNumber.{test_of, before, unlike, passes}
use Rattle.ring.specs.Ring.{Site, site_of, m, or_chains, length_wrong, edge_tests, not_flat}
use Rattle.triangulation.specs.Triangulation.{Triangle, triangles, rows_after}
use Rattle.calls.specs.Removing.{block_tests, no_room, no_way, mark_lost, removal_tests, remove_answer, Sound}
use Rattle.calls.proofs.CallTests.{reached, removes}
use Rattle.tables.specs.RoundAnEdge.{AllClose, TwoCircles}
use Rattle.tables.proofs.RingReplaced.{length_fits, way_found, way_there}
use Rattle.demands.specs.Kernels.{ours}
use Rattle.demands.specs.TriangleSets.{Way}
use Rattle.demands.specs.Premises.{TwoPoints, Held, edge_at, Ringed, FlatChain, OneMaterial, MarksStay, HasRoom, Premises}
use Rattle.demands.specs.Words.{Tells, Only16}
use Rattle.demands.proofs.Demand1.{numbered}
use Rattle.demands.proofs.WaysAndTrees.{tree_way, way_tree}
use Rattle.answers.proofs.ToldByNumber.{once, told, exactly, unless}
use Rattle.demands.proofs.FrontTests.{tells_9, tells_10}
use Rattle.demands.proofs.EdgeFound.{left, front_19, front_20, front_23, front_14, front_15}
use Rattle.demands.proofs.EdgeFound.{ringed_flat, ringed_marks, marks_ringed, ringed_room, after_is}
use Rattle.demands.proofs.PremisesMet.{flat_chain, premises_by}
use Rattle.demands.proofs.RingWords.{tells_11, tells_12, tells_13}

-- ---- 9, 10 and 12

module _ (block out : List ℕ) (e f : ℕ) (right : RightBlock block) (size : length out ≡ block_bytes) where
  removal_tells_9 : (remove_answer block out e f ≡ 9) ↔ (TwoPoints block e f → ⊥)
  unfolding remove_answer removal_tests every
  removal_tells_9 = tells_9 or_chains block out e f (removal_tests (site_of (fields_of block) e f)) tt right size tt

  removal_tells_10 : TwoPoints block e f
      → (remove_answer block out e f ≡ 10) ↔ T (not (any (holds_edge (min e f) (max e f)) (fields_of block).rows))
  unfolding remove_answer removal_tests every
  removal_tells_10 = tells_10 or_chains block out e f (removal_tests (site_of (fields_of block) e f)) tt right size tt

removal_tells_12 : (block out : List ℕ) (e f : ℕ) → Held block out e f
    → let rows = (fields_of block).rows in
    (remove_answer block out e f ≡ 12) ↔ (AllClose rows (min e f) (max e f) × TwoCircles rows (min e f) (max e f))
unfolding remove_answer removal_tests every
removal_tells_12 block out e f held =
    tells_12 block out e f held or_chains (removal_tests (site_of (fields_of block) e f)) tt tt

-- ---- 19, 20, 23, 14 and 15

module _ (block out : List ℕ) (e f : ℕ) (closed : Bool) (vs : List ℕ) (given : Ringed block out e f closed vs) where
  abbrev patch : Patch
  patch = fields_of block

  abbrev ringed : Site
  ringed = edge_at patch e f closed vs

  abbrev theirs : Tests
  theirs = removal_tests ringed

  is : remove_answer block out e f ≡ first_refusal theirs
  is = left block out e f closed vs given

  tells_19 : (remove_answer block out e f ≡ 19) ↔ (FlatChain block e f closed vs → ⊥)
  unfolding removal_tests once test_of every
  tells_19 =
      unless (not_flat ringed) (exactly 19 theirs tt tt tt is (front_19 block out e f closed vs given))
      (ringed_flat block out e f closed vs given) (flat_chain ringed)

  module _ (flat : FlatChain block e f closed vs) where
    tells_20 : (remove_answer block out e f ≡ 20) ↔ (OneMaterial patch e f → ⊥)
    unfolding removal_tests once test_of every
    tells_20 =
        unless (mixed ringed.removed) (exactly 20 theirs tt tt tt is (front_20 block out e f closed vs given flat))
        (not_mixed ringed.removed) (one_region ringed.removed)

    tells_23 : OneMaterial patch e f → (remove_answer block out e f ≡ 23) ↔ (MarksStay patch e f → ⊥)
    unfolding removal_tests once test_of every
    tells_23 one =
        unless (mark_lost ringed) (exactly 23 theirs tt tt tt is (front_23 block out e f closed vs given flat one))
        (ringed_marks block out e f closed vs given) (marks_ringed block out e f closed vs given)

    tells_14 : OneMaterial patch e f → MarksStay patch e f → (remove_answer block out e f ≡ 14) ↔ (HasRoom block closed vs → ⊥)
    unfolding removal_tests once test_of every
    tells_14 one stay =
        unless (no_room ringed) (exactly 14 theirs tt tt tt is (front_14 block out e f closed vs given flat one stay))
        (ringed_room block out e f closed vs given flat)
        (λ q. omega (arith, after_is block out e f closed vs given flat, ltb-false max_rows (rows_after ringed) q))

    tells_15 : OneMaterial patch e f → MarksStay patch e f → HasRoom block closed vs
        → (remove_answer block out e f ≡ 15) ↔ ((ts : List Triangle) → Way ringed ts → ⊥)
    unfolding removal_tests once test_of every
    tells_15 one stay room =
        let two : 2 ≤ m ringed = omega (arith, given.from_three) in
        let there : (ts : List Triangle) × Way ringed ts → no_way ringed ≡ false = λ (ts, w).
        let (t, own, alike, only) = way_tree ringed two ts w in
        way_there ringed given.from_three t own in
        let (to, from) = unless (no_way ringed) (exactly 15 theirs tt tt tt is (front_15 block out e f closed vs given flat one stay room)) there
        (λ q. let (t, w) = way_found ringed given.from_three q in (triangles 1 t, tree_way ringed two t w)) in
        (λ h ts w. to h (ts, w), λ none. from (λ (ts, w). none ts w))

pub tells : Tells ours
tells = record {
  nine = λ block out e f right size. rw (numbered.remove_number block out e f) (removal_tells_9 block out e f right size);
  ten = λ block out e f right size two. rw (numbered.remove_number block out e f) (removal_tells_10 block out e f right size two);
  eleven = λ block out e f held. rw (numbered.remove_number block out e f) (tells_11 block out e f held);
  twelve = λ block out e f held. rw (numbered.remove_number block out e f) (removal_tells_12 block out e f held);
  thirteen = λ block out e f held. rw (numbered.remove_number block out e f) (tells_13 block out e f held);
  nineteen = λ block out e f closed vs given. rw (numbered.remove_number block out e f) (tells_19 block out e f closed vs given);
  twenty = λ block out e f closed vs given flat. rw (numbered.remove_number block out e f) (tells_20 block out e f closed vs given flat);
  twenty_three = λ block out e f closed vs given flat one.
      rw (numbered.remove_number block out e f) (tells_23 block out e f closed vs given flat one);
  fourteen = λ block out e f closed vs given flat one stay.
      rw (numbered.remove_number block out e f) (tells_14 block out e f closed vs given flat one stay);
  fifteen = λ block out e f closed vs given flat one stay room.
      rw (numbered.remove_number block out e f) (tells_15 block out e f closed vs given flat one stay room);
}

-- ---- 0 and 16

module _ (block out : List ℕ) (e f : ℕ) where
  abbrev its : Site
  its = site_of (fields_of block) e f

  -- with 1 to 15, 19, 20 and 23 passed
  premises_when : Sound block e f → length out ≡ block_bytes → length_wrong its ≡ false → not_flat its ≡ false
      → mixed its.removed ≡ false → mark_lost its ≡ false → no_room its ≡ false → no_way its ≡ false → Premises block out e f its.closed its.ring
  premises_when sound size length_right flat unmixed stay room way =
      let (t, w) = way_found its (length_fits its length_right).0 way in
      premises_by block out e f sound size length_right flat unmixed stay room t w

  pub only_0 : remove_answer block out e f ≡ 0 → Premises block out e f its.closed its.ring
  only_0 h =
      let r = removes block out e f h in
      premises_when r.sound r.size r.length_right r.closed_or_flat r.one_region r.marks_stay r.room r.way

  front_not_16 : T (unlike 16 (block_tests block out ++ edge_tests or_chains its e f))
  unfolding block_tests body_tests edge_tests every
  front_not_16 = tt

  -- 16 is tested behind them
  passed_16 : remove_answer block out e f ≡ 16 → Premises block out e f its.closed its.ring
  unfolding remove_answer removal_tests once before test_of every
  passed_16 h =
      let (sound, size, rest, closed) =
      reached or_chains block out e f (removal_tests its) 16 front_not_16 h in
      let all = removal_tests its in
      let front = (told 16 all tt tt rest).0 in
      let first = before 16 all in
      premises_when sound size (passes 13 first tt front) (passes 19 first tt front) (passes 20 first tt front) (passes 23 first tt front)
      (passes 14 first tt front) (passes 15 first tt front)

pub only_16 : Only16 ours
only_16 block out e f h =
    let site = site_of (fields_of block) e f in
    (site.closed, site.ring, passed_16 block out e f (sym (numbered.remove_number block out e f) ∙ h))
