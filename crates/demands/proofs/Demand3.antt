-- Demand 3. Of the refusals 16 alone is left under its premises. It is given exactly when each tree has a row no better than now; and the
-- chosen tree is the best. What is so of trees is so of all that cuts the ring.
use Prim.Native.Nat.{ℕ, ◌≤◌}
use mathlib.Core.Bool.{Bool, false, not}
use mathlib.Core.List.{List}
use mathlib.Core.Logic.{◌↔◌}
use mathlib.Core.Path.{◌≡◌, sym, ap, ◌∙◌, subst}
use native.Mathlib.Omega.{arith}
use lib.Dec.{T, not_T}
use Rattle.lists.specs.Lists.{every}
use Rattle.lists.proofs.Tests.{yes_is, is_yes, no_is}
use Rattle.lists.proofs.Lists.{every_at, every_i}
use Rattle.quality.specs.Quality.{worse}
use Rattle.quality.proofs.QualityOrder.{◌⊑◌, at_most_self, at_most_trans}
use Rattle.rows.specs.RowMeasure.{row_quality}
use Rattle.rows.proofs.RegionsOfRows.{not_mixed}
use Rattle.rows.proofs.ProperRows.{row_fraction}
use Rattle.layout.specs.Layout.{Patch, fields_of}
use Rattle.answers.specs.Answers.{Tests, first_refusal}
use Rattle.answers.proofs.ByNumber.{test_of, before}
use Rattle.ring.specs.Ring.{Site, site_of, m}
use Rattle.triangulation.specs.Triangulation.{Tri, triangles, new_rows}
use Rattle.triangulation.specs.Best.{worst_of_way, ring_ways, chosen}
use Rattle.triangulation.proofs.WorstOfWays.{worst_over_lem}
use Rattle.triangulation.proofs.WholeRing.{RingWay, BestWay, way_listed, listed_way, worst_row}
use Rattle.calls.specs.Removing.{worst_now, mark_lost, no_way, none_better, patch_after, removal_tests, remove_answer, remove_bytes}
use Rattle.calls.specs.Removing.{Sound}
use Rattle.tables.proofs.RingReplaced.{way_there}
use Rattle.accepted.proofs.ChosenWay.{site_chosen}
use Rattle.accepted.proofs.AfterRemoval.{fields_after}
use Rattle.demands.specs.Kernels.{ours}
use Rattle.demands.specs.TriangleSets.{table_made, NoneBetter}
use Rattle.demands.specs.Premises.{edge_at, Premises}
use Rattle.demands.specs.Demands.{Demand3}
use Rattle.demands.proofs.Demand1.{numbered}
use Rattle.demands.proofs.WaysAndTrees.{NoTreeBetter, tree_way, way_tree, none_better_fact, best_of_lem}
use Rattle.demands.proofs.MarksByWords.{marks_stay_tested}
use Rattle.answers.proofs.ToldByNumber.{past, once, exactly, goes_past}
use Rattle.demands.proofs.EdgeFound.{sited, ringed_sound, left, length_right, ringed_flat, ringed_room}

-- ---- none better

module _ (site : Site) (three : 3 ≤ m site) where
  none→ : T (none_better site) → NoTreeBetter site
  unfolding none_better
  none→ h t w =
      let (row, k, e) = worst_row site three t w.spans in
      let own = every_at (λ t. not (worse (worst_now site) (worst_of_way site 1 t))) (ring_ways site) h (way_listed site three w) in
      (row, k, subst (λ q. T (not (worse (worst_now site) q))) (sym e) own)

  →none : NoTreeBetter site → T (none_better site)
  unfolding none_better
  →none h = every_i (λ t. not (worse (worst_now site) (worst_of_way site 1 t))) (ring_ways site) (λ t k.
      let (row, i, good) = h t (listed_way site three k) in
      let q = worst_of_way site 1 t in
      let low : q ⊑ row_quality site.points row = worst_over_lem site q 1 t (at_most_self q) row i in
      let high : row_quality site.points row ⊑ worst_now site = record { not_worse = good } in
      (at_most_trans (row_fraction site.points row) low high).not_worse)

-- ---- the demand

module _ (block out : List ℕ) (e f : ℕ) (closed : Bool) (vs : List ℕ) (given : Premises block out e f closed vs) where
  abbrev its : Site
  its = edge_at (fields_of block) e f closed vs

  -- the edge that the kernel finds is this one
  is : site_of (fields_of block) e f ≡ its
  is = sited block out e f closed vs given.ringed

  sound : Sound block e f
  sound = ringed_sound block out e f closed vs given.ringed

  three : 3 ≤ m its
  three = given.ringed.from_three

  -- some tree keeps the mesh rule
  some_tree : (t : Tri) × RingWay its t
  some_tree =
      let (ts, w) = given.some_way in
      let (t, own, alike, one) = way_tree its (omega (arith, three)) ts w in
      (t, own)

  best : BestWay its (chosen its)
  best =
      let (t, w) = some_tree in
      subst (λ (s : Site). 3 ≤ m s → (t : Tri) → RingWay s t → BestWay s (chosen s)) is (site_chosen block e f sound) three t w

  not_15 : no_way its ≡ false
  not_15 =
      let (t, w) = some_tree in
      way_there its three t w

  not_23 : mark_lost its ≡ false
  not_23 = subst (λ (s : Site). mark_lost s ≡ false) is (marks_stay_tested (fields_of block) e f given.no_marked_face_goes)

  abbrev tests : Tests
  tests = removal_tests its

  left_one : remove_answer block out e f ≡ first_refusal tests
  left_one = left block out e f closed vs given.ringed

  -- all other tests are passed
  front_16 : first_refusal (before 16 tests) ≡ 0
  unfolding removal_tests before first_refusal
  front_16 =
      rw (
        length_right block out e f closed vs given.ringed,
        ringed_flat block out e f closed vs given.ringed given.flat,
        not_mixed its.removed given.one_region,
        not_23,
        ringed_room block out e f closed vs given.ringed given.flat given.room,
        not_15,
      )

  pub answer_16 : (remove_answer block out e f ≡ 16) ↔ NoneBetter its
  unfolding removal_tests once test_of every
  answer_16 =
      let (to, from) = none_better_fact its (omega (arith, three)) in
      let (there, back) = exactly 16 tests tt tt tt left_one front_16 in (
        λ h. from (none→ its three (is_yes (none_better its) (there h))),
        λ h. back (yes_is (none_better its) (→none its three (to h))),
      )

  -- otherwise 0, and nothing else
  answer_0 : (NoneBetter its → ⊥) → remove_answer block out e f ≡ 0
  unfolding removal_tests before past test_of first_refusal every
  answer_0 h =
      let (to, from) = none_better_fact its (omega (arith, three)) in
      left_one
      ∙ goes_past 16 tests tt front_16 (no_is (none_better its) (not_T (none_better its) (λ k. h (from (none→ its three k)))))

  rows_written : remove_answer block out e f ≡ 0 → (fields_of (remove_bytes block out e f)).rows ≡ table_made its (triangles 1 (chosen its))
  unfolding patch_after new_rows
  rows_written h =
      ap (λ (patch : Patch). patch.rows) (fields_after block out e f h) ∙ ap (λ (s : Site). table_made s (triangles 1 (chosen s))) is

pub demand_3 : Demand3 ours
unfolding ours
demand_3 block out e f closed vs given =
    let site = edge_at (fields_of block) e f closed vs in
    let n = numbered.remove_number block out e f in
    let best-one = best block out e f closed vs given in
    let two : 2 ≤ m site = omega (arith, given.ringed.from_three) in
    record {
      none_better_fact =
          let (to, from) = answer_16 block out e f closed vs given in
          (λ h. to (sym n ∙ h), λ h. n ∙ from h);
      otherwise = λ h. n ∙ answer_0 block out e f closed vs given h;
      carried_out = λ h. (
        triangles 1 (chosen site),
        tree_way site two (chosen site) best-one.way,
        rows_written block out e f closed vs given (sym n ∙ h),
        (best_of_lem site two (chosen site)).1 best-one.none_better_fact,
      );
    }
