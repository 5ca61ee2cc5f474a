-- A removal tried in a block that opens: the edge's refusal, the verdict's refusal, or the ring or chain and the apexes.
use Prim.Native.Nat.{ℕ, ◌≤◌, min, max}
use mathlib.Core.Bool.{false}
use mathlib.Core.List.{List, ◌++◌, append_assoc}
use mathlib.Core.Path.{◌≡◌, refl, sym, ap, ◌∙◌, subst}
use lib.Dec.{T}
use Rattle.std.specs.Prelude.{Ok, Err}
use Rattle.lists.specs.Lists.{every}
use Rattle.answers.specs.declared.Refusal.{Refusal}
use Rattle.answers.specs.Answers.{Tests, first_refusal, answer_of}
use Rattle.rows.specs.Regions.{region_of}
use Rattle.rows.specs.Steps.{regions_of}
use Rattle.layout.specs.Layout.{max_rows, fields_of}
use Rattle.block.specs.Opening.{open_answer}
use Rattle.answers.proofs.Refusals.{goes_on}
use Rattle.answers.proofs.ByNumber.{unlike, front_passed}
use Rattle.ring.specs.declared.Found.{Found}
use Rattle.ring.specs.Ring.{Site, site_of, or_chains, edge_tests, length_tests, length_wrong}
use Rattle.triangulation.specs.Triangulation.{rows_after}
use Rattle.calls.specs.Removing.{no_way, replacement_tests, removal_tests}
use Rattle.calls.proofs.CallTests.{front_refuses}
use Rattle.edge.specs.Steps.{edge_answer, edge_found}
use Rattle.edge.specs.declared.RingedEdge.{RingedEdge}
use Rattle.edge.specs.Edges.{site_of_edge, IsEdgeOf}
use Rattle.edge.proofs.EdgeRinged.{found_refused, own_regions, edge_one, length_right, own_site, ringed, ends_bytes, in_block_site}
use Rattle.replacement.specs.Steps.{StandFor, edge_site}
use Rattle.verdict.specs.declared.Plan.{Plan}
use Rattle.verdict.specs.Steps.{plan_answer, Planned, Plans}
use Rattle.verdict.proofs.VerdictAnswers.{plan_room, plan_way}
use Rattle.attempt.specs.Steps.{attempt_answer, Attempts}

module _ (block : List ℕ) (e f : ℕ) (opens : open_answer block ≡ 0) where
  abbrev site : Site
  site = site_of (fields_of block) e f

  abbrev tests : Tests
  tests = edge_tests or_chains site e f

  abbrev replacement : Tests
  replacement = replacement_tests site

  -- ---- answers 9 to 13

  edge_stands : (edge_answer or_chains block e f ≡ 0 → ⊥) → attempt_answer block e f ≡ edge_answer or_chains block e f
  unfolding edge_answer attempt_answer removal_tests
  edge_stands h =
      ap first_refusal (sym (append_assoc tests (length_tests site) replacement))
      ∙ front_refuses (tests ++ length_tests site) replacement h

  pub edge_refuses : {refusal : Refusal} → edge_found or_chains block e f ≡ Err refusal → Attempts block e f (Err refusal)
  edge_refuses i = sym (found_refused or_chains block e f opens i (attempt_answer block e f) tt edge_stands)

  -- ---- behind the edge

  edge_numbered : T (unlike 0 tests)
  unfolding edge_tests every
  edge_numbered = tt

  module _ (found : Found) (i : edge_found or_chains block e f ≡ Ok found) where
    its_site : edge_site block e f ≡ site
    its_site = own_site or_chains block e f opens found i (min e f) (max e f) refl refl

    -- the verdict's answers are left
    verdict_left : attempt_answer block e f ≡ plan_answer site
    unfolding attempt_answer removal_tests plan_answer
    verdict_left =
        front_passed tests (length_tests site ++ replacement) edge_numbered (edge_one or_chains block e f opens found i)
        ∙ goes_on 13 (length_wrong site) replacement (length_right or_chains block e f opens found i)

    module _ (edge : RingedEdge) (is : IsEdgeOf block e f found.closed found.ring edge) where
      site_is : site_of_edge edge ≡ edge_site block e f
      site_is = in_block_site is

      pub regions_are : found.regions ≡ regions_of (site_of_edge edge).removed
      regions_are = own_regions or_chains block e f opens found i ∙ ap (λ (s : Site). regions_of s.removed) (sym (site_is ∙ its_site))

      answer_left : plan_answer (site_of_edge edge) ≡ attempt_answer block e f
      answer_left = ap plan_answer (site_is ∙ its_site) ∙ sym verdict_left

      -- 19, 20, 23 and 14 to 16
      pub plan_refuses : {refusal : Refusal} → Plans (site_of_edge edge) (Err refusal) → Attempts block e f (Err refusal)
      plan_refuses plans = ap answer_of (sym answer_left) ∙ plans

      pub tried_is : (plan : Plan) → Planned (site_of_edge edge) plan
          → Attempts block e f (Ok (record { closed = found.closed; ring = found.ring; region = plan.region; apexes = plan.apexes }))
      tried_is plan planned = (
        sym answer_left ∙ planned.answer,
        record {
          ends = ends_bytes or_chains block e f opens found i;
          ringed = ringed or_chains block e f opens found i (min e f) (max e f) refl refl;
          way = subst (λ (s : Site). no_way s ≡ false) site_is (plan_way edge planned.answer);
          own_region = subst (λ (s : Site). plan.region ≡ region_of s.removed) site_is planned.region;
          room = subst (λ (s : Site). rows_after s ≤ max_rows) site_is (plan_room edge planned.answer);
          stand = subst (λ (s : Site). StandFor s plan.apexes) site_is planned.apexes;
        },
      )
