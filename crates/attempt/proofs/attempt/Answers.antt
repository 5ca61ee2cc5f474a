-- A refusal is the edge's or the verdict's; behind both the edge has its ring or chain, and the plan is that of its site.
use mathlib.Core.Path.{sym, refl, ◌∙◌}
use Rattle.std.proofs.lemmas.Result.{err_from_is_err_and}
use Rattle.ring.specs.Ring.{or_chains}
use Rattle.edge.proofs.EdgeRinged.{ends_bytes, ringed, fact_of}
use Rattle.attempt.proofs.Attempted.{edge_refuses, regions_are, plan_refuses, tried_is}
use Rattle.attempt.proofs.attempt.Goals as goal

pub returns-in_err-found : goal.returns-in_err-found
returns-in_err-found c =
    let p = err_from_is_err_and c.from_residual.result c.from_residual.ensures.1 in
    rw (p.1, p.2) (edge_refuses c.args.block.now c.args.e c.args.f c.requires (sym c.edge_at.ensures ∙ c.in_err-found.was))

pub in_block-edge-requires : goal.in_block-edge-requires
in_block-edge-requires c =
    let args = c.args in
    let i = sym c.edge_at.ensures ∙ c.in_ok-found.was in
    record {
      opens = c.requires;
      ends = ends_bytes or_chains args.block.now args.e args.f c.requires _ i;
      ringed = fact_of (ringed or_chains args.block.now args.e args.f c.requires _ i _ _ refl refl);
    }

pub decide-requires : goal.decide-requires
decide-requires c =
    let args = c.args in
    regions_are args.block.now args.e args.f c.requires _ (sym c.edge_at.ensures ∙ c.in_ok-found.was) _ c.in_block-edge.ensures

pub returns-in_err-plan : goal.returns-in_err-plan
returns-in_err-plan c =
    let args = c.args in
    let p = err_from_is_err_and c.from_residual-in_err-plan.result c.from_residual-in_err-plan.ensures.1 in
    rw (p.1, p.2) (plan_refuses args.block.now args.e args.f c.requires _ (sym c.edge_at.ensures ∙ c.in_ok-found.was) _ c.in_block-edge.ensures
    c.in_err-plan.ensures)

pub returns : goal.returns
returns c =
    let args = c.args in
    tried_is args.block.now args.e args.f c.requires _ (sym c.edge_at.ensures ∙ c.in_ok-found.was) _ c.in_block-edge.ensures _ c.in_ok-plan.ensures
