-- Each way out is one case of the laws on the 3-2 flip; with answers 9 to 13 behind it the edge has its ring, and with 20 its rows a region.
use mathlib.Core.Path.{◌≡◌, refl, sym, ◌∙◌}
use native.Mathlib.Omega.{arith}
use borrow.Author.Rules.{rules}
use lib.ListN.{length}
use Rattle.std.proofs.lemmas.Result.{err_from_is_err_and}
use Rattle.ring.specs.Ring.{rings_alone}
use Rattle.cells.specs.Steps.{cells}
use Rattle.layout.proofs.BytesOfSlices.{all_bytes}
use Rattle.output.proofs.BlockAfterwards.{begun_version, begun_length}
use Rattle.edge.proofs.EdgeRinged.{ends_bytes, ringed, fact_of}
use Rattle.edge_flip.proofs.FlippedEdges.{edge_refuses, not_three, several_regions, one_region, mark_lost_lem, marks_stay, no_way_lem, carriable, room_for, done_answer, done_bytes}
use Rattle.edge_flip.proofs.flip_edge.Goals as goal

pub returns-in_err-found : goal.returns-in_err-found
returns-in_err-found c =
    let args = c.args in
    let p = err_from_is_err_and c.from_residual.result c.from_residual.ensures.1 in
    let both =
    edge_refuses args.block.now args.out.now args.e args.f c.requires.0 c.requires.1 (sym c.edge_at.ensures ∙ c.in_err-found.was) in
    record { answer = rw (p.1, p.2) both.0; bytes = both.1 }

pub returns-then-found-ne-THREE : goal.returns-then-found-ne-THREE
returns-then-found-ne-THREE c =
    let args = c.args in
    let i = sym c.edge_at.ensures ∙ c.in_ok-found.was in
    let both = not_three args.block.now args.out.now args.e args.f c.requires.0 c.requires.1 _ i c.if-found-ne-THREE.true in
    record { answer = both.0; bytes = both.1 }

pub returns-in_default : goal.returns-in_default
returns-in_default c =
    let args = c.args in
    let i = sym c.edge_at.ensures ∙ c.in_ok-found.was in
    let both = several_regions args.block.now args.out.now args.e args.f c.requires.0 c.requires.1 _ i c.if-found-ne-THREE.false c.in_default.is in
    record { answer = both.0; bytes = both.1 }

pub in_block-edge-requires : goal.in_block-edge-requires
in_block-edge-requires c =
    let args = c.args in
    let i = sym c.edge_at.ensures ∙ c.in_ok-found.was in
    record {
      opens = c.requires.0;
      ends = ends_bytes rings_alone args.block.now args.e args.f c.requires.0 _ i;
      ringed = fact_of (ringed rings_alone args.block.now args.e args.f c.requires.0 _ i _ _ refl refl);
    }

pub returns-then-mark_goes : goal.returns-then-mark_goes
returns-then-mark_goes c =
    let args = c.args in
    let i = sym c.edge_at.ensures ∙ c.in_ok-found.was in
    let three = c.if-found-ne-THREE.false in
    let own = c.in_block-edge.ensures in
    let (one, region) = one_region args.block.now args.out.now args.e args.f c.requires.0 c.requires.1 _ i _ c.in-One.is in
    let both = mark_lost_lem args.block.now args.out.now args.e args.f c.requires.0 c.requires.1 _ i three _ own one _ c.mark_goes.ensures c.if-mark_goes.true in
    record { answer = both.0; bytes = both.1 }

pub returns-in_default-best_way : goal.returns-in_default-best_way
returns-in_default-best_way c =
    let args = c.args in
    let i = sym c.edge_at.ensures ∙ c.in_ok-found.was in
    let three = c.if-found-ne-THREE.false in
    let own = c.in_block-edge.ensures in
    let (one, region) = one_region args.block.now args.out.now args.e args.f c.requires.0 c.requires.1 _ i _ c.in-One.is in
    let stay = marks_stay args.block.now args.out.now args.e args.f c.requires.0 c.requires.1 _ i three _ own _ c.mark_goes.ensures c.if-mark_goes.false in
    let both = no_way_lem args.block.now args.out.now args.e args.f c.requires.0 c.requires.1 _ i three _ own one stay _ c.best_way.ensures c.in_default-best_way.is in
    record { answer = both.0; bytes = both.1 }

pub carry_out-end-requires : goal.carry_out-end-requires
carry_out-end-requires c =
    let args = c.args in
    let i = sym c.edge_at.ensures ∙ c.in_ok-found.was in
    let three = c.if-found-ne-THREE.false in
    let own = c.in_block-edge.ensures in
    let (one, region) = one_region args.block.now args.out.now args.e args.f c.requires.0 c.requires.1 _ i _ c.in-One.is in
    let stay = marks_stay args.block.now args.out.now args.e args.f c.requires.0 c.requires.1 _ i three _ own _ c.mark_goes.ensures c.if-mark_goes.false in
    let whole : length c.in-Some.way.apexes ≡ cells = search rules in
    carriable args.block.now args.out.now args.e args.f c.requires.0 c.requires.1 _ i three _ own one stay _ c.best_way.ensures _ c.in-Some.is region whole
    (omega (arith, begun_length args.block.now c.requires.0 args.out.now _ c.requires.1 c.begin.ensures))
    (begun_version args.block.now c.requires.0 args.out.now _ c.requires.1 c.begin.ensures)

pub finish-requires : goal.finish-requires
finish-requires c =
    let args = c.args in
    let i = sym c.edge_at.ensures ∙ c.in_ok-found.was in
    let three = c.if-found-ne-THREE.false in
    let own = c.in_block-edge.ensures in
    let (one, region) = one_region args.block.now args.out.now args.e args.f c.requires.0 c.requires.1 _ i _ c.in-One.is in
    let stay = marks_stay args.block.now args.out.now args.e args.f c.requires.0 c.requires.1 _ i three _ own _ c.mark_goes.ensures c.if-mark_goes.false in (
      omega (arith, c.carry_out-end.auto.rows, c.begin.auto.out, c.requires.1),
      room_for args.block.now args.out.now args.e args.f c.requires.0 c.requires.1 _ i three _ own one stay _ c.best_way.ensures _ c.in-Some.is _ c.carry_out-end.ensures.0,
    )

pub returns : goal.returns
returns c =
    let args = c.args in
    let i = sym c.edge_at.ensures ∙ c.in_ok-found.was in
    let three = c.if-found-ne-THREE.false in
    let own = c.in_block-edge.ensures in
    let (one, region) = one_region args.block.now args.out.now args.e args.f c.requires.0 c.requires.1 _ i _ c.in-One.is in
    let stay = marks_stay args.block.now args.out.now args.e args.f c.requires.0 c.requires.1 _ i three _ own _ c.mark_goes.ensures c.if-mark_goes.false in
    record {
      answer = done_answer args.block.now args.out.now args.e args.f c.requires.0 c.requires.1 _ i three _ own one stay _ c.best_way.ensures _ c.in-Some.is;
      bytes =
          done_bytes args.block.now args.out.now args.e args.f c.requires.0 c.requires.1 _ i three _ own one stay _ c.best_way.ensures _ c.in-Some.is _ c.carry_out-end.ensures.0
          (all_bytes args.block.now c.type_inv.block) _ _ _ c.begin.ensures c.carry_out-end.ensures.1 c.finish.ensures;
    }
