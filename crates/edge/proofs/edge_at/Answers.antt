-- Each way out is one case of the laws on answers 9 to 13.
use native.Mathlib.Omega.{arith}
use Rattle.tally.proofs.OpensMeasured.{block_size}
use Rattle.edge.proofs.EdgeAnswers.{edge_9_first, edge_9_second, edge_9_same, edge_table, edge_ring}
use Rattle.edge.proofs.edge_at.Goals as goal

pub bounds-block-1 : goal.bounds-block-1
bounds-block-1 c = omega (arith, block_size c.args.block.now c.requires)

pub overflow_cast-count : goal.overflow_cast-count
overflow_cast-count c = omega (arith, c.type_inv.block 1)

pub returns-then-count-e : goal.returns-then-count-e
returns-then-count-e c =
    let args = c.args in
    edge_9_first args.chains args.block.now args.e args.f c.requires c.if-count-e.true

pub returns-then-count-f : goal.returns-then-count-f
returns-then-count-f c =
    let args = c.args in
    edge_9_second args.chains args.block.now args.e args.f c.requires c.if-count-e.false
    c.if-count-f.true

pub returns-then-e-f : goal.returns-then-e-f
returns-then-e-f c =
    let args = c.args in
    edge_9_same args.chains args.block.now args.e args.f c.requires c.if-count-e.false
    c.if-count-f.false c.if-e-f.true

pub bounds-block-2 : goal.bounds-block-2
bounds-block-2 c = omega (arith, block_size c.args.block.now c.requires)

pub overflow_cast-block : goal.overflow_cast-block
overflow_cast-block c = omega (arith, c.type_inv.block 2)

pub smaller-requires : goal.smaller-requires
smaller-requires c = (
  omega (arith, c.if-count-e.false, c.type_inv.block 1),
  omega (arith, c.if-count-f.false, c.type_inv.block 1),
)

pub larger-requires : goal.larger-requires
larger-requires c = (
  omega (arith, c.if-count-e.false, c.type_inv.block 1),
  omega (arith, c.if-count-f.false, c.type_inv.block 1),
)

pub find-requires : goal.find-requires
find-requires c =
    let args = c.args in
    edge_table args.chains args.block.now args.e args.f c.requires _ _ c.smaller.ensures c.larger.ensures
    c.if-e-f.false

pub returns : goal.returns
returns c =
    let args = c.args in
    edge_ring args.chains args.block.now args.e args.f c.requires _ _ c.smaller.ensures c.larger.ensures
    c.if-count-e.false c.if-count-f.false c.if-e-f.false _ c.find.ensures
