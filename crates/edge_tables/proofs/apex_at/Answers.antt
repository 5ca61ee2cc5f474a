-- `edge_tables::apex_at` reads the apex of the whole ring from the table of its pieces.
use mathlib.Core.Path.{ap, ◌∙◌}
use native.Mathlib.Omega.{arith}
use lib.ListN.{get_or}
use Rattle.edge_tables.proofs.EdgeTabled.{no_apex, whole, bytes, ready, ring_length, top}
use Rattle.edge_tables.proofs.apex_at.Goals as goal

pub returns-then-ring-eq0 : goal.returns-then-ring-eq0
returns-then-ring-eq0 c = no_apex c.args.block.now _ _ _ c.ring_at-ring.ensures c.if-ring-eq0.true

pub slice_bounds-fill-end : goal.slice_bounds-fill-end
slice_bounds-fill-end c = omega (arith, (whole c.args.block.now c.args.e c.args.f _ c.ring_at-ring.ensures c.if-ring-eq0.false))

pub bounds-block-1 : goal.bounds-block-1
bounds-block-1 c = omega (arith, (whole c.args.block.now c.args.e c.args.f _ c.ring_at-ring.ensures c.if-ring-eq0.false))

pub overflow_cast-block : goal.overflow_cast-block
overflow_cast-block c = omega (arith, c.type_inv.block 1)

pub bounds-block-2 : goal.bounds-block-2
bounds-block-2 c = omega (arith, (whole c.args.block.now c.args.e c.args.f _ c.ring_at-ring.ensures c.if-ring-eq0.false))

pub overflow_cast-block-2 : goal.overflow_cast-block-2
overflow_cast-block-2 c = omega (arith, c.type_inv.block 2)

pub overflow_cast-e : goal.overflow_cast-e
overflow_cast-e c = let (low, high) = (bytes c.args.block.now c.args.e c.args.f _ c.ring_at-ring.ensures c.if-ring-eq0.false) in omega arith

pub overflow_cast-f : goal.overflow_cast-f
overflow_cast-f c = let (low, high) = (bytes c.args.block.now c.args.e c.args.f _ c.ring_at-ring.ensures c.if-ring-eq0.false) in omega arith

pub fill-pieces-requires : goal.fill-pieces-requires
fill-pieces-requires c =
    ready c.args.block.now c.args.e c.args.f _ c.ring_at-ring.ensures c.if-ring-eq0.false

pub cell_at-at-requires : goal.cell_at-at-requires
cell_at-at-requires c =
    let (long, short) = ring_length c.args.block.now c.args.e c.args.f _ c.ring_at-ring.ensures c.if-ring-eq0.false _ c.fill-pieces.ensures in
    (omega arith, omega arith, omega arith)

pub returns : goal.returns
returns c =
    ap (λ at. get_or c.fill-pieces.result.table.apexes at 0) c.cell_at-at.ensures.0
    ∙ top c.args.block.now c.args.e c.args.f _ c.ring_at-ring.ensures c.if-ring-eq0.false _ c.fill-pieces.ensures
