-- Each way out is one case of the laws on an edge.
use mathlib.Core.Path.{sym}
use native.Mathlib.Omega.{arith}
use Rattle.edge_tables.proofs.EdgeTabled.{turned, refused, size, over, tabled, ring_found}
use Rattle.edge_tables.proofs.ring_at.Goals as goal

pub returns-then-f-e : goal.returns-then-f-e
returns-then-f-e c = turned c.args.block.now c.args.e c.args.f c.if-f-e.true

pub returns-in_default : goal.returns-in_default
returns-in_default c = refused c.args.block.now c.args.e c.args.f c.if-f-e.false (sym c.in_default.ensures)

pub bounds-block-1 : goal.bounds-block-1
bounds-block-1 c = omega (arith, size c.args.block.now c.args.e c.args.f c.if-f-e.false (sym c.in-Ok.ensures))

pub returns-then-block-f : goal.returns-then-block-f
returns-then-block-f c = over c.args.block.now c.args.e c.args.f c.if-f-e.false (sym c.in-Ok.ensures) c.if-block-f.true

pub bounds-block-2 : goal.bounds-block-2
bounds-block-2 c = omega (arith, size c.args.block.now c.args.e c.args.f c.if-f-e.false (sym c.in-Ok.ensures))

pub find-requires : goal.find-requires
find-requires c = tabled c.args.block.now c.args.e c.args.f c.if-f-e.false (sym c.in-Ok.ensures)

pub returns-in_default-find : goal.returns-in_default-find
returns-in_default-find c =
    ring_found c.args.block.now c.args.e c.args.f c.if-f-e.false (sym c.in-Ok.ensures) c.if-block-f.false _ c.in_default-find.ensures

pub returns : goal.returns
returns c =
    ring_found c.args.block.now c.args.e c.args.f c.if-f-e.false (sym c.in-Ok.ensures) c.if-block-f.false _ c.in-Ok-find.ensures
