-- A closed ring passes; an open chain goes by D of the row across it.
use native.Mathlib.Omega.{arith}
use Rattle.std.proofs.Common.{rules}
use Rattle.flatness.proofs.not_flat.Goals as goal

pub returns-then-closed : goal.returns-then-closed
returns-then-closed c = rw c.if-closed.true

pub overflow_sub-last : goal.overflow_sub-last
overflow_sub-last c = omega (arith, c.requires.some_point)

pub bounds-ring-last : goal.bounds-ring-last
bounds-ring-last c = let pre = c.requires in omega (arith, pre.some_point, pre.short)

pub row_volume-d-requires : goal.row_volume-d-requires
row_volume-d-requires c = rw c.plain-outer.ensures c.requires.placed

pub returns : goal.returns
returns c = rw (c.if-closed.false, ← c.plain-outer.ensures) (search rules)
