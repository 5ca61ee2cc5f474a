-- `cell_at` computes the place; a product of two numbers below ten fits.
use mathlib.Core.Path.{refl}
use native.Mathlib.Omega.{arith}
use Rattle.cells.specs.Steps.{cell_at}
use Rattle.cells.proofs.CellPlaces.{cell_in, cell_room, ended_by}
use Rattle.cells.proofs.cell_at.Goals as goal

pub overflow_mul-result : goal.overflow_mul-result
unfolding cell_at
overflow_mul-result c = let p = c.requires in omega (arith, cell_in _ _ p.0 p.1 p.2)

pub overflow_sub-result-3 : goal.overflow_sub-result-3
unfolding ended_by
overflow_sub-result-3 c = omega (arith, cell_room _ _ c.requires.1)

pub returns : goal.returns
unfolding cell_at
returns c = let p = c.requires in (refl, cell_in _ _ p.0 p.1 p.2)
