-- `apex_at` reads the cell of (i,j); what it keeps lies between the ends.
use mathlib.Core.Path.{refl}
use native.Mathlib.Omega.{arith}
use Rattle.expansion.proofs.apex_at.Goals as goal

pub overflow_cast-result : goal.overflow_cast-result
overflow_cast-result c =
    let a = c.args in
    let high = c.requires.1.high a.i a.j (omega arith) c.requires.3 (omega arith) in
    rw c.cell_at.ensures.0 (omega (arith, high))

pub returns : goal.returns
returns c =
    let a = c.args in
    let high = c.requires.1.high a.i a.j (omega arith) c.requires.3 (omega arith) in
    let low = c.requires.1.low a.i a.j (omega arith) c.requires.3 (omega arith) in
    rw c.cell_at.ensures.0 (refl, high, low)
