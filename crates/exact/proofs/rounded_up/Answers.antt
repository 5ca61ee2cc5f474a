-- `exact::rounded_up` is `rounded_up`: the two tests of the code are those of the definition.
use Prim.Native.Nat.{ℕ, ◌/◌, ◌%◌, ◌<◌}
use native.Mathlib.Nat.{div-add-mod', mul-le-mul_left}
use native.Mathlib.Omega.{arith}
use borrow.Author.Tests.{eq-eqb, ne_eqb}
use Rattle.exact.specs.Fractions.{rounded_up}
use Rattle.exact.proofs.rounded_up.Goals as goal

-- where a remainder is left, the whole part has room for one more
room : (n d : ℕ) → 0 < d → 0 < n % d → n / d < n
room n d p r = omega (arith, div-add-mod' n d, mul-le-mul_left (n / d) p)

pub returns-then-d-eq0 : goal.returns-then-d-eq0
unfolding rounded_up
returns-then-d-eq0 c = simp (eq-eqb _ _ c.if-d-eq0.true)

pub returns-then-n-d-eq0 : goal.returns-then-n-d-eq0
unfolding rounded_up
returns-then-n-d-eq0 c = simp (ne_eqb _ _ c.if-d-eq0.false, eq-eqb _ _ c.if-n-d-eq0.true) (omega arith)

pub overflow_add-result : goal.overflow_add-result
overflow_add-result c =
    let a = c.args in
    omega (arith, room a.n a.d (omega arith) (omega arith))

pub returns : goal.returns
unfolding rounded_up
returns c = simp (ne_eqb _ _ c.if-d-eq0.false, ne_eqb _ _ c.if-n-d-eq0.false) (omega arith)
