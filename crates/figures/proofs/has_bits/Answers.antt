-- What equals itself is a number, and only that has bits.
use Prim.Native.Nat.{◌*◌}
use mathlib.Core.Bool.{true, false}
use mathlib.Core.Path.{◌≡◌, refl, sym}
use borrow.Author.Tests.{eq-eqb}
use lib.Ieee.{Float, nan, inf, fin, eq, is_nan, up, down}
use Rattle.figures.proofs.has_bits.Goals as goal

-- what equals itself is no NaN
number : (x : Float) → eq x x ≡ true → is_nan x ≡ false
unfolding eq is_nan
number nan e = sym e
number (inf s) e = refl
number (fin s m d) e = refl

-- what does not is one
none : (x : Float) → eq x x ≡ false → is_nan x ≡ true
unfolding eq is_nan
none nan e = refl
none (inf true) e = sym e
none (inf false) e = sym e
none (fin true m d) e = rw (eq-eqb (m * up d * down d) _ refl) at (sym e)
none (fin false m d) e = rw (eq-eqb (m * up d * down d) _ refl) at (sym e)

pub float_to_bits-result : goal.float_to_bits-result
float_to_bits-result c = rw (number c.args.size c.if-size.true) tt

pub returns-then-size : goal.returns-then-size
returns-then-size c = rw (number c.args.size c.if-size.true)

pub returns : goal.returns
returns c = rw (none c.args.size c.if-size.false)
