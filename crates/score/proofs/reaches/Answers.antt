-- `score::reaches` is the test of the score's definition: n³ ≤ 10^9 fits, and "not less" turned round is "at most".
use Prim.Native.Nat.{ℕ, ◌*◌, ◌^◌, ◌≤◌, ◌<◌}
use mathlib.Core.Bool.{Bool, true, false, not}
use mathlib.Core.Path.{◌≡◌, sym, ap, ap₂, ◌∙◌}
use native.Mathlib.Nat.{mul_comm, mul-le-mul}
use native.Mathlib.Omega.{arith}
use lib.Dec.{T, leb, ltb, ltb→lt, nltb→le}
use borrow.Author.Tests.{le-leb, lt-leb}
use Rattle.exact.specs.Fractions.{is_less}
use Rattle.score.specs.Score.{highest_score, score_factor}
use Rattle.volume.proofs.PointPolynomials.{cube_is}
use Rattle.score.proofs.reaches.Goals as goal

square_small : (n : ℕ) → n ≤ highest_score → n * n ≤ 1000000
square_small n h = mul-le-mul h h

cube_small : (n : ℕ) → n ≤ highest_score → n * n * n ≤ score_factor
cube_small n h = mul-le-mul (square_small n h) h

not_less : (a b : ℕ) → not (ltb a b) ≡ leb b a
not_less a b = go (ltb a b) (ltb→lt a b) (nltb→le a b)
  where
    go : (x : Bool) → (T x → a < b) → (T (not x) → b ≤ a) → not x ≡ leb b a
    go true f g = sym (lt-leb b a (f tt))
    go false f g = sym (le-leb b a (g tt))

told : (num den n : ℕ) {x : Bool} → x ≡ is_less num den (n * n * n) score_factor → not x ≡ leb (n ^ 3 * den) (score_factor * num)
told num den n e =
    ap not e
    ∙ not_less (num * score_factor) (n * n * n * den)
    ∙ ap₂ leb (ap (λ (x : ℕ). x * den) (sym (cube_is n))) (mul_comm num score_factor)

pub overflow_mul-root : goal.overflow_mul-root
overflow_mul-root c = omega (arith, square_small c.args.n c.requires)

pub overflow_mul-root-2 : goal.overflow_mul-root-2
overflow_mul-root-2 c = omega (arith, cube_small c.args.n c.requires)

pub returns : goal.returns
returns c = let a = c.args in told a.num a.den a.n c.less.ensures
