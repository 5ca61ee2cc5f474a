-- `Score::at` is `score_at`: the code's test tells which of the two is the smaller.
use Prim.Native.Nat.{min}
use mathlib.Core.Path.{◌≡◌, ap}
use native.Mathlib.Omega.{arith}
use Rattle.score.specs.Score.{highest_score}
use Rattle.score.proofs.Score.at.Goals as goal

pub returns-then-n : goal.returns-then-n
returns-then-n c =
    let e : highest_score ≡ min c.args.n highest_score = omega (arith, c.if-n.true) in
    ap (λ n. record { value = n }) e

pub returns : goal.returns
returns c =
    let e : c.args.n ≡ min c.args.n highest_score = omega (arith, c.if-n.false) in
    ap (λ n. record { value = n }) e
