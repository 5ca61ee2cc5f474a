use Prim.Native.Nat.{◌+◌, ◌-◌, ◌≤◌, ◌<◌}
use Rattle.score.specs.Score.{highest_score}
use Rattle.score.proofs.ScoreLargest.{score_of_size}
use Rattle.score.proofs.score_of.Given as goal

abbrev pub invariant-loop-low : goal.invariant-loop-low
invariant-loop-low l =
    (l.low ≤ score_of_size l.num l.den) × (score_of_size l.num l.den < l.high) × (l.high ≤ highest_score + 1)

abbrev pub decreases-loop-low : goal.decreases-loop-low
decreases-loop-low l = l.high - l.low
