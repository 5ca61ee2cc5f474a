-- `score::score_of` is the largest n that is reached: it stays at or over `low` and below `high`, which close in on it.
use Prim.Native.Nat.{◌+◌, ◌/◌}
use mathlib.Core.Path.{sym, ◌∙◌}
use native.Mathlib.Omega.{arith}
use borrow.Author.Tests.{leb-true, leb-false}
use Rattle.score.proofs.ScoreLargest.{size_score_within, size_score_largest, size_score_below}
use Rattle.score.proofs.score_of.Goals as goal

pub loop-low-init : goal.loop-low-init
loop-low-init c =
    let a = c.args in
    let within = size_score_within a.num a.den in
    (omega arith, omega arith, omega arith)

pub loop-low-preserved-then-reaches : goal.loop-low-preserved-then-reaches
loop-low-preserved-then-reaches c =
    let a = c.args in
    let middle = (c.loop-low.low + c.loop-low.high) / 2 in
    let reached = leb-true _ _ (sym c.reaches.ensures ∙ c.if-reaches.true) in
    (size_score_largest a.num a.den middle (omega arith) reached, omega arith, omega arith)

pub loop-low-preserved : goal.loop-low-preserved
loop-low-preserved c =
    let a = c.args in
    let middle = (c.loop-low.low + c.loop-low.high) / 2 in
    let above = leb-false _ _ (sym c.reaches.ensures ∙ c.if-reaches.false) in
    (omega arith, size_score_below a.num a.den middle above, omega arith)
