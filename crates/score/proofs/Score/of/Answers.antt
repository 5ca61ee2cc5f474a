-- `Score::of` is `score`, kind by kind.
use Prim.Native.Nat.{min}
use mathlib.Core.Path.{◌≡◌, sym, ◌∙◌}
use native.Mathlib.Omega.{arith}
use Rattle.score.specs.Score.{highest_score, score_of}
use Rattle.score.proofs.ScoreLargest.{score_of_size, size_score_within}
use Rattle.score.proofs.Score.of.Goals as goal

pub returns-in-Upright : goal.returns-in-Upright
unfolding score_of
returns-in-Upright c =
    let q = c.args.quality in
    let within : min (score_of_size q.num q.den) highest_score ≡ score_of_size q.num q.den =
    omega (arith, size_score_within q.num q.den) in
    c.at.ensures
    ∙ rw (
      sym c.kind-kind.ensures ∙ c.in-Upright.is,
      c.score_of.ensures,
      c.num.ensures,
      c.den.ensures,
      within,
    )

pub returns-in-Flat : goal.returns-in-Flat
unfolding score_of
returns-in-Flat c = rw (sym c.kind-kind.ensures ∙ c.in-Flat.is)

pub returns-in-Inverted : goal.returns-in-Inverted
unfolding score_of
returns-in-Inverted c = rw (sym c.kind-kind.ensures ∙ c.in-Inverted.is)
