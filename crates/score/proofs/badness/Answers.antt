-- `score::badness` is `badness`, kind by kind.
use mathlib.Core.Path.{sym, ◌∙◌}
use Rattle.score.specs.Score.{badness}
use Rattle.score.proofs.badness.Goals as goal

pub returns-in-Upright : goal.returns-in-Upright
unfolding badness
returns-in-Upright c =
    rw (
      sym c.kind-kind.ensures ∙ c.in-Upright.is,
      c.rounded_up.ensures,
      c.den-den.ensures,
      c.num-num.ensures,
    )

pub returns-in-Flat : goal.returns-in-Flat
unfolding badness
returns-in-Flat c = rw (sym c.kind-kind.ensures ∙ c.in-Flat.is)

pub returns-in-Inverted : goal.returns-in-Inverted
unfolding badness
returns-in-Inverted c = rw (sym c.kind-kind.ensures ∙ c.in-Inverted.is)
