-- Each of the three tests that led to an answer decides it.
use mathlib.Core.Path.{sym, ◌∙◌}
use Rattle.body.specs.Body.{zero_missing}
use Rattle.body.proofs.zero_missing.Goals as goal

pub returns-then-not_zero : goal.returns-then-not_zero
unfolding zero_missing
returns-then-not_zero c = rw (sym c.not_zero.ensures ∙ c.if-not_zero.true)

pub returns-then-not_zero-2 : goal.returns-then-not_zero-2
unfolding zero_missing
returns-then-not_zero-2 c =
    let first = sym c.not_zero.ensures ∙ c.if-not_zero.false in
    let second = sym c.not_zero-2.ensures ∙ c.if-not_zero-2.true in
    rw (first, second)

pub returns : goal.returns
unfolding zero_missing
returns c =
    let first = sym c.not_zero.ensures ∙ c.if-not_zero.false in
    let second = sym c.not_zero-2.ensures ∙ c.if-not_zero-2.false in
    rw (first, second) c.not_zero-3.ensures
