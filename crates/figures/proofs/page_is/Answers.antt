-- The two sizes, one after the other.
use mathlib.Core.Bool.{not}
use mathlib.Core.Path.{ap, ◌∙◌}
use Rattle.figures.specs.Figures.{has_bits, page_is}
use Rattle.expected.proofs.TestsInTurn.{fails, passes, failed, passed}
use Rattle.figures.proofs.page_is.Goals as goal

pub returns-then-not-has_bits : goal.returns-then-not-has_bits
unfolding page_is
returns-then-not-has_bits c =
    let a = c.args in
    fails _ (failed (c.has_bits.ensures ∙ ap (has_bits a.page.before) c.figure.ensures) (ap not c.if-not-has_bits.true))

pub returns : goal.returns
unfolding page_is
returns c =
    let a = c.args in
    c.has_bits-2.ensures
    ∙ ap (has_bits a.page.after) c.figure-2.ensures
    ∙ passes (passed (c.has_bits.ensures ∙ ap (has_bits a.page.before) c.figure.ensures) (ap not c.if-not-has_bits.false))
