-- `Shown::of` is near the quality: it is what is shown of it, kind by kind, and both numbers fit 64 bits.
use Rattle.std.proofs.Common.{sym, ◌∙◌}
use Rattle.page.specs.declared.Shown.TheVariants.{Upright, Inverted}
use Rattle.page.specs.Page.{shown}
use Rattle.page.proofs.NearlyExact.{is_near}
use Rattle.page.proofs.Shown.of.Goals as goal

pub returns-in-Upright-clause-near : goal.returns-in-Upright-clause-near
unfolding shown
returns-in-Upright-clause-near c =
    is_near c.args.quality (Upright c.quotient.result) c.num-num.ensures c.num-num.type_inv c.den-den.ensures c.den-den.type_inv
    (rw (sym c.kind.ensures ∙ c.in-Upright.is, c.quotient.ensures, c.num-num.ensures, c.den-den.ensures))

pub returns-in-Inverted-clause-near : goal.returns-in-Inverted-clause-near
unfolding shown
returns-in-Inverted-clause-near c =
    is_near c.args.quality (Inverted c.quotient-in-Inverted.result) c.num-num.ensures c.num-num.type_inv c.den-den.ensures c.den-den.type_inv
    (rw (sym c.kind.ensures ∙ c.in-Inverted.is, c.quotient-in-Inverted.ensures, c.num-num.ensures, c.den-den.ensures))
