-- The seven numbers, one after the other.
use mathlib.Core.Path.{◌≡◌, ap, ◌∙◌}
use mathlib.Core.Bool.{not}
use Rattle.std.specs.Prelude.{option_map}
use Rattle.std.proofs.Common.{rules}
use Rattle.std.proofs.lemmas.Iterator.Adapters.{option_map_id}
use Rattle.figures.specs.Figures.{number_is, summary_is}
use Rattle.expected.proofs.TestsInTurn.{fails, passes, failed, passed, unlike, alike, at_two}
use Rattle.figures.proofs.summary_is.Goals as goal

pub returns-then-summary-figure : goal.returns-then-summary-figure
unfolding summary_is
returns-then-summary-figure c = fails _ (unlike c.figure.ensures c.if-summary-figure.true)

pub returns-then-summary-figure-2 : goal.returns-then-summary-figure-2
unfolding summary_is
returns-then-summary-figure-2 c =
    fails _ (unlike c.figure-2.ensures c.if-summary-figure-2.true) ∙ passes (alike c.figure.ensures c.if-summary-figure.false)

pub returns-then-summary-figure-3 : goal.returns-then-summary-figure-3
unfolding summary_is
returns-then-summary-figure-3 c =
    fails _ (unlike c.figure-3.ensures c.if-summary-figure-3.true)
    ∙ passes (alike c.figure-2.ensures c.if-summary-figure-2.false)
    ∙ passes (alike c.figure.ensures c.if-summary-figure.false)

pub returns-then-not-number_is : goal.returns-then-not-number_is
unfolding summary_is
returns-then-not-number_is c =
    let score : c.map.result ≡ option_map (λ score. score.value) c.args.summary.worst = search rules in
    let is = at_two (number_is (option_map (λ score. score.value) c.args.summary.worst)) (rw score at c.number_is.ensures) c.figure-4.ensures c.figure-5.ensures in
    fails _ (failed is (ap not c.if-not-number_is.true))
    ∙ passes (alike c.figure-3.ensures c.if-summary-figure-3.false)
    ∙ passes (alike c.figure-2.ensures c.if-summary-figure-2.false)
    ∙ passes (alike c.figure.ensures c.if-summary-figure.false)

pub returns : goal.returns
unfolding summary_is
returns c =
    let summary = c.args.summary in
    let score : c.map.result ≡ option_map (λ score. score.value) summary.worst = search rules in
    let octave : c.map-2.result ≡ option_map (λ n. n) summary.octave = search rules in
    let is = at_two (number_is (option_map (λ score. score.value) summary.worst)) (rw score at c.number_is.ensures) c.figure-4.ensures c.figure-5.ensures in
    at_two (number_is summary.octave) (rw (octave ∙ option_map_id summary.octave) at c.number_is-2.ensures) c.figure-6.ensures c.figure-7.ensures
    ∙ passes (passed is (ap not c.if-not-number_is.false))
    ∙ passes (alike c.figure-3.ensures c.if-summary-figure-3.false)
    ∙ passes (alike c.figure-2.ensures c.if-summary-figure-2.false)
    ∙ passes (alike c.figure.ensures c.if-summary-figure.false)
