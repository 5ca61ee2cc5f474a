-- The answer, then the fields.
use mathlib.Core.Bool.{true}
use mathlib.Core.Path.{◌≡◌, sym, ap, ◌∙◌}
use Rattle.std.proofs.Common.{arith, eqb}
use Rattle.std.specs.Result.{result_unwrap_or}
use Rattle.answers.specs.Answers.{number_of}
use Rattle.answers.proofs.Refusals.{number_of_lem}
use Rattle.layout.specs.Layout.{open_fields}
use Rattle.block.specs.Opening.{open_answer, open_gives}
use Rattle.records.specs.Records.{answer_in}
use Rattle.expected.specs.Expected.{fields_are}
use Rattle.expected.proofs.TestsInTurn.{passes}
use Rattle.agreement.specs.Agreement.{no_fields, open_agrees}
use Rattle.agreement.proofs.open_agrees.Goals as goal

pub returns-then-answer_is : goal.returns-then-answer_is
unfolding open_agrees open_gives
returns-then-answer_is c =
    let input = c.args.input.now in
    let stored = c.args.stored.now in
    let number = ap number_of c.open-opened.ensures ∙ number_of_lem (open_answer input) (open_fields input) in
    let same : eqb (open_answer input) (answer_in stored) ≡ true =
    ap (λ n. eqb n (answer_in stored)) (sym number) ∙ sym c.answer_is.ensures ∙ c.if-answer_is.true in
    let fields = c.unwrap_or.ensures ∙ ap (λ given. result_unwrap_or given no_fields) c.open-opened.ensures in
    c.fields_are.ensures ∙ ap (λ fields. fields_are fields stored) fields ∙ passes same

pub returns-else-answer_is : goal.returns-else-answer_is
unfolding open_agrees open_gives
returns-else-answer_is c = grind (arith, number_of_lem)
