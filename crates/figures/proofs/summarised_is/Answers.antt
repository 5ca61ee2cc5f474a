-- The answer, then the summary.
use mathlib.Core.Path.{◌≡◌, ◌∙◌}
use Rattle.std.proofs.Common.{rules}
use Rattle.figures.specs.Figures.{summary_is}
use Rattle.figures.proofs.AnswerFirst.{given_is, both_summary, same_answer, other_answer}
use Rattle.figures.proofs.summarised_is.Goals as goal

pub returns-then-answer_is : goal.returns-then-answer_is
returns-then-answer_is c =
    let stored = c.args.stored.now in
    let given : c.map_or.result ≡ given_is (λ summary. summary_is summary stored) c.args.summarised = search rules in
    same_answer c.answer_is.ensures c.if-answer_is.true given ∙ both_summary c.args.summarised stored

pub returns-else-answer_is : goal.returns-else-answer_is
returns-else-answer_is c =
    other_answer _ c.answer_is.ensures c.if-answer_is.false ∙ both_summary c.args.summarised c.args.stored.now
