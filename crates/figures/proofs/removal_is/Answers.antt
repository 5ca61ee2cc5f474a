-- The answer, then the page row.
use mathlib.Core.Path.{◌≡◌, ◌∙◌}
use Rattle.std.proofs.Common.{rules}
use Rattle.figures.specs.Figures.{page_is}
use Rattle.figures.proofs.AnswerFirst.{given_is, both_removal, same_answer, other_answer}
use Rattle.figures.proofs.removal_is.Goals as goal

pub returns-then-answer_is : goal.returns-then-answer_is
returns-then-answer_is c =
    let stored = c.args.stored.now in
    let given : c.map_or.result ≡ given_is (λ page. page_is page stored) c.args.removal = search rules in
    same_answer c.answer_is.ensures c.if-answer_is.true given ∙ both_removal c.args.removal stored

pub returns-else-answer_is : goal.returns-else-answer_is
returns-else-answer_is c =
    other_answer _ c.answer_is.ensures c.if-answer_is.false ∙ both_removal c.args.removal c.args.stored.now
