-- The length and the sums are tested first; what is left is the answer to the body.
use mathlib.Core.Path.{sym, ap, ◌∙◌}
use Rattle.answers.specs.Answers.{answer_of}
use Rattle.block.proofs.AnswersDecided.{open_1, open_2, open_body}
use Rattle.block.proofs.opening.Goals as goal

pub returns-then-block-ne-BLOCK_BYTES : goal.returns-then-block-ne-BLOCK_BYTES
returns-then-block-ne-BLOCK_BYTES c = ap answer_of (sym (open_1 c.args.block.now c.if-block-ne-BLOCK_BYTES.true))

pub returns-then-sum_wrong : goal.returns-then-sum_wrong
returns-then-sum_wrong c =
    ap answer_of (sym (open_2 c.args.block.now c.if-block-ne-BLOCK_BYTES.false (sym c.sum_wrong.ensures ∙ c.if-sum_wrong.true)))

pub returns : goal.returns
returns c =
    c.body_answer.ensures
    ∙ ap answer_of (sym (open_body c.args.block.now c.if-block-ne-BLOCK_BYTES.false
    (sym c.sum_wrong.ensures ∙ c.if-sum_wrong.false)))
