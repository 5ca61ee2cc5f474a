-- Both lengths are tested first; what is left is the answer of opening.
use mathlib.Core.Path.{sym, ap, ◌∙◌}
use Rattle.answers.specs.Answers.{answer_of}
use Rattle.calls.proofs.CallTests.{out_opened}
use Rattle.edge.proofs.EdgeAnswers.{block_1, out_1}
use Rattle.edge.proofs.blocks_answer.Goals as goal

pub returns-then-block-ne-BLOCK_BYTES : goal.returns-then-block-ne-BLOCK_BYTES
returns-then-block-ne-BLOCK_BYTES c =
    let a = c.args in
    ap answer_of (sym (block_1 a.block.now a.out.now c.if-block-ne-BLOCK_BYTES.true))

pub returns-then-out-ne-BLOCK_BYTES : goal.returns-then-out-ne-BLOCK_BYTES
returns-then-out-ne-BLOCK_BYTES c =
    let a = c.args in
    ap answer_of (sym (out_1 a.block.now a.out.now c.if-block-ne-BLOCK_BYTES.false c.if-out-ne-BLOCK_BYTES.true))

pub returns : goal.returns
returns c =
    let a = c.args in
    c.opening.ensures ∙ ap answer_of (sym (out_opened a.block.now a.out.now c.if-out-ne-BLOCK_BYTES.false))
