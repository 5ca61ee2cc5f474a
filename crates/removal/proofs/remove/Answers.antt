-- A refusal, of the blocks or of the attempt, keeps the output; with answer 0 the rows are written in their place, and the block is finished.
use mathlib.Core.Path.{sym, ◌∙◌}
use native.Mathlib.Omega.{arith}
use Rattle.std.proofs.lemmas.Result.{err_from_is_err_and}
use Rattle.layout.proofs.BytesOfSlices.{all_bytes}
use Rattle.calls.proofs.CallTests.{opened}
use Rattle.outcome.proofs.RowsAfterwards.{few_afterwards}
use Rattle.removal.proofs.RemovalAnswers.{refusal_gives, refusal_keeps, front_refuses, attempt_refuses, done_gives}
use Rattle.removal.proofs.RemovalWritten.{done_bytes}
use Rattle.removal.proofs.remove.Goals as goal

pub returns-in_err-blocks_answer : goal.returns-in_err-blocks_answer
returns-in_err-blocks_answer c =
    let args = c.args in
    let p = err_from_is_err_and c.from_residual.result c.from_residual.ensures.1 in
    let refused = front_refuses args.block.now args.out.now args.e args.f (sym c.blocks_answer.ensures ∙ c.in_err-blocks_answer.was) in
    record {
      gives = rw (p.1, p.2) (refusal_gives args.block.now args.out.now args.e args.f refused);
      bytes = refusal_keeps args.block.now args.out.now args.e args.f refused;
    }

pub attempt-requires : goal.attempt-requires
attempt-requires c = (opened c.args.block.now c.args.out.now (sym c.blocks_answer.ensures ∙ c.in_ok-blocks_answer.was)).0

pub returns-in_err-tried : goal.returns-in_err-tried
returns-in_err-tried c =
    let args = c.args in
    let (opens, size) = opened args.block.now args.out.now (sym c.blocks_answer.ensures ∙ c.in_ok-blocks_answer.was) in
    let p = err_from_is_err_and c.from_residual-in_err-tried.result c.from_residual-in_err-tried.ensures.1 in
    let refused = attempt_refuses args.block.now args.out.now args.e args.f opens size c.in_err-tried.ensures in
    record {
      gives = rw (p.1, p.2) (refusal_gives args.block.now args.out.now args.e args.f refused);
      bytes = refusal_keeps args.block.now args.out.now args.e args.f refused;
    }

pub carry_through-after-requires : goal.carry_through-after-requires
carry_through-after-requires c = record {
  block_value = opened c.args.block.now c.args.out.now (sym c.blocks_answer.ensures ∙ c.in_ok-blocks_answer.was);
  replaceable = c.in_ok-tried.ensures.1;
}

pub finish-requires : goal.finish-requires
finish-requires c =
    let args = c.args in
    let (opens, size) = opened args.block.now args.out.now (sym c.blocks_answer.ensures ∙ c.in_ok-blocks_answer.was) in (
      omega (arith, c.carry_through-after.auto.out),
      omega (arith, c.carry_through-after.ensures.number, few_afterwards args.block.now args.e args.f c.in_ok-tried.ensures.1),
    )

pub returns : goal.returns
returns c =
    let args = c.args in
    let (opens, size) = opened args.block.now args.out.now (sym c.blocks_answer.ensures ∙ c.in_ok-blocks_answer.was) in
    record {
      gives =
          done_gives args.block.now args.out.now args.e args.f opens size _ c.in_ok-tried.ensures _ _ _ c.carry_through-after.ensures;
      bytes =
          done_bytes args.block.now args.out.now args.e args.f opens size _ c.in_ok-tried.ensures _ _ c.carry_through-after.ensures
          (all_bytes args.block.now c.type_inv.block) _ c.finish.ensures;
    }
