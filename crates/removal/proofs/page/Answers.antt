-- A refusal is the removal's; with answer 0 the page row is.
use Prim.Native.Nat.{ℕ}
use mathlib.Core.List.{List}
use mathlib.Core.Path.{◌≡◌, sym, ap, ◌∙◌}
use lib.ListN.{length, replicate, length-replicate}
use Rattle.std.proofs.lemmas.Result.{err_from_is_err_and}
use Rattle.answers.specs.Answers.{answer_of}
use Rattle.answers.proofs.Refusals.{given_done}
use Rattle.layout.specs.Layout.{block_bytes}
use Rattle.block.specs.Opening.{open_answer}
use Rattle.calls.proofs.CallTests.{out_opened}
use Rattle.removal.proofs.RemovalAnswers.{refusal_pages, front_refuses, attempt_refuses, done_pages}
use Rattle.removal.proofs.page.Goals as goal

-- the block of the call's own, before it is begun
abbrev blank : List ℕ
blank = replicate block_bytes 0

blank_size : length blank ≡ block_bytes
blank_size = length-replicate {A = ℕ} block_bytes 0

pub returns-in_err-opening : goal.returns-in_err-opening
returns-in_err-opening c =
    let args = c.args in
    let p = err_from_is_err_and c.from_residual.result c.from_residual.ensures.1 in
    rw (p.1, p.2) (refusal_pages args.block.now blank args.e args.f
    (front_refuses args.block.now blank args.e args.f
    (ap answer_of (out_opened args.block.now blank blank_size) ∙ sym c.opening.ensures ∙ c.in_err-opening.was)))

pub attempt-requires : goal.attempt-requires
attempt-requires c = given_done (open_answer c.args.block.now) tt tt (sym c.opening.ensures ∙ c.in_ok-opening.was)

pub returns-in_err-tried : goal.returns-in_err-tried
returns-in_err-tried c =
    let args = c.args in
    let opens = given_done (open_answer args.block.now) tt tt (sym c.opening.ensures ∙ c.in_ok-opening.was) in
    let p = err_from_is_err_and c.from_residual-in_err-tried.result c.from_residual-in_err-tried.ensures.1 in
    rw (p.1, p.2) (refusal_pages args.block.now blank args.e args.f
    (attempt_refuses args.block.now blank args.e args.f opens blank_size c.in_err-tried.ensures))

pub carry_through-after-requires : goal.carry_through-after-requires
carry_through-after-requires c = record {
  block_value = (given_done (open_answer c.args.block.now) tt tt (sym c.opening.ensures ∙ c.in_ok-opening.was), blank_size);
  replaceable = c.in_ok-tried.ensures.1;
}

pub returns : goal.returns
returns c =
    let args = c.args in
    let opens = given_done (open_answer args.block.now) tt tt (sym c.opening.ensures ∙ c.in_ok-opening.was) in
    done_pages args.block.now blank args.e args.f opens blank_size _ c.in_ok-tried.ensures _ _ _ c.carry_through-after.ensures
