-- A refusal keeps the output; with answer 0 the body is copied to its front and the sums are written behind it.
use Prim.Native.Nat.{ℕ}
use mathlib.Core.List.{List, ◌++◌}
use mathlib.Core.Path.{◌≡◌, sym, ap, ◌∙◌}
use native.Mathlib.Omega.{arith}
use lib.ListN.{length, take, drop}
use lib.Seq.{take_at}
use Rattle.std.specs.Prelude.{Result, Ok, Err}
use Rattle.std.proofs.lemmas.Result.{err_from_is_err_and}
use Rattle.answers.specs.declared.Refusal.{Refusal}
use Rattle.answers.specs.Answers.{answer_of}
use Rattle.answers.proofs.Refusals.{given_done, given_refused}
use Rattle.layout.specs.Layout.{block_bytes, body_bytes, sealed}
use Rattle.body.proofs.BodyAnswers.{answer_to}
use Rattle.block.specs.Opening.{seal_answer, seal_bytes}
use Rattle.block.proofs.OpenedAndSealed.{seal_writes, seal_keeps}
use Rattle.block.proofs.AnswersDecided.{seal_1_body, seal_1_out, seal_body}
use Rattle.block.proofs.seal.Goals as goal

module _ (body out : List ℕ) where
  -- what a call of sealing says of its answer and of the output afterwards
  abbrev Said : Result (Unit {0}) Refusal → List ℕ → Type 0
  Said answer after = (answer ≡ answer_of (seal_answer body out)) × (after ≡ seal_bytes body out)

  refused_1 : seal_answer body out ≡ 1 → Said (Err (record { number = 1 })) out
  refused_1 e = (ap answer_of (sym e), sym (seal_keeps body out (λ z. omega arith)))

  refused : (refusal : Refusal) → length body ≡ body_bytes → length out ≡ block_bytes → answer_to body ≡ Err refusal → Said (Err refusal) out
  refused refusal h k e =
      let f : answer_of (seal_answer body out) ≡ Err refusal = ap answer_of (seal_body body out h k) ∙ e in
      (sym f, sym (seal_keeps body out (given_refused (seal_answer body out) tt refusal f)))

  written_out : (copied after : List ℕ) → length body ≡ body_bytes → length out ≡ block_bytes → answer_to body ≡ Ok tt
      → copied ≡ body ++ drop (length body) out → after ≡ sealed (take body_bytes copied) → Said (Ok tt) after
  written_out copied after h k e p q =
      let f : answer_of (seal_answer body out) ≡ Ok tt = ap answer_of (seal_body body out h k) ∙ e in
      let front : take body_bytes copied ≡ body = ap (take body_bytes) p ∙ take_at body (drop (length body) out) body_bytes h in
      (sym f, q ∙ (ap sealed front ∙ sym (seal_writes body out (given_done (seal_answer body out) tt tt f))))

pub returns-then-body-ne-BODY_BYTES : goal.returns-then-body-ne-BODY_BYTES
returns-then-body-ne-BODY_BYTES c =
    let a = c.args in
    let both = refused_1 a.body.now a.out.now (seal_1_body a.body.now a.out.now c.if-body-ne-BODY_BYTES.true) in
    record { answer = both.0; bytes = both.1 }

pub returns-then-out-ne-BLOCK_BYTES : goal.returns-then-out-ne-BLOCK_BYTES
returns-then-out-ne-BLOCK_BYTES c =
    let a = c.args in
    let sealing = seal_1_out a.body.now a.out.now c.if-body-ne-BODY_BYTES.false c.if-out-ne-BLOCK_BYTES.true in
    let both = refused_1 a.body.now a.out.now sealing in
    record { answer = both.0; bytes = both.1 }

pub returns-in_err-body_answer : goal.returns-in_err-body_answer
returns-in_err-body_answer c =
    let a = c.args in
    let p = err_from_is_err_and c.from_residual.result c.from_residual.ensures.1 in
    let told = sym c.body_answer.ensures ∙ c.in_err-body_answer.was in
    let both = refused a.body.now a.out.now _ c.if-body-ne-BODY_BYTES.false c.if-out-ne-BLOCK_BYTES.false told in
    record { answer = rw (p.1, p.2) both.0; bytes = both.1 }

pub returns : goal.returns
returns c =
    let a = c.args in
    let told = sym c.body_answer.ensures ∙ c.in_ok-body_answer.was in
    let both =
    written_out a.body.now a.out.now _ _ c.if-body-ne-BODY_BYTES.false c.if-out-ne-BLOCK_BYTES.false told c.copy.ensures c.stamp.ensures in
    record { answer = both.0; bytes = both.1 }
