-- `flip` passes on a refusal of the blocks; two numbers go to the flip of an edge, three to that of a face, and any other count gets 21.
use mathlib.Core.Path.{sym, ◌∙◌}
use native.Mathlib.Omega.{arith}
use Rattle.std.proofs.lemmas.Result.{err_from_is_err_and}
use Rattle.calls.proofs.CallTests.{opened}
use Rattle.calls.proofs.FlipTold.{flip_blocked, flip_21}
use Rattle.flip.proofs.flip.Goals as goal

pub returns-in_err-blocks_answer : goal.returns-in_err-blocks_answer
returns-in_err-blocks_answer c =
    let a = c.args in
    let p = err_from_is_err_and c.from_residual.result c.from_residual.ensures.1 in
    let both = flip_blocked a.block.now a.out.now a.numbers.now _ (sym c.blocks_answer.ensures ∙ c.in_err-blocks_answer.was) in
    record { answer = rw (p.1, p.2) both.0; bytes = both.1 }

pub flip_edge-requires : goal.flip_edge-requires
flip_edge-requires c = opened c.args.block.now c.args.out.now (sym c.blocks_answer.ensures ∙ c.in_ok-blocks_answer.was)

pub flip_face-requires : goal.flip_face-requires
flip_face-requires c = opened c.args.block.now c.args.out.now (sym c.blocks_answer.ensures ∙ c.in_ok-blocks_answer.was)

pub returns-in_default : goal.returns-in_default
returns-in_default c =
    let a = c.args in
    let (right, size) = opened a.block.now a.out.now (sym c.blocks_answer.ensures ∙ c.in_ok-blocks_answer.was) in
    let both = flip_21 a.block.now a.out.now a.numbers.now right size (λ two. omega arith) (λ three. omega arith) in
    record { answer = both.0; bytes = both.1 }

pub returns-in_default-2 : goal.returns-in_default-2
returns-in_default-2 c =
    let a = c.args in
    let (opens, size) = opened a.block.now a.out.now (sym c.blocks_answer.ensures ∙ c.in_ok-blocks_answer.was) in
    let both = flip_21 a.block.now a.out.now a.numbers.now opens size (λ two. omega arith) (λ three. omega arith) in
    record { answer = both.0; bytes = both.1 }
