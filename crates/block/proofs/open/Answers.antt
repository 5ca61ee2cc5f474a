-- With answer 0 the fields are those of the block; a refusal is passed on.
use mathlib.Core.Path.{sym, ap, ◌∙◌}
use native.Mathlib.Omega.{arith}
use Rattle.std.specs.Prelude.{Ok}
use Rattle.std.proofs.lemmas.Result.{err_from_is_err_and}
use Rattle.answers.proofs.Refusals.{given_done, refused_same}
use Rattle.layout.specs.Layout.{open_fields}
use Rattle.block.specs.Opening.{open_answer, open_gives}
use Rattle.block.proofs.OpenedAndSealed.{open_fields_lem}
use Rattle.block.proofs.RightBlocks.{right_block}
use Rattle.block.proofs.open.Goals as goal

pub returns-in_err-opening : goal.returns-in_err-opening
unfolding open_gives
returns-in_err-opening c =
    let p = err_from_is_err_and c.from_residual.result c.from_residual.ensures.1 in
    let block = c.args.block.now in
    rw (p.1, p.2) (sym (refused_same (open_answer block) tt (open_fields block) (sym c.opening.ensures ∙ c.in_err-opening.was)))

pub fields_of-requires : goal.fields_of-requires
fields_of-requires c =
    let block = c.args.block.now in
    let size = (right_block block (given_done (open_answer block) tt tt (sym c.opening.ensures ∙ c.in_ok-opening.was))).size in
    omega (arith, size)

pub returns : goal.returns
returns c =
    let block = c.args.block.now in
    let opens = given_done (open_answer block) tt tt (sym c.opening.ensures ∙ c.in_ok-opening.was) in
    ap Ok c.fields_of.ensures ∙ sym (open_fields_lem block opens)
