-- A refusal of opening is passed on; the rows of a block that opens can be measured.
use mathlib.Core.Path.{sym, ap, ◌∙◌}
use Rattle.std.specs.Prelude.{Ok}
use Rattle.std.proofs.lemmas.Result.{err_from_is_err_and}
use Rattle.answers.specs.Answers.{gives}
use Rattle.answers.proofs.Refusals.{given_done, refused_same}
use Rattle.layout.specs.Layout.{fields_of}
use Rattle.block.specs.Opening.{open_answer}
use Rattle.summary.specs.Summary.{summary_of}
use Rattle.calls.specs.Summarising.{summary_gives}
use Rattle.patch.proofs.summary.Goals as goal

pub returns-in_err-opening : goal.returns-in_err-opening
unfolding summary_gives
returns-in_err-opening c =
    let p = err_from_is_err_and c.from_residual.result c.from_residual.ensures.1 in
    let block = c.args.block.now in
    rw (p.1, p.2) (sym (refused_same (open_answer block) tt (summary_of (fields_of block)) (sym c.opening.ensures ∙ c.in_err-opening.was)))

pub of_block-requires : goal.of_block-requires
of_block-requires c = given_done (open_answer c.args.block.now) tt tt (sym c.opening.ensures ∙ c.in_ok-opening.was)

pub returns : goal.returns
unfolding summary_gives
returns c =
    let block = c.args.block.now in
    let opens = given_done (open_answer block) tt tt (sym c.opening.ensures ∙ c.in_ok-opening.was) in
    ap Ok (c.summary_of.ensures ∙ ap summary_of c.of_block.ensures)
    ∙ sym (ap (λ n. gives n (summary_of (fields_of block))) opens)
