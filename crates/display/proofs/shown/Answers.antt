-- Another length and a refusal of opening are handed on; the rows of a block that opens can be measured and shown.
use mathlib.Core.Path.{sym, ap, ◌∙◌}
use Rattle.std.proofs.lemmas.Result.{err_from_is_err_and}
use Rattle.display.specs.Display.{shown_of}
use Rattle.display.proofs.ShownRows.{other_length, not_opened, opens, few_measured, elements_written}
use Rattle.display.proofs.shown.Goals as goal

pub returns-then-out-ne-MAX_ROWS : goal.returns-then-out-ne-MAX_ROWS
returns-then-out-ne-MAX_ROWS c =
    let a = c.args in
    let both = other_length a.block.now a.out.now c.if-out-ne-MAX_ROWS.true in
    record { answer = both.0; elements = both.1 }

pub returns-in_err-opening : goal.returns-in_err-opening
returns-in_err-opening c =
    let a = c.args in
    let p = err_from_is_err_and c.from_residual.result c.from_residual.ensures.1 in
    let both = not_opened a.block.now a.out.now c.if-out-ne-MAX_ROWS.false _ (sym c.opening.ensures ∙ c.in_err-opening.was) in
    record { answer = rw (p.1, p.2) both.0; elements = both.1 }

pub of_block-requires : goal.of_block-requires
of_block-requires c = opens c.args.block.now c.args.out.now c.if-out-ne-MAX_ROWS.false (sym c.opening.ensures ∙ c.in_ok-opening.was)

pub put_elements-requires : goal.put_elements-requires
put_elements-requires c =
    let a = c.args in
    let few = few_measured a.block.now a.out.now c.if-out-ne-MAX_ROWS.false (sym c.opening.ensures ∙ c.in_ok-opening.was) c.of_block.result c.of_block.ensures in
    (few, c.if-out-ne-MAX_ROWS.false)

pub returns : goal.returns
returns c =
    let a = c.args in
    let both =
    elements_written a.block.now a.out.now c.if-out-ne-MAX_ROWS.false (sym c.opening.ensures ∙ c.in_ok-opening.was) _
    (c.put_elements.ensures ∙ ap shown_of c.of_block.ensures) in
    record { answer = both.0; elements = both.1 }
