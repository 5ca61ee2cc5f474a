-- `store_page` leaves on another length; then it writes the page row, or hands on the refusal.
use mathlib.Core.Path.{sym, ap, ◌∙◌}
use Rattle.answers.specs.Answers.{number_of}
use Rattle.elements.specs.Elements.{page_over}
use Rattle.elements.proofs.LengthFirst.{other_length, right_length}
use Rattle.elements.proofs.store_page.Goals as goal

pub returns-then-row-ne-PAGE_ELEMENTS : goal.returns-then-row-ne-PAGE_ELEMENTS
returns-then-row-ne-PAGE_ELEMENTS c =
    let both =
    other_length _ _ _ c.args.row.now c.if-row-ne-PAGE_ELEMENTS.true in
    record { answer = both.0; elements = both.1 }

pub returns-in-Ok : goal.returns-in-Ok
returns-in-Ok c =
    let out = c.args.row.now in
    let given = c.in-Ok.is in
    let both =
    right_length _ _ _ out c.if-row-ne-PAGE_ELEMENTS.false (sym (ap number_of given)) (c.put_page.ensures ∙ ap (page_over out) (sym given)) in
    record { answer = both.0; elements = both.1 }

pub returns-in-Err : goal.returns-in-Err
returns-in-Err c =
    let out = c.args.row.now in
    let given = c.in-Err.is in
    let both =
    right_length _ _ _ out c.if-row-ne-PAGE_ELEMENTS.false (sym (ap number_of given)) (ap (page_over out) (sym given)) in
    record { answer = both.0; elements = both.1 }
