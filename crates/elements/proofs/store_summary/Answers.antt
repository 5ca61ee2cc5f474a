-- `store_summary` leaves on another length; then it writes the summary, or hands on the refusal.
use mathlib.Core.Path.{sym, ap, ◌∙◌}
use Rattle.answers.specs.Answers.{number_of}
use Rattle.elements.specs.Elements.{summary_over}
use Rattle.elements.proofs.LengthFirst.{other_length, right_length}
use Rattle.elements.proofs.store_summary.Goals as goal

pub returns-then-out-ne-SUMMARY_ELEMENTS : goal.returns-then-out-ne-SUMMARY_ELEMENTS
returns-then-out-ne-SUMMARY_ELEMENTS c =
    let both =
    other_length _ _ _ c.args.out.now c.if-out-ne-SUMMARY_ELEMENTS.true in
    record { answer = both.0; elements = both.1 }

pub returns-in-Ok : goal.returns-in-Ok
returns-in-Ok c =
    let out = c.args.out.now in
    let given = c.in-Ok.is in
    let both =
    right_length _ _ _ out c.if-out-ne-SUMMARY_ELEMENTS.false (sym (ap number_of given)) (c.put_summary.ensures ∙ ap (summary_over out) (sym given)) in
    record { answer = both.0; elements = both.1 }

pub returns-in-Err : goal.returns-in-Err
returns-in-Err c =
    let out = c.args.out.now in
    let given = c.in-Err.is in
    let both =
    right_length _ _ _ out c.if-out-ne-SUMMARY_ELEMENTS.false (sym (ap number_of given)) (ap (summary_over out) (sym given)) in
    record { answer = both.0; elements = both.1 }
