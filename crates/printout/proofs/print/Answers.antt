-- `print` leaves on a wrong length and on a refusal; otherwise it reports.
use mathlib.Core.Bool.{not}
use mathlib.Core.Path.{refl, sym, ap, ◌∙◌}
use native.Mathlib.Omega.{arith}
use Rattle.answers.specs.Answers.{number_of}
use Rattle.printout.proofs.WaysOutOfPrint.{right_size, wrong_size, wrong_length, refusal, report_asks, reported}
use Rattle.printout.proofs.print.Goals as goal

pub returns-then-not-right_length : goal.returns-then-not-right_length
returns-then-not-right_length c =
    let input = c.args.input.now in
    let both =
    wrong_length input (wrong_size input c.right_length.ensures (ap not c.if-not-right_length.true)) c.answered.ensures in
    record { text = both.0; fits = both.1 }

pub bounds-input-512 : goal.bounds-input-512
bounds-input-512 c =
    let input = c.args.input.now in
    omega (arith, right_size input c.right_length.ensures (ap not c.if-not-right_length.false))

pub overflow_cast-e : goal.overflow_cast-e
overflow_cast-e c = omega (arith, c.type_inv.input 512)

pub bounds-input : goal.bounds-input
bounds-input c =
    let input = c.args.input.now in
    omega (arith, right_size input c.right_length.ensures (ap not c.if-not-right_length.false))

pub overflow_cast-f : goal.overflow_cast-f
overflow_cast-f c = omega (arith, c.type_inv.input 513)

pub slice_bounds-block-end : goal.slice_bounds-block-end
slice_bounds-block-end c =
    let input = c.args.input.now in
    omega (arith, right_size input c.right_length.ensures (ap not c.if-not-right_length.false))

pub slice_bounds-remove-end : goal.slice_bounds-remove-end
slice_bounds-remove-end c = refl

pub removed-requires : goal.removed-requires
removed-requires c =
    let input = c.args.input.now in
    let size = right_size input c.right_length.ensures (ap not c.if-not-right_length.false) in
    report_asks input size _ c.in-Ok.ensures.gives _ c.remove-given.ensures.bytes

pub returns-in_default : goal.returns-in_default
returns-in_default c =
    let input = c.args.input.now in
    let size = right_size input c.right_length.ensures (ap not c.if-not-right_length.false) in
    let both = refusal input size (sym c.in_default.is ∙ c.remove-given.ensures.gives) (c.number.ensures ∙ ap number_of c.in_default.is) c.answered-in_default.ensures in
    record { text = both.0; fits = both.1 }

pub returns : goal.returns
returns c =
    let input = c.args.input.now in
    let size = right_size input c.right_length.ensures (ap not c.if-not-right_length.false) in
    let both = reported input size _ c.in-Ok.ensures.gives _ c.remove-given.ensures.bytes c.removed.ensures in
    record { text = both.0; fits = both.1 }
