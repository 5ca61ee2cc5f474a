-- `print` hands on the block and the numbers, and leaves on a refusal; otherwise it reports.
use mathlib.Core.Path.{sym, ap, ◌∙◌}
use Rattle.answers.specs.Answers.{number_of}
use Rattle.flip_printout.proofs.WaysOutOfFlipPrint.{numbers_lend, count_is, handed_tell, refusal, asks, reported}
use Rattle.flip_printout.proofs.print.Goals as goal

pub slice_bounds-all-end : goal.slice_bounds-all-end
slice_bounds-all-end c =
    numbers_lend c.args.input.now _ c.numbers_behind-numbers.ensures

pub slice_bounds-flip-end : goal.slice_bounds-flip-end
slice_bounds-flip-end c =
    count_is c.args.input.now _ c.numbers_behind-numbers.ensures

pub flipped-requires : goal.flipped-requires
flipped-requires c =
    let input = c.args.input.now in
    let tell = handed_tell input _ c.numbers_behind-numbers.ensures _ c.block_length-size.ensures in
    let count = count_is input _ c.numbers_behind-numbers.ensures in
    asks input _ _ tell (sym c.in-Ok.is ∙ c.flip-given.ensures.answer) _ count _ c.flip-given.ensures.bytes

pub returns-in_default : goal.returns-in_default
returns-in_default c =
    let input = c.args.input.now in
    let tell = handed_tell input _ c.numbers_behind-numbers.ensures _ c.block_length-size.ensures in
    let both =
    refusal input _ _ tell (sym c.in_default.is ∙ c.flip-given.ensures.answer) (c.number.ensures ∙ ap number_of c.in_default.is) c.answered.ensures in
    record { text = both.0; fits = both.1 }

pub returns : goal.returns
returns c =
    let input = c.args.input.now in
    let tell = handed_tell input _ c.numbers_behind-numbers.ensures _ c.block_length-size.ensures in
    let count = count_is input _ c.numbers_behind-numbers.ensures in
    let both =
    reported input _ _ tell (sym c.in-Ok.is ∙ c.flip-given.ensures.answer) _ count _ c.flip-given.ensures.bytes c.flipped.ensures in
    record { text = both.0; fits = both.1 }
