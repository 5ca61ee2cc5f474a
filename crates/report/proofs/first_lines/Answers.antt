-- `first_lines` makes both summaries, neither of which is refused, and puts one line behind another.
use Rattle.lines.specs.Lines.{text, line}
use Rattle.text.proofs.BytesBehindAText.{put_first, then_put}
use Rattle.report.proofs.OpenBlocksSummed.{never_refused, summary_is_lem}
use Rattle.report.proofs.first_lines.Goals as goal

pub returns-in_default : goal.returns-in_default
returns-in_default c = absurd (never_refused _ c.requires.0 c.summary-given.ensures c.in_default.is)

pub returns-in_default-written : goal.returns-in_default-written
returns-in_default-written c = absurd (never_refused _ c.requires.1 c.summary-written.ensures c.in_default-written.is)

pub returns : goal.returns
unfolding line text
returns c =
    let before_is = summary_is_lem _ c.requires.0 c.summary-given.ensures c.in-Ok.is in
    let after_is = summary_is_lem _ c.requires.1 c.summary-written.ensures c.in-Ok-written.is in
    let one = then_put c.put_word.ensures c.put_summary-first.ensures in
    let two = then_put c.put_word-2.ensures c.put_summary.ensures in
    rw (← before_is, ← after_is) (put_first c.no_text.ensures (then_put c.put_answer.ensures (then_put one two)))
