-- `answered` puts the line behind no text, and a byte has at most three digits.
use native.Mathlib.Omega.{arith}
use Rattle.text.proofs.BytesBehindAText.{put_first, whole}
use Rattle.lines.specs.Lines.{answer_line}
use Rattle.lines.proofs.LineLengths.{answer_size}
use Rattle.report.proofs.answered.Goals as goal

pub returns : goal.returns
returns c =
    let answer = c.args.answer in
    whole (answer_line answer) (put_first c.no_text.ensures c.put_answer.ensures)
    (omega (arith, answer_size answer (omega (arith, c.ranges.answer.fits))))
