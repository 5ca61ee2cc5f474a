-- `flipped` puts the new rows behind the first lines.
use Rattle.text.proofs.BytesBehindAText.{whole}
use Rattle.report.specs.Steps.{flip_lines}
use Rattle.report.proofs.ShortReports.{flip_short}
use Rattle.report.proofs.flipped.Goals as goal

pub returns : goal.returns
returns c =
    let a = c.args in
    whole (flip_lines a.block.now a.n a.output.now) (c.put_last_rows.ensures.put _ c.first_lines.ensures)
    (flip_short a.block.now a.output.now c.type_inv.output a.n c.requires.0 c.requires.1)
