-- `removed` puts the ring behind the first lines, and the new rows behind the ring.
use Rattle.text.proofs.BytesBehindAText.{whole}
use Rattle.report.specs.Steps.{removal_lines}
use Rattle.report.proofs.ShortReports.{removal_short}
use Rattle.report.proofs.removed.Goals as goal

pub returns : goal.returns
returns c =
    let a = c.args in
    let lines = c.put_last_rows.ensures.put _ (c.put_ring-lines.ensures.put _ c.first_lines.ensures) in
    whole (removal_lines a.block.now a.ring a.output.now) lines
    (removal_short a.block.now a.output.now c.type_inv.output a.ring c.requires.0 c.requires.1)
