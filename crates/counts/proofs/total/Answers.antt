-- One cell more in both sums.
use Rattle.std.proofs.Common.{refl}
use Rattle.counts.proofs.CellTotals.{total_more}
use Rattle.counts.proofs.total.Goals as goal

pub loop-cases-preserved : goal.loop-cases-preserved
loop-cases-preserved c =
    let l = c.loop-cases in
    let cells = c.args.counts.now.cells in (
      total_more (λ cases. cases.all) refl cells l.cases-index l.sum.all l.invariant.0,
      total_more (λ cases. cases.agreeing) refl cells l.cases-index l.sum.agreeing l.invariant.1,
    )
