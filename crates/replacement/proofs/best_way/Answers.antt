-- What is read at the whole of the table of pieces is the best way.
use Rattle.edge.specs.Edges.{site_of_edge}
use Rattle.replacement.proofs.WayRead.{way_read}
use Rattle.replacement.proofs.best_way.Goals as goal

pub returns : goal.returns
returns c =
    let edge = c.args.edge.now in
    way_read {its = site_of_edge edge} edge.ringed.ready.long c.fill-pieces.ensures _ _ c.cell_at-at.ensures.0 c.best_at.ensures _ c.in_ok-worst.was
