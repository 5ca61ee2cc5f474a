-- `volume::point_in` reads the three bytes of point i, all within the slice.
use Rattle.volume.proofs.PointsInBytes.{point_at}
use Rattle.volume.proofs.point_in.Goals as goal

pub returns : goal.returns
returns c =
    let a = c.args in
    point_at a.coordinates.now a.i
