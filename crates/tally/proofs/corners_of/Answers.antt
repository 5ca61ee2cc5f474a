-- `corners_of` is `corners_of`: each number of the row is read as its point.
use Rattle.tally.proofs.RowsMeasured.{placed}
use Rattle.tally.proofs.corners_of.Goals as goal

pub returns : goal.returns
returns c = λ k.
    record {
      p = placed _ _ _ c.requires.below_p c.point_in.ensures k;
      q = placed _ _ _ c.requires.below_q c.point_in-2.ensures k;
      r = placed _ _ _ c.requires.below_r c.point_in-3.ensures k;
      s = placed _ _ _ c.requires.below_s c.point_in-4.ensures k;
    }
