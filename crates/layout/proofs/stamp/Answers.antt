-- The two sums are written where they belong.
use Rattle.layout.proofs.SumLaws.{stamped}
use Rattle.layout.proofs.stamp.Goals as goal

pub returns : goal.returns
returns c =
    stamped c.args.out.now _ _ c.sums_of-sums.result c.requires c.sums_of-sums.ensures
    c.put.ensures c.put-2.ensures
