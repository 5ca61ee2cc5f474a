-- The two tests are the two halves of what is tested of the last four bytes.
use Rattle.std.proofs.Common.{◌∙◌}
use Rattle.layout.proofs.SumLaws.{first_differs, second_decides}
use Rattle.layout.proofs.sum_wrong.Goals as goal

pub returns-then-differs : goal.returns-then-differs
returns-then-differs c =
    let sums = c.sums_of-sums in
    c.if-differs.true ∙ first_differs c.args.block.now sums.result c.requires sums.ensures _ c.differs.ensures c.if-differs.true

pub returns-else-differs : goal.returns-else-differs
returns-else-differs c =
    let sums = c.sums_of-sums in
    second_decides c.args.block.now sums.result c.requires sums.ensures _ c.differs.ensures c.if-differs.false _ c.differs-else-differs.ensures
