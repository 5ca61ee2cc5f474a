-- A block that opens has its whole length, and its rows can be measured.
use native.Mathlib.Omega.{arith}
use Rattle.layout.specs.Layout.{fields_of}
use Rattle.tally.proofs.OpensMeasured.{block_size, opens_measured}
use Rattle.tally.proofs.MeasuredRows.of_block.Goals as goal

pub slice_bounds-of_table-end : goal.slice_bounds-of_table-end
slice_bounds-of_table-end c = omega (arith, block_size c.args.block.now c.requires)

pub of_table-requires : goal.of_table-requires
of_table-requires c = opens_measured c.args.block.now c.requires

pub returns : goal.returns
unfolding fields_of
returns c = c.of_table.ensures
