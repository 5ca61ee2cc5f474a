-- `put_last_rows` reads how many rows there are; a block that opens has the bytes of them all.
use native.Mathlib.Omega.{arith}
use Rattle.layout.specs.Layout.{fields_of}
use Rattle.block.proofs.RightBlocks.{right_block}
use Rattle.report.proofs.put_last_rows.Goals as goal

pub bounds-output-2 : goal.bounds-output-2
bounds-output-2 c = omega (arith, (right_block c.args.output.now c.requires.0).size)

pub overflow_cast-rows : goal.overflow_cast-rows
overflow_cast-rows c = omega (arith, c.type_inv.output 2)

pub put_rows-requires : goal.put_rows-requires
put_rows-requires c =
    let right = right_block c.args.output.now c.requires.0 in
    (omega arith, omega (arith, right.body.few_rows, right.size))

pub returns : goal.returns
unfolding fields_of
returns c = c.put_rows.ensures
