-- `begin` copies the front and fills the bytes of the rows with zeros.
use mathlib.Core.Path.{refl}
use native.Mathlib.Omega.{arith}
use Rattle.block.proofs.RightBlocks.{right_block}
use Rattle.output.proofs.BlockAfterwards.{front_cleared}
use Rattle.output.proofs.begin.Goals as goal

pub slice_bounds-copy-end : goal.slice_bounds-copy-end
slice_bounds-copy-end c =
    omega (arith, (right_block c.args.block.now c.requires.0).size)

pub returns : goal.returns
returns c =
    front_cleared c.args.block.now c.args.out.now _ _ _ c.requires.0 c.requires.1
    c.copy.ensures (c.fill.ensures.after (λ y e. e)) refl
