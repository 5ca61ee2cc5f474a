-- A wrong kernel of the time when coordinates went to 128: ours, but opening still refuses what is over it.
use Rattle.std.specs.Prelude.{cond, [], ltb, Err}
use Rattle.lists.specs.Lists.{any}
use Rattle.layout.specs.Layout.{Patch, coordinates_of}
use Rattle.demands.specs.Kernels.{Kernel, ours}
use Rattle.facts.specs.Facts.{at, block_a_with}

-- with the number 6
abbrev pub refusing129 : Kernel
refusing129 = record {
  read = λ block. cond (any (ltb 128) (coordinates_of block)) (Err (record { number = 6 })) (ours.read block);
  summary = ours.summary;
  shown = ours.shown;
  seal = ours.seal;
  remove = ours.remove;
  flip = ours.flip;
}

-- block A with its first point at the height 129
unfoldable pub high : Patch
high = block_a_with (at 4 4 129) [] []
