-- Requirement §5: the qualities of the rows of a patch, and the worst of them.
use Rattle.std.specs.Prelude.{ℕ, List, map}
use Rattle.std.proofs.Math.Option.{get_or}
use Rattle.lists.specs.Lists.{count}
use Rattle.quality.specs.declared.Quality.{Quality}
use Rattle.volume.specs.Volume.{points_in}
use Rattle.quality.specs.Quality.{worst, zero_quality}
use Rattle.rows.specs.Rows.{rows_in}
use Rattle.rows.specs.RowMeasure.{row_quality}
use Rattle.layout.specs.Layout.{Patch}

-- the patch of the first `count` points and the first n rows
abbrev pub patch_in : List ℕ → ℕ → List ℕ → ℕ → Patch
patch_in coordinates count table n = record { points = points_in coordinates count; rows = rows_in table n }

-- the qualities of all rows of the patch
abbrev pub qualities : Patch → List Quality
qualities patch = map (row_quality patch.points) patch.rows

-- worst is taken over all rows of the patch; the zero quality where there are none
abbrev pub worst_of_patch : Patch → Quality
worst_of_patch patch = get_or (worst (qualities patch)) zero_quality
