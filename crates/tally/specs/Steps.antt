-- What only contracts of inner functions and proofs say: bytes that can be measured, and the worst of the qualities met so far.
use Rattle.std.specs.Prelude.{ℕ, ◌*◌, ◌≤◌, ◌<◌, ◌+◌, List, T, length, Option, None, Some}
use Rattle.lists.specs.Lists.{every}
use Rattle.volume.specs.declared.Point.{Point}
use Rattle.volume.specs.Volume.{point_size}
use Rattle.rows.specs.declared.Row.{Row}
use Rattle.rows.specs.Steps.{most_rows}
use Rattle.rows.specs.Rows.{rows_at, row_size, rows_in}
use Rattle.rows.specs.RowMeasure.{place}
use Rattle.mesh.specs.Mesh.{numbers_fit}
use Rattle.quality.specs.declared.Quality.{Quality}
use Rattle.quality.specs.Quality.{worse_of}
use Rattle.tally.specs.declared.Corners.{Corners}

-- The coordinates hold the points, and the four numbers of the row are those of points.
pub record Placed (coordinates : List ℕ) (count : ℕ) (row : Row) : Type 0 where
  pub points_held : point_size * count ≤ length coordinates
  pub below_p : row.p < count
  pub below_q : row.q < count
  pub below_r : row.r < count
  pub below_s : row.s < count

-- The coordinates hold the points, the table holds the rows, and their numbers are proper.
pub record Measured (coordinates : List ℕ) (count : ℕ) (table : List ℕ) (n : ℕ) : Type 0 where
  pub points_held : point_size * count ≤ length coordinates
  pub rows_held : rows_at + row_size * n ≤ length table
  pub rows_most : n ≤ most_rows
  pub proper : T (every (numbers_fit count) (rows_in table n))

-- the points at the four corners of a row
abbrev pub corners_of : List Point → Row → Corners
corners_of points row = record {
  p = place points row.p;
  q = place points row.q;
  r = place points row.r;
  s = place points row.s;
}

-- the worst with one more quality; of equals the earlier one stays
abbrev pub worst_with : Option Quality → Quality → Option Quality
worst_with None q = Some q
worst_with (Some w) q = Some (worse_of w q)
