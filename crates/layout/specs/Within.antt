-- Requirement §2: the limits of a patch as a statement.
use Rattle.std.specs.Prelude.{ℕ, ◌≤◌, Bool, ◌&&◌, T, length, nat_lt}
use mathlib.Core.List.{flat_map}
use Rattle.lists.specs.Lists.{every}
use Rattle.volume.specs.Volume.{point_bytes}
use Rattle.rows.specs.declared.Row.{Row}
use Rattle.rows.specs.Labels.{has_room_for}
use Rattle.rows.specs.Rows.{numbers, labels}
use Rattle.layout.specs.Layout.{Patch, is_version, max_points, max_rows}

-- a byte is 0 to 255
abbrev pub is_byte : ℕ → Bool
is_byte x = nat_lt x 256

-- the four numbers of a row and its region are bytes, and a block of the version has room for its region and marks
abbrev pub row_fits : ℕ → Row → Bool
row_fits version row = every is_byte (numbers row) && is_byte row.region && has_room_for version (labels row)

-- A patch within the limits of a version: 0 to 64 points, 0 to 60 rows, x, y, z and four point numbers each 0 to 255; in version 1 regions
-- 0 to 255 and no marks, in version 2 regions 0 to 15.
pub record Within (version : ℕ) (patch : Patch) : Type 0 where
  pub version_is : T (is_version version)
  pub few_points : length patch.points ≤ max_points
  pub few_rows : length patch.rows ≤ max_rows
  pub coordinates : T (every is_byte (flat_map point_bytes patch.points))
  pub rows_fit : T (every (row_fits version) patch.rows)
