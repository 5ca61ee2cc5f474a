-- Requirement §2: the layout, read and written, and the two sums.
use Rattle.std.specs.Prelude.{ℕ, ◌+◌, ◌-◌, ◌/◌, ◌%◌, ◌^◌, Bool, not, ◌||◌, List, [], ◌∷◌, ◌++◌, length, take, drop, replicate, ◌==◌, nat_eq, slice_index, slice_range}
use mathlib.Core.List.{flat_map}
use Rattle.lists.specs.Lists.{same}
use Rattle.volume.specs.declared.Point.{Point}
use Rattle.volume.specs.Volume.{points_in, point_bytes}
use Rattle.rows.specs.declared.Row.{Row}
use Rattle.rows.specs.Labels.{plain_version, marked_version}
use Rattle.rows.specs.Rows.{version, rows_at, rows_in, row_bytes}
use Rattle.layout.specs.declared.Sums.{Sums}
use Rattle.layout.specs.declared.Fields.{Fields}

-- ---- the numbers of the layout

-- a patch block is 512 bytes
abbrev pub block_bytes : ℕ
block_bytes = 512

-- the bytes before the sums
abbrev pub body_bytes : ℕ
body_bytes = 508

-- byte 0: version, 1 or 2
abbrev pub is_version : ℕ → Bool
is_version version = version == plain_version || version == marked_version

-- byte 1: points, 0 to 64
abbrev pub max_points : ℕ
max_points = 64

-- byte 2: rows, 0 to 60
abbrev pub max_rows : ℕ
max_rows = 60

-- bytes 3 to 15: zero
abbrev pub zeros_at : ℕ
zeros_at = 3

-- bytes 16 to 207: points
abbrev pub points_at : ℕ
points_at = 16

-- both sums wrap at 65,536
abbrev pub wrap : ℕ
wrap = 2 ^ 16

-- A patch: the fields that a block holds.
pub record Patch : Type 0 where
  pub points : List Point
  pub rows : List Row

-- ---- reading

-- byte i
abbrev pub byte : List ℕ → ℕ → ℕ
byte block i = slice_index block i

-- byte 1
abbrev pub point_count : List ℕ → ℕ
point_count block = byte block 1

-- byte 2
abbrev pub row_count : List ℕ → ℕ
row_count block = byte block 2

-- bytes i to j - 1
abbrev pub part : ℕ → ℕ → List ℕ → List ℕ
part i j block = slice_range block i j

-- bytes 16 to 207: 64 points of 3 bytes
abbrev pub coordinates_of : List ℕ → List ℕ
coordinates_of block = part points_at rows_at block

-- bytes 208 to 507: 60 rows of 5 bytes, as they stand there
abbrev pub table_of : List ℕ → List ℕ
table_of block = part rows_at body_bytes block

-- the fields of a block
unfoldable pub fields_of : List ℕ → Patch
fields_of block = record {
  points = points_in (coordinates_of block) (point_count block);
  rows = rows_in block (row_count block);
}

-- ---- writing

-- the bytes, then zeros up to n bytes
abbrev pub filled : ℕ → List ℕ → List ℕ
filled n bytes = bytes ++ replicate (n - length bytes) 0

-- the first 508 bytes of a patch's block of a version; bytes of points and rows beyond the counts are zero
unfoldable pub body_of : ℕ → Patch → List ℕ
body_of version patch =
    filled points_at (version ∷ length patch.points ∷ length patch.rows ∷ [])
    ++ filled (rows_at - points_at) (flat_map point_bytes patch.points)
    ++ filled (body_bytes - rows_at) (flat_map (row_bytes version) patch.rows)

-- for the bytes in order, the byte is added to the first sum, and then the first sum to the second
unfoldable pub sums_onto : Sums → List ℕ → Sums
sums_onto sums [] = sums
sums_onto sums (x ∷ xs) =
    let first = (sums.first + x) % wrap in
    sums_onto (record { first = first; second = (sums.second + first) % wrap }) xs

-- both sums start at 0
abbrev pub sums_of : List ℕ → Sums
sums_of body = sums_onto (record { first = 0; second = 0 }) body

-- low byte first
abbrev pub two_bytes : ℕ → List ℕ
two_bytes n = n % 256 ∷ n / 256 ∷ []

-- bytes 508 to 511: first sum, second sum
unfoldable pub sum_bytes : List ℕ → List ℕ
sum_bytes body = let sums = sums_of body in two_bytes sums.first ++ two_bytes sums.second

-- a body with its sums
abbrev pub sealed : List ℕ → List ℕ
sealed body = body ++ sum_bytes body

-- the 512 bytes of a patch, in a version
abbrev pub bytes_of : ℕ → Patch → List ℕ
bytes_of version patch = sealed (body_of version patch)

-- ---- what the sums and the fields are of any block

-- 2: a sum is wrong
unfoldable pub sum_wrong : List ℕ → Bool
sum_wrong block = not (same nat_eq (drop body_bytes block) (sum_bytes (take body_bytes block)))

-- the version, the counts, the coordinates and the rows, as they stand in the block
abbrev pub open_fields : List ℕ → Fields
open_fields block = record {
  version = version block;
  points = point_count block;
  rows = row_count block;
  coordinates = coordinates_of block;
  table = table_of block;
}
