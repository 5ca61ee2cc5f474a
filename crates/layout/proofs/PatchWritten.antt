-- What is written of a patch: where each part stands in the bytes, that it holds the patch, and that it is 512 bytes. Points and rows are
-- cells, and what is beyond the counts is zero.
use Rattle.std.proofs.Common.{◌≡◌, ℕ, ◌+◌, ◌-◌, ◌*◌, ◌<◌, ◌≤◌, true, ◌&&◌, T, eqb, ◌⊎◌, List, [], ◌∷◌, ◌++◌, length, take, drop, replicate, sym, refl, ap, ◌∙◌, inl, inr, append_assoc, arith, eqb→eq, ltb→lt, lt→ltb, length-append, length-drop, take-take, drop_at, lt-ltb}
use mathlib.Core.List.Memᴰ
use mathlib.Core.List.{flat_map}
use lib.ListN.{get_or-append}
use lib.Seq.{drop-append-le, take-append-le}
use Rattle.lists.specs.Lists.{every, numbers_from}
use Rattle.lists.proofs.Tests.{and_l, and_r, and_i, or_e}
use Rattle.lists.proofs.Lists.{every_at, every_i, every_both, every_replicate}
use Rattle.lists.proofs.Places.{in_cases}
use Rattle.lists.proofs.Numbers.{numbers_e}
use Rattle.lists.proofs.Images.{map_same}
use Rattle.volume.specs.Volume.{point_size, point_bytes}
use Rattle.volume.proofs.PointsInBytes.{points_length}
use Rattle.rows.specs.declared.Row.{Row}
use Rattle.rows.specs.Labels.{plain_version, marked_version, label_byte}
use Rattle.rows.specs.Rows.{version, rows_at, row_size, stored_row, row_in, rows_in, labels, row_bytes, numbers}
use Rattle.rows.proofs.LabelsReadBack.{written_byte}
use Rattle.rows.proofs.RowsOfTables.{rows_length, row_at, among_rows, row_region, rows_room, rows_bytes as rows_bytes_of}
use Rattle.layout.specs.Layout.{Patch, body_bytes, block_bytes, is_version, max_points, max_rows, zeros_at, points_at}
use Rattle.layout.specs.Layout.{byte, point_count, row_count, part, coordinates_of, table_of, fields_of, filled, body_of, sum_bytes, bytes_of}
use Rattle.layout.specs.Within.{is_byte, row_fits, Within}
use Rattle.layout.proofs.CellsReadBack.{point_cells, row_cells, roomy, written_length, points_read, rows_read, points_written, rows_written}
use Rattle.layout.proofs.BytesOfSlices.{byte_below, part_bytes_lem}
use Rattle.layout.proofs.BlockParts.{filled_length, part_length, part_at}
use Rattle.layout.proofs.SumLaws.{sum_bytes_length, sum_bytes_lem}

-- ---- a written patch

-- the version, the counts and the zeros stand where they were written

pub points_at_lem : (v : ℕ) (patch : Patch) (rest : List ℕ) → point_count (body_of v patch ++ rest) ≡ length patch.points
unfolding body_of
points_at_lem v patch rest = refl

pub rows_at_lem : (v : ℕ) (patch : Patch) (rest : List ℕ) → row_count (body_of v patch ++ rest) ≡ length patch.rows
unfolding body_of
rows_at_lem v patch rest = refl

pub version_at : (v : ℕ) (patch : Patch) (rest : List ℕ) → version (body_of v patch ++ rest) ≡ v
unfolding body_of
version_at v patch rest = refl

pub zeros_at_lem : (v : ℕ) (patch : Patch) (rest : List ℕ) → part zeros_at points_at (body_of v patch ++ rest) ≡ replicate (points_at - zeros_at) 0
unfolding body_of
zeros_at_lem v patch rest = refl

module _ (v : ℕ) (patch : Patch) (few_points : length patch.points ≤ max_points) (few_rows : length patch.rows ≤ max_rows) where
  -- the three parts that are written
  abbrev head : List ℕ
  head = filled points_at (v ∷ length patch.points ∷ length patch.rows ∷ [])

  abbrev coordinates : List ℕ
  coordinates = filled (rows_at - points_at) (flat_map point_bytes patch.points)

  abbrev table : List ℕ
  table = filled (body_bytes - rows_at) (flat_map (row_bytes v) patch.rows)

  coordinates_length : length coordinates ≡ 192
  coordinates_length = filled_length 192 (flat_map point_bytes patch.points) (omega (arith, written_length point_cells patch.points))

  table_length : length table ≡ 300
  table_length = filled_length 300 (flat_map (row_bytes v) patch.rows) (omega (arith, written_length (row_cells v) patch.rows))

  front_length : length (head ++ coordinates) ≡ 208
  front_length = length-append head coordinates ∙ ap (λ n. 16 + n) coordinates_length

  -- the body is 508 bytes
  pub body_length : length (body_of v patch) ≡ body_bytes
  unfolding body_of
  body_length = length-append (head ++ coordinates) table ∙ (ap (λ n. n + length table) front_length ∙ ap (λ n. 208 + n) table_length)

  pub coordinates_at : (rest : List ℕ) → coordinates_of (body_of v patch ++ rest) ≡ coordinates
  unfolding body_of
  coordinates_at rest =
      ap coordinates_of (append_assoc (head ++ coordinates) table rest)
      ∙ part_at head coordinates (table ++ rest) points_at rows_at refl (omega (arith, coordinates_length))

  pub table_at : (rest : List ℕ) → table_of (body_of v patch ++ rest) ≡ table
  unfolding body_of
  table_at rest = part_at (head ++ coordinates) table rest rows_at body_bytes front_length (omega (arith, table_length))

  -- the rows and all behind them
  behind_at : (rest : List ℕ) → drop rows_at (body_of v patch ++ rest)
      ≡ flat_map (row_bytes v) patch.rows ++ (replicate (300 - length (flat_map (row_bytes v) patch.rows)) 0 ++ rest)
  unfolding body_of
  behind_at rest =
      let bytes = flat_map (row_bytes v) patch.rows in
      let zeros : List ℕ = replicate (300 - length bytes) 0 in
      ap (drop rows_at) (append_assoc (head ++ coordinates) table rest)
      ∙ (drop_at (head ++ coordinates) (table ++ rest) rows_at front_length ∙ append_assoc bytes zeros rest)

  -- the fields of the body are the patch, whatever stands behind it
  pub body_read : T (every (roomy v) patch.rows) → (rest : List ℕ) → fields_of (body_of v patch ++ rest) ≡ patch
  unfolding fields_of
  body_read fit rest =
      let block = body_of v patch ++ rest in
      let points = points_read patch.points (replicate (192 - length (flat_map point_bytes patch.points)) 0) in
      let zeros : List ℕ = replicate (300 - length (flat_map (row_bytes v) patch.rows)) 0 in
      let rows = rows_read block patch.rows (zeros ++ rest) (rw (version_at v patch rest) fit) (rw (version_at v patch rest) (behind_at rest)) in
      rw (coordinates_at rest, points_at_lem v patch rest, rows_at_lem v patch rest, points, rows)

  pub body_room : (rest : List ℕ) → body_bytes ≤ length (body_of v patch ++ rest)
  body_room rest = omega (arith, length-append (body_of v patch) rest, body_length)

  -- the bytes are 512
  pub bytes_length : length (bytes_of v patch) ≡ block_bytes
  bytes_length = length-append (body_of v patch) (sum_bytes (body_of v patch)) ∙ rw (body_length, sum_bytes_length (body_of v patch))

-- ---- a patch within the limits

-- there is room for the region and the marks of each row
pub room_for : (v : ℕ) (rows : List Row) → T (every (row_fits v) rows) → T (every (roomy v) rows)
room_for v rows fit =
    every_i (roomy v) rows (λ row m. and_r (every is_byte (numbers row) && is_byte row.region) (roomy v row) (every_at (row_fits v) rows fit m))

-- opening what was written of a patch within the limits gives the patch
pub read_written : (v : ℕ) (patch : Patch) → Within v patch → fields_of (bytes_of v patch) ≡ patch
read_written v patch within =
    body_read v patch within.few_points within.few_rows (room_for v patch.rows within.rows_fit) (sum_bytes (body_of v patch))

filled_bytes : (n : ℕ) (bytes : List ℕ) → T (every is_byte bytes) → T (every is_byte (filled n bytes))
filled_bytes n bytes h = every_both is_byte bytes (replicate (n - length bytes) 0) h (every_replicate is_byte (n - length bytes) 0 tt)

version_small : (v : ℕ) → T (is_version v) → v < 256
version_small v is = go (or_e (eqb v plain_version) (eqb v marked_version) is)
  where
    go : T (eqb v plain_version) ⊎ T (eqb v marked_version) → v < 256
    go (inl e) = omega (arith, eqb→eq v plain_version e)
    go (inr e) = omega (arith, eqb→eq v marked_version e)

head_bytes : (v n m : ℕ) → T (is_version v) → n ≤ max_points → m ≤ max_rows → T (every is_byte (v ∷ n ∷ m ∷ []))
unfolding every
head_bytes v n m is h k =
    let a : n < 256 = omega arith in
    let b : m < 256 = omega arith in
    let c : v < 256 = version_small v is in
    rw (lt-ltb n 256 a, lt-ltb m 256 b, lt-ltb v 256 c) tt

-- a row that fits is written in bytes
row_written : (v : ℕ) (row : Row) → T (row_fits v row) → T (every is_byte (row_bytes v row))
unfolding every
row_written v row fit =
    let four = every is_byte (numbers row) in
    let small = and_l (four && is_byte row.region) (roomy v row) fit in
    let byte = written_byte v (labels row) (ltb→lt row.region 256 (and_r four (is_byte row.region) small))
    (and_r (four && is_byte row.region) (roomy v row) fit) in
    every_both is_byte (numbers row) (label_byte v (labels row) ∷ []) (and_l four (is_byte row.region) small)
    (and_i (is_byte (label_byte v (labels row))) true (lt→ltb _ 256 byte) tt)

rows_in_bytes : (v : ℕ) (rows : List Row) → T (every (row_fits v) rows) → T (every is_byte (flat_map (row_bytes v) rows))
unfolding flat_map every
rows_in_bytes v [] fit = tt
rows_in_bytes v (row ∷ rows) fit =
    every_both is_byte (row_bytes v row) (flat_map (row_bytes v) rows) (row_written v row (and_l (row_fits v row) (every (row_fits v) rows) fit))
    (rows_in_bytes v rows (and_r (row_fits v row) (every (row_fits v) rows) fit))

-- a patch within the limits is written in bytes
pub bytes_written : (v : ℕ) (patch : Patch) → Within v patch → T (every is_byte (bytes_of v patch))
unfolding body_of
bytes_written v patch within =
    let points = patch.points in
    let rows = patch.rows in
    let head = filled_bytes points_at _ (head_bytes v (length points) (length rows) within.version_is within.few_points within.few_rows) in
    let coordinates = filled_bytes 192 (flat_map point_bytes points) within.coordinates in
    let table = filled_bytes 300 (flat_map (row_bytes v) rows) (rows_in_bytes v rows within.rows_fit) in
    every_both is_byte (body_of v patch) (sum_bytes (body_of v patch)) (every_both is_byte _ _ (every_both is_byte _ _ head coordinates) table)
    (sum_bytes_lem (body_of v patch))

-- ---- the fields of a block

pub points_counted : (block : List ℕ) → length (fields_of block).points ≡ point_count block
unfolding fields_of
points_counted block = points_length (coordinates_of block) (point_count block)

pub rows_counted : (block : List ℕ) → length (fields_of block).rows ≡ row_count block
unfolding fields_of
rows_counted block = rows_length block (row_count block)

-- the rows of a block of bytes fit its version
pub rows_fit : (block : List ℕ) → T (every is_byte block) → T (every (row_fits (version block)) (fields_of block).rows)
unfolding fields_of
rows_fit block are =
    let n = row_count block in
    let below = byte_below block are in
    every_i (row_fits (version block)) (rows_in block n) (λ row m.
    let b = rows_bytes_of block below n row m in
    let (i, h, e) = among_rows block n m in
    and_i (every is_byte (numbers row) && is_byte row.region) (roomy (version block) row)
    (and_i (every is_byte (numbers row)) (is_byte row.region)
    (every_i is_byte (numbers row) (λ x k. lt→ltb x 256
    (in_cases k (λ e. rw e b.byte_p) λ k. in_cases k (λ e. rw e b.byte_q) λ k. in_cases k (λ e. rw e b.byte_r) λ k.
    in_cases k (λ e. rw e b.byte_s) λ k. absurd (Memᴰ.not-nil k))))
    (lt→ltb row.region 256 (rw e (row_region block below i))))
    (rows_room block n row m))

module _ (block : List ℕ) (room : body_bytes ≤ length block) (are : T (every is_byte block)) where
  -- the points and the rows of a block with counts within the limits, written, are the bytes that they were read from

  pub points_bytes : point_count block ≤ max_points
      → flat_map point_bytes (fields_of block).points ≡ take (point_size * point_count block) (coordinates_of block)
  unfolding fields_of
  points_bytes few = points_written (coordinates_of block) (part_bytes_lem points_at rows_at block are) (point_count block)
      (omega (arith, part_length points_at rows_at block (omega arith)))

  pub rows_bytes : row_count block ≤ max_rows
      → flat_map (row_bytes (version block)) (fields_of block).rows ≡ take (row_size * row_count block) (table_of block)
  unfolding fields_of
  rows_bytes few =
      rows_written block are (row_count block) (omega arith)
      ∙ sym (take-take (row_size * row_count block) (body_bytes - rows_at) (drop rows_at block) (omega arith))

-- what is read off the first bytes does not see those behind them
module _ (body rest : List ℕ) (room : body_bytes ≤ length body) where
  front_byte : (i : ℕ) → i < body_bytes → byte (body ++ rest) i ≡ byte body i
  front_byte i h = get_or-append body rest 0 i (omega arith)

  pub front_part : (i j : ℕ) → i ≤ j → j ≤ body_bytes → part i j (body ++ rest) ≡ part i j body
  front_part i j h k =
      ap (take (j - i)) (drop-append-le i body rest (omega arith)) ∙ take-append-le (j - i) (drop i body) rest (simp length-drop (omega arith))

  front_row : (i : ℕ) → i < max_rows → row_in (body ++ rest) i ≡ row_in body i
  unfolding row_in stored_row
  front_row i h =
      let at : (j : ℕ) → j < row_size → byte (drop rows_at (body ++ rest)) (row_size * i + j) ≡ byte (drop rows_at body) (row_size * i + j) = λ j l.
      row_at (body ++ rest) i j ∙ front_byte (rows_at + row_size * i + j) (omega arith) ∙ sym (row_at body i j) in
      rw (front_byte 0 (omega arith), at 0 (omega arith), at 1 (omega arith), at 2 (omega arith), at 3 (omega arith), at 4 (omega arith))

  pub front_fields : row_count body ≤ max_rows → fields_of (body ++ rest) ≡ fields_of body
  unfolding fields_of rows_in
  front_fields few =
      let rows = map_same (row_in (body ++ rest)) (row_in body) (numbers_from 0 (row_count body)) (λ i m.
      front_row i (omega (arith, (numbers_e 0 (row_count body) m).1))) in
      rw (front_byte 1 (omega arith), front_byte 2 (omega arith), front_part points_at rows_at (omega arith) (omega arith), rows)
