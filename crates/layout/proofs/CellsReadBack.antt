-- A table of cells of k bytes each: what its cells are, written, is the table, and what is written is read back.
-- By recursion over the cells, the table dropped by k bytes each time. Points are cells of 3 bytes, rows of 5.
use Rattle.std.proofs.Common.{◌≡◌, ℕ, zero, suc, ◌+◌, ◌*◌, ◌≤◌, Bool, true, T, List, [], ◌∷◌, ◌++◌, map, length, get_or, take, drop, refl, ap, ◌∙◌, append_assoc, arith, length-append, length-drop, get_or-drop, take-add, drop_at, sym, subst}
use mathlib.Core.List.{flat_map}
use mathlib.Core.Path.{ap₂}
use Rattle.lists.specs.Lists.{every, numbers_from}
use Rattle.lists.proofs.Tests.{and_l, and_r}
use Rattle.lists.proofs.Lists.{every_i, every_drop}
use Rattle.lists.proofs.Numbers.{map_next, map_numbers_take}
use Rattle.volume.specs.declared.Point.{Point}
use Rattle.volume.specs.Volume.{point_size, point_in, points_in, point_bytes}
use Rattle.rows.specs.declared.Row.{Row}
use Rattle.rows.specs.Labels.{has_room_for}
use Rattle.rows.specs.Rows.{version, rows_at, row_size, stored_row, row_in, rows_in, labels, row_bytes}
use Rattle.rows.proofs.LabelsReadBack.{read_written, written_read}
use Rattle.layout.specs.Within.{is_byte}
use Rattle.layout.proofs.BytesOfSlices.{byte_below}

-- The cells of a table: each has k bytes; the first is read off the front, the next ones off what follows. Of a cell that fits it is read
-- back, and a table of bytes is what is written of its cells.
pub record Cells {R : Type 0} (k : ℕ) (at : List ℕ → ℕ → R) (bytes : R → List ℕ) (fits : R → Bool) : Type 0 where
  pub size : (cell : R) → length (bytes cell) ≡ k
  pub front : (cell : R) → T (fits cell) → (rest : List ℕ) → at (bytes cell ++ rest) 0 ≡ cell
  pub next : (table : List ℕ) (i : ℕ) → at table (suc i) ≡ at (drop k table) i
  pub whole : (table : List ℕ) → T (every is_byte table) → k ≤ length table → bytes (at table 0) ≡ take k table

module _ {R : Type 0} {k : ℕ} {at : List ℕ → ℕ → R} {bytes : R → List ℕ} {fits : R → Bool} (cells : Cells k at bytes fits) where
  pub written_length : (rs : List R) → length (flat_map bytes rs) ≡ k * length rs
  unfolding flat_map
  written_length [] = omega arith
  written_length (r ∷ rs) = simp length-append (omega (arith, written_length rs, cells.size r))

  -- what is written is read back, whatever stands behind it
  read_back : (rs : List R) → T (every fits rs) → (rest : List ℕ) → map (at (flat_map bytes rs ++ rest)) (numbers_from 0 (length rs)) ≡ rs
  unfolding flat_map numbers_from every
  read_back [] fit rest = refl
  read_back (r ∷ rs) fit rest =
      let table = flat_map bytes rs ++ rest in
      let all = bytes r ++ table in
      let e : bytes r ++ flat_map bytes rs ++ rest ≡ all = append_assoc (bytes r) (flat_map bytes rs) rest in
      let step : (i : ℕ) → at all (suc i) ≡ at table i = λ i. cells.next all i
      ∙ ap (λ t. at t i) (drop_at (bytes r) table k (cells.size r)) in
      let head = cells.front r (and_l (fits r) (every fits rs) fit) table in
      let tail = map_next (at all) (at table) step 0 (length rs) ∙ read_back rs (and_r (fits r) (every fits rs) fit) rest in
      subst (λ w. map (at w) (numbers_from 0 (suc (length rs))) ≡ r ∷ rs) (sym e) (ap₂ (λ x xs. x ∷ xs) head tail)

  -- what is read, written, is the table it was read from
  write_back : (table : List ℕ) → T (every is_byte table) → (n : ℕ) → k * n ≤ length table
      → flat_map bytes (map (at table) (numbers_from 0 n)) ≡ take (k * n) table
  unfolding flat_map numbers_from
  write_back table are zero h =
      let e : k * 0 ≡ 0 = omega arith in
      rw e
  write_back table are (suc n) h =
      let rest = drop k table in
      let e = map_next (at table) (at rest) (cells.next table) 0 n in
      let low : k ≤ length table = omega arith in
      let l : k * n ≤ length rest = simp length-drop (omega arith) in
      let all : k * suc n ≡ k + k * n = omega arith in
      rw (all, take-add k (k * n) table, e, cells.whole table are low, write_back rest (every_drop is_byte k table are) n l)

-- byte j of cell i + 1 is byte j of cell i of what follows the first cell
byte_next : (k i j : ℕ) (table : List ℕ) → get_or table (k * suc i + j) 0 ≡ get_or (drop k table) (k * i + j) 0
byte_next k i j table =
    let e : k * suc i + j ≡ k + (k * i + j) = omega arith in
    rw (e, get_or-drop)

pub point_cells : Cells point_size point_in point_bytes (λ p. true)
unfolding point_in numbers_from
point_cells = record {
  size = λ p. refl;
  front = λ p fit rest. refl;
  next = λ table i. rw (byte_next 3 i 0 table, byte_next 3 i 1 table, byte_next 3 i 2 table);
  whole = λ table are h. map_numbers_take 3 table h;
}

-- a version has room for the region and the marks of a row
abbrev pub roomy : ℕ → Row → Bool
roomy version row = has_room_for version (labels row)

pub row_cells : (version : ℕ) → Cells row_size (stored_row version) (row_bytes version) (roomy version)
unfolding stored_row numbers_from
row_cells version = record {
  size = λ row. refl;
  front = λ row fit rest. let e = written_read version (labels row) fit in rw e;
  next = λ table i. rw (byte_next 5 i 0 table, byte_next 5 i 1 table, byte_next 5 i 2 table, byte_next 5 i 3 table, byte_next 5 i 4 table);
  whole = λ table are h. rw (read_written version (get_or table 4 0) (byte_below table are 4)) (map_numbers_take 5 table h);
}

-- points and rows, written and read back

pub points_read : (points : List Point) (rest : List ℕ) → points_in (flat_map point_bytes points ++ rest) (length points) ≡ points
unfolding points_in
points_read points rest = read_back point_cells points (every_i (λ p. true) points (λ p m. tt)) rest

-- the rows of a table whose bytes, from their place on, are those of some rows
pub rows_read : (table : List ℕ) (rows : List Row) (rest : List ℕ) → T (every (roomy (version table)) rows)
    → drop rows_at table ≡ flat_map (row_bytes (version table)) rows ++ rest → rows_in table (length rows) ≡ rows
unfolding rows_in row_in
rows_read table rows rest fit e =
    ap (λ bytes. map (stored_row (version table) bytes) (numbers_from 0 (length rows))) e ∙ read_back (row_cells (version table)) rows fit rest

pub points_written : (coordinates : List ℕ) → T (every is_byte coordinates) → (n : ℕ) → point_size * n ≤ length coordinates
    → flat_map point_bytes (points_in coordinates n) ≡ take (point_size * n) coordinates
unfolding points_in
points_written coordinates are n h = write_back point_cells coordinates are n h

pub rows_written : (table : List ℕ) → T (every is_byte table) → (n : ℕ) → rows_at + row_size * n ≤ length table
    → flat_map (row_bytes (version table)) (rows_in table n) ≡ take (row_size * n) (drop rows_at table)
unfolding rows_in row_in
rows_written table are n h =
    write_back (row_cells (version table)) (drop rows_at table) (every_drop is_byte rows_at table are) n (simp length-drop (omega arith))
