-- The rows of a table of bytes: how many, which, and that their numbers are bytes.
use Prim.Native.Nat.{ℕ, suc, ◌+◌, ◌*◌, ◌<◌}
use mathlib.Core.List.Memᴰ
use mathlib.Core.List.{List, [], ◌∷◌, ◌++◌, map, Memᴰ}
use mathlib.Core.Path.{◌≡◌, sym, ap, ◌∙◌, subst}
use native.Mathlib.Nat.{add-zero}
use native.Mathlib.Omega.{arith}
use lib.Dec.{T}
use lib.ListN.{length, drop, get_or}
use lib.Seq.{get_or-drop}
use Rattle.lists.specs.Lists.{numbers_from}
use Rattle.lists.proofs.Numbers.{numbers_i, map_numbers_length, map_numbers_at, map_numbers_append}
use Rattle.lists.proofs.Places.{in_at}
use Rattle.rows.specs.declared.Labels.{Labels}
use Rattle.rows.specs.declared.Row.{Row}
use Rattle.rows.specs.Labels.{labels_of, has_room_for}
use Rattle.rows.specs.Rows.{version, rows_at, row_size, stored_row, row_in, rows_in, labels}
use Rattle.rows.proofs.LabelsReadBack.{read_room, read_byte}

pub rows_length : (table : List ℕ) (n : ℕ) → length (rows_in table n) ≡ n
unfolding rows_in
rows_length table n = map_numbers_length (row_in table) n

-- row i of the first n
pub rows_at_lem : (table : List ℕ) (n i : ℕ) (d : Row) → i < n → get_or (rows_in table n) i d ≡ row_in table i
unfolding rows_in
rows_at_lem table n i d h = map_numbers_at (row_in table) n i d h

pub row_among : (table : List ℕ) (n i : ℕ) → i < n → Memᴰ (row_in table i) (rows_in table n)
unfolding rows_in
row_among table n i h = Memᴰ.map (row_in table) (numbers_i 0 n i (omega arith) (omega arith))

-- each of the first n rows is one of them by its number
pub among_rows : (table : List ℕ) (n : ℕ) {row : Row} → Memᴰ row (rows_in table n) → (i : ℕ) × (i < n) × (row ≡ row_in table i)
among_rows table n m =
    let k = in_at (rows_in table n) (row_in table 0) m in
    let h : k.0 < n = omega (arith, k.1, rows_length table n) in
    (k.0, h, sym k.2 ∙ rows_at_lem table n k.0 (row_in table 0) h)

-- the first n rows and those after them
pub rows_append : (table : List ℕ) (n k : ℕ) → rows_in table (n + k) ≡ rows_in table n ++ map (row_in table) (numbers_from n k)
unfolding rows_in
rows_append table n k = map_numbers_append (row_in table) n k

-- one row more
pub rows_more : (table : List ℕ) (n : ℕ) → rows_in table (suc n) ≡ rows_in table n ++ row_in table n ∷ []
unfolding numbers_from
rows_more table n = ap (rows_in table) (omega arith) ∙ rows_append table n 1

-- The point numbers of a row are bytes.
pub record Bytes (row : Row) : Type 0 where
  pub byte_p : row.p < 256
  pub byte_q : row.q < 256
  pub byte_r : row.r < 256
  pub byte_s : row.s < 256

-- the bytes of row i of a table
pub row_at : (table : List ℕ) (i j : ℕ) → get_or (drop rows_at table) (row_size * i + j) 0 ≡ get_or table (rows_at + row_size * i + j) 0
row_at table i j = get_or-drop rows_at table (row_size * i + j) 0 ∙ ap (λ k. get_or table k 0) (omega arith)

-- row i by its bytes
pub row_is : (table : List ℕ) (i : ℕ) (l : Labels) → (let at = rows_at + row_size * i in l ≡ labels_of (version table) (get_or table (at + 4) 0)
    → record {
      p = get_or table at 0;
      q = get_or table (at + 1) 0;
      r = get_or table (at + 2) 0;
      s = get_or table (at + 3) 0;
      region = l.region;
      marks = l.marks;
    } ≡ row_in table i)
unfolding row_in stored_row
row_is table i l e = rw (e, row_at table i 0, row_at table i 1, row_at table i 2, row_at table i 3, row_at table i 4, add-zero)

pub row_bytes_lem : (table : List ℕ) → ((j : ℕ) → get_or table j 0 < 256) → (i : ℕ) → Bytes (row_in table i)
unfolding row_in stored_row
row_bytes_lem table h i =
    let at : (j : ℕ) → get_or (drop rows_at table) (row_size * i + j) 0 < 256 = λ j. rw (row_at table i j) (h (rows_at + row_size * i + j)) in
    record { byte_p = at 0; byte_q = at 1; byte_r = at 2; byte_s = at 3 }

-- the region too
pub row_region : (table : List ℕ) → ((j : ℕ) → get_or table j 0 < 256) → (i : ℕ) → (row_in table i).region < 256
unfolding row_in stored_row
row_region table h i =
    read_byte (version table) (get_or (drop rows_at table) (row_size * i + 4) 0) (rw (row_at table i 4) (h (rows_at + row_size * i + 4)))

-- a block has room for what is read off it
pub row_room : (table : List ℕ) (i : ℕ) → T (has_room_for (version table) (labels (row_in table i)))
unfolding row_in stored_row
row_room table i = read_room (version table) (get_or (drop rows_at table) (row_size * i + 4) 0)

pub rows_bytes : (table : List ℕ) → ((j : ℕ) → get_or table j 0 < 256) → (n : ℕ) (row : Row) → Memᴰ row (rows_in table n) → Bytes row
rows_bytes table h n row m = let k = among_rows table n m in subst Bytes (sym k.2) (row_bytes_lem table h k.0)

pub rows_room : (table : List ℕ) (n : ℕ) (row : Row) → Memᴰ row (rows_in table n) → T (has_room_for (version table) (labels row))
rows_room table n row m =
    let k = among_rows table n m in
    subst (λ row. T (has_room_for (version table) (labels row))) (sym k.2) (row_room table k.0)
