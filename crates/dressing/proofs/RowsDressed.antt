-- Rows of a table dressed in place, one after the other: each is read as it was, whatever was written before it.
use Prim.Native.Nat.{ℕ, ◌+◌, ◌-◌, ◌*◌, ◌≤◌}
use mathlib.Core.List.{List, [], ◌∷◌, ◌++◌, map, flat_map, map-append}
use mathlib.Core.Path.{◌≡◌, sym, ap, ◌∙◌}
use native.Mathlib.Omega.{arith}
use lib.ListN.{length, get_or, take, drop, length-append, length-map}
use lib.Seq.{get_or-append-add, get_or-drop, length-take-le}
use Rattle.lists.specs.Lists.{numbers_from}
use Rattle.lists.proofs.Numbers.{numbers_length, numbers_append}
use Rattle.rows.specs.declared.Row.{Row}
use Rattle.rows.specs.Rows.{version, rows_at, row_size, row_bytes, stored_row, row_in, pasted, with_rows}
use Rattle.rows.proofs.RowsOfTables.{row_at}
use Rattle.rows.proofs.PastedRows.{rows_size, with_version, with_more}

-- a byte behind those that are written
byte_behind : (table : List ℕ) (at : ℕ) (bytes : List ℕ) (k : ℕ) → at ≤ length table → at + length bytes ≤ k
    → get_or (pasted table at bytes) k 0 ≡ get_or table k 0
byte_behind table at bytes k h l =
    let front = take at table ++ bytes in
    let rest = drop (at + length bytes) table in
    let size : length front ≡ at + length bytes = length-append (take at table) bytes ∙ ap (λ n. n + length bytes) (length-take-le at table h) in
    let e : length front + (k - (at + length bytes)) ≡ k = omega arith in
    let g : at + length bytes + (k - (at + length bytes)) ≡ k = omega arith in
    ap (λ n. get_or (front ++ rest) n 0) (sym e)
    ∙ get_or-append-add front rest (k - (at + length bytes)) 0
    ∙ get_or-drop (at + length bytes) table (k - (at + length bytes)) 0
    ∙ ap (λ n. get_or table n 0) g

-- a row behind those that are written
pub later_row : (table : List ℕ) (at : ℕ) (rows : List Row) (i : ℕ) → rows_at + row_size * at ≤ length table → at + length rows ≤ i
    → row_in (with_rows table at rows) i ≡ row_in table i
unfolding row_in stored_row
later_row table at rows i h l =
    let after = with_rows table at rows in
    let size = rows_size (version table) rows in
    let same : (j : ℕ) → get_or (drop rows_at after) (row_size * i + j) 0 ≡ get_or (drop rows_at table) (row_size * i + j) 0 = λ j.
    row_at after i j
    ∙ byte_behind table (rows_at + row_size * at) (flat_map (row_bytes (version table)) rows) (rows_at + row_size * i + j) h (omega arith)
    ∙ sym (row_at table i j) in
    rw (with_version table at rows h, same 0, same 1, same 2, same 3, same 4)

module _ (table : List ℕ) (from : ℕ) (dress : Row → Row) where
  -- the rows from a place on up to another, dressed
  abbrev pub up_to : ℕ → List Row
  up_to i = map dress (map (row_in table) (numbers_from from (i - from)))

  pub up_to_size : (i : ℕ) → length (up_to i) ≡ i - from
  up_to_size i = length-map (map (row_in table) (numbers_from from (i - from))) dress ∙ length-map (numbers_from from (i - from)) (row_in table) ∙ numbers_length from (i - from)

  -- one row more
  pub dressed_more : (rows : List ℕ) (i : ℕ) → from ≤ i → rows_at + row_size * from ≤ length table → rows ≡ with_rows table from (up_to i)
      → with_rows rows i (dress (row_in rows i) ∷ []) ≡ with_rows table from (up_to (i + 1))
  unfolding numbers_from
  dressed_more rows i l h e =
      let size = up_to_size i in
      let next : i + 1 - from ≡ (i - from) + 1 = omega arith in
      let place : from + (i - from) ≡ i = omega arith in
      let numbers = numbers_from from (i - from) in
      let more : up_to (i + 1) ≡ up_to i ++ dress (row_in table i) ∷ [] =
      ap (λ n. map dress (map (row_in table) (numbers_from from n))) next
      ∙ ap (λ ns. map dress (map (row_in table) ns)) (numbers_append from (i - from) 1 ∙ ap (λ k. numbers ++ k ∷ []) place)
      ∙ ap (map dress) (map-append (row_in table) numbers (i ∷ []))
      ∙ map-append dress (map (row_in table) numbers) (row_in table i ∷ []) in
      let own : row_in rows i ≡ row_in table i = ap (λ t. row_in t i) e ∙ later_row table from (up_to i) i h (omega arith) in
      rw (own, e) (with_more table from i (up_to i) (dress (row_in table i) ∷ []) (omega arith) h) ∙ ap (with_rows table from) (sym more)
