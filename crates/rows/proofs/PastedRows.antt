-- Bytes and rows written into a table from a place on:
-- behind a front they follow it, and what is written behind what was written is one piece.
use Prim.Native.Nat.{ℕ, ◌+◌, ◌*◌, ◌≤◌}
use mathlib.Core.List.{List, [], ◌∷◌, ◌++◌, append_assoc, append-nil, flat_map}
use mathlib.Core.Path.{◌≡◌, refl, sym, ap, ◌∙◌}
use native.Mathlib.Numerals.{add-one, add-two, add-three, add-four}
use native.Mathlib.Omega.{arith}
use lib.ListN.{length, take, drop, set, length-append, length-drop, take-append-drop, get_or-append}
use lib.Seq.{get_or-take, take_at, drop-append-add, drop-drop, length-take-le, sets-eq}
use Rattle.lists.proofs.Images.{flat_map_append}
use Rattle.rows.specs.declared.Row.{Row}
use Rattle.rows.specs.Labels.{label_byte}
use Rattle.rows.specs.Rows.{version, rows_at, row_size, labels, row_bytes, pasted, with_rows}

-- ---- bytes

-- bytes behind a front
pub pasted_behind : (front rest bytes : List ℕ) (n : ℕ) → length front ≡ n
    → pasted (front ++ rest) n bytes ≡ front ++ bytes ++ drop (length bytes) rest
pasted_behind front rest bytes n h =
    rw (take_at front rest n h, ← h, drop-append-add front rest (length bytes))

-- bytes behind bytes
pasted_pasted : (table bytes more : List ℕ) (n k : ℕ) → n ≤ length table → n + length bytes ≡ k
    → pasted (pasted table n bytes) k more ≡ pasted table n (bytes ++ more)
pasted_pasted table bytes more n k h e =
    let front = take n table ++ bytes in
    let size : length front ≡ k = length-append (take n table) bytes ∙ (ap (λ i. i + length bytes) (length-take-le n table h) ∙ e) in
    let all : n + length bytes + length more ≡ n + length (bytes ++ more) = omega (arith, length-append bytes more) in
    pasted_behind front (drop (n + length bytes) table) more k size
    ∙ rw (drop-drop (length more) (n + length bytes) table, all, append_assoc (take n table) bytes more)

-- no bytes
pasted_none : (table : List ℕ) (at : ℕ) → table ≡ pasted table at []
pasted_none table at =
    let here : at + 0 ≡ at = omega arith in
    sym (rw (here, append-nil) (take-append-drop at table))

-- ---- rows

-- the bytes of some rows
pub rows_size : (version : ℕ) (rows : List Row) → length (flat_map (row_bytes version) rows) ≡ row_size * length rows
unfolding flat_map
rows_size version [] = refl
rows_size version (row ∷ rows) = let h = rows_size version rows in omega arith

-- one row: its five bytes stored one after the other
pub with_one_lem : (table : List ℕ) (i : ℕ) (row : Row) (byte : ℕ) → byte ≡ label_byte (version table) (labels row)
    → rows_at + row_size * i + row_size ≤ length table → (let at = rows_at + row_size * i in
    set (set (set (set (set table at row.p) (at + 1) row.q) (at + 2) row.r) (at + 3) row.s) (at + 4) byte)
    ≡ with_rows table i (row ∷ [])
unfolding flat_map
with_one_lem table i row byte e inside =
    let at = rows_at + row_size * i in
    rw (e, add-one at, add-two at, add-three at, add-four at) (sets-eq (row_bytes (version table) row) table at inside)

-- no rows
pub with_none : (table : List ℕ) (at : ℕ) {rows : List Row} → rows ≡ [] → table ≡ with_rows table at rows
unfolding flat_map
with_none table at e = rw e (pasted_none table (rows_at + row_size * at))

-- the version stays
pub with_version : (table : List ℕ) (at : ℕ) (rows : List Row) → rows_at + row_size * at ≤ length table → version (with_rows table at rows) ≡ version table
with_version table at rows h =
    let n = rows_at + row_size * at in
    let front = take n table in
    let bytes = flat_map (row_bytes (version table)) rows in
    let size = length-take-le n table h in
    get_or-append (front ++ bytes) (drop (n + length bytes) table) 0 0 (omega (arith, length-append front bytes))
    ∙ (get_or-append front bytes 0 0 (omega arith) ∙ get_or-take n table 0 0 (omega arith))

-- the length stays
pub with_length : (table : List ℕ) (at : ℕ) (rows : List Row) → rows_at + row_size * (at + length rows) ≤ length table
    → length (with_rows table at rows) ≡ length table
with_length table at rows h =
    let n = rows_at + row_size * at in
    let bytes = flat_map (row_bytes (version table)) rows in
    let size = rows_size (version table) rows in
    let front = length-take-le n table (omega arith) in
    simp (length-append, length-drop) (omega arith)

-- rows behind rows
pub with_more : (table : List ℕ) (at next : ℕ) (xs ys : List Row) → at + length xs ≡ next → rows_at + row_size * at ≤ length table
    → with_rows (with_rows table at xs) next ys ≡ with_rows table at (xs ++ ys)
with_more table at next xs ys e h =
    let v = version table in
    let size = rows_size v xs in
    rw (with_version table at xs h)
    (pasted_pasted table (flat_map (row_bytes v) xs) (flat_map (row_bytes v) ys) (rows_at + row_size * at) (rows_at + row_size * next) h (omega arith)
    ∙ ap (pasted table (rows_at + row_size * at)) (sym (flat_map_append (row_bytes v) xs ys)))
