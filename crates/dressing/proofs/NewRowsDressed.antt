-- New rows written plain behind the kept ones and then dressed in place: what stands there in the end is the dressed ones. A block has room for
-- both, as the new rows have the region of rows that were read off it, and no marks but those of its rows.
use Prim.Native.Nat.{ℕ, ◌+◌, ◌-◌, ◌*◌, ◌≤◌}
use mathlib.Core.Bool.{Bool, true, false, cond, not}
use mathlib.Core.List.Memᴰ
use mathlib.Core.List.{List, ◌++◌, map, flat_map, append_assoc, Memᴰ}
use mathlib.Core.Option.{Option, none, some, get_or}
use mathlib.Core.Path.{◌≡◌, refl, sym, ap, ◌∙◌, subst}
use native.Mathlib.Omega.{arith}
use lib.Dec.{T, eqb, ltb}
use lib.ListN.{length, take, drop, length-append, length-map}
use lib.Seq.{drop_at, length-take-le}
use Rattle.lists.specs.Lists.{every, any, numbers_from, first}
use Rattle.lists.proofs.Tests.{no_is}
use Rattle.lists.proofs.Lists.{every_i, every_both, first_some, not_any}
use Rattle.rows.specs.declared.Row.{Row}
use Rattle.rows.specs.declared.Labels.{Labels}
use Rattle.rows.specs.Labels.{plain_version, four_bits, no_marks, same_marks, has_room_for}
use Rattle.rows.specs.Rows.{version, rows_at, row_size, row_in, rows_in, row_bytes, pasted, with_rows, labels}
use Rattle.rows.specs.Regions.{in_region, region_of}
use Rattle.rows.proofs.LabelsReadBack.{same_marks_lem}
use Rattle.rows.proofs.RowsOfTables.{rows_length, rows_append}
use Rattle.rows.proofs.PastedRows.{pasted_behind, rows_size, with_version, with_length, with_more}
use Rattle.mesh.specs.Mesh.{Face, same_face, reversed, uses}
use Rattle.layout.proofs.CellsReadBack.{roomy, rows_read}
use Rattle.marking.specs.Marking.{marks, dress_by, new_mark, dressed}
use Rattle.marking.proofs.AgreeByKeys.{unmarked_none}

-- ---- rows in place of others

-- bytes in place of as many others
pasted_over : (table xs ys : List ℕ) (n : ℕ) → n ≤ length table → length xs ≡ length ys → pasted (pasted table n xs) n ys ≡ pasted table n ys
pasted_over table xs ys n h e =
    let front = take n table in
    let rest = drop (n + length xs) table in
    ap (λ t. pasted t n ys) (append_assoc front xs rest)
    ∙ pasted_behind front (xs ++ rest) ys n (length-take-le n table h)
    ∙ ap (λ l. front ++ ys ++ l) (drop_at xs rest (length ys) e)
    ∙ ap (λ k. front ++ ys ++ drop (n + k) table) e

with_over : (table : List ℕ) (xs ys zs : List Row) (k : ℕ) → k ≡ length xs → length ys ≡ length zs → rows_at + row_size * (k + length ys) ≤ length table
    → with_rows (with_rows table 0 (xs ++ ys)) k zs ≡ with_rows table 0 (xs ++ zs)
with_over table xs ys zs k e f h =
    let one = with_rows table 0 xs in
    let v = version table in
    let size : length one ≡ length table = with_length table 0 xs (omega arith) in
    let room : rows_at + row_size * k ≤ length one = omega arith in
    let own : version one ≡ v = with_version table 0 xs (omega arith) in
    let two : with_rows table 0 (xs ++ ys) ≡ with_rows one k ys = sym (with_more table 0 k xs ys (omega arith) (omega arith)) in
    let many : length (flat_map (row_bytes (version one)) ys) ≡ length (flat_map (row_bytes (version one)) zs) =
    rows_size (version one) ys ∙ ap (λ n. row_size * n) f ∙ sym (rows_size (version one) zs) in
    ap (λ t. with_rows t k zs) two
    ∙ ap (λ w. pasted (with_rows one k ys) (rows_at + row_size * k) (flat_map (row_bytes w) zs)) (with_version one k ys room)
    ∙ pasted_over one (flat_map (row_bytes (version one)) ys) (flat_map (row_bytes (version one)) zs) (rows_at + row_size * k) room many
    ∙ with_more table 0 k xs zs (omega arith) (omega arith)

-- ---- reading back what was written

-- the rows of a table with rows written to its front
pub written_read : (table : List ℕ) (rows : List Row) → T (every (roomy (version table)) rows) → rows_at + row_size * length rows ≤ length table
    → rows_in (with_rows table 0 rows) (length rows) ≡ rows
written_read table rows fit room =
    let bytes = flat_map (row_bytes (version table)) rows in
    let same = with_version table 0 rows (omega arith) in
    let here : rows_at + row_size * 0 ≡ rows_at = omega arith in
    let rest = drop (rows_at + length bytes) table in
    rows_read (with_rows table 0 rows) rows rest (rw same fit)
    (rw same
    (ap (λ k. drop rows_at (pasted table k bytes)) here
    ∙ ap (drop rows_at) (append_assoc (take rows_at table) bytes rest)
    ∙ drop_at (take rows_at table) (bytes ++ rest) rows_at (length-take-le rows_at table (omega arith))))

module _ (table : List ℕ) (kept new : List Row) (k end : ℕ) (k-is : k ≡ length kept) (end_is : end ≡ k + length new)
    (room : rows_at + row_size * end ≤ length table) (fit : T (every (roomy (version table)) (kept ++ new)))
    (two : List ℕ) (two_is : two ≡ with_rows table 0 (kept ++ new)) where
  all : length (kept ++ new) ≡ end
  all = omega (arith, length-append kept new)

  -- the new rows, read
  new_read : map (row_in two) (numbers_from k (end - k)) ≡ new
  new_read =
      let whole : rows_in two end ≡ kept ++ new =
      ap (rows_in two) (sym all) ∙ ap (λ t. rows_in t (length (kept ++ new))) two_is ∙ written_read table (kept ++ new) fit (omega (arith, all)) in
      let n : k + (end - k) ≡ end = omega arith in
      let parts : rows_in two k ++ map (row_in two) (numbers_from k (end - k)) ≡ kept ++ new =
      sym (rows_append two k (end - k)) ∙ ap (rows_in two) n ∙ whole in
      sym (drop_at (rows_in two k) (map (row_in two) (numbers_from k (end - k))) k (rows_length two k))
      ∙ ap (drop k) parts
      ∙ drop_at kept new k (sym k-is)

  -- the new rows, dressed where they stand
  pub dressed_in_place : (before others : List Row) (three : List ℕ)
      → three ≡ with_rows two k (dressed before others (map (row_in two) (numbers_from k (end - k))))
      → three ≡ with_rows table 0 (kept ++ dressed before others new)
  dressed_in_place before others three is =
      is
      ∙ ap (λ rows. with_rows two k (dressed before others rows)) new_read
      ∙ ap (λ t. with_rows t k (dressed before others new)) two_is
      ∙ with_over table kept new (dressed before others new) k k-is (sym (length-map new (dress_by (new_mark before others)))) (omega (arith, end_is))

-- ---- room

-- for a region without marks where there was room for it with some
plain_room : (v : ℕ) (l : Labels) → T (has_room_for v l) → T (has_room_for v (record { region = l.region; marks = no_marks }))
unfolding has_room_for
plain_room v l = go (eqb v plain_version)
  where
    go : (b : Bool) → T (cond b (same_marks l.marks no_marks) (ltb l.region four_bits))
        → T (cond b (same_marks no_marks no_marks) (ltb l.region four_bits))
    go true h = tt
    go false h = h

-- for region 0
zero_room : (v : ℕ) → T (has_room_for v (record { region = 0; marks = no_marks }))
unfolding has_room_for
zero_room v = go (eqb v plain_version)
  where
    go : (b : Bool) → T (cond b (same_marks no_marks no_marks) (ltb 0 four_bits))
    go true = tt
    go false = tt

-- for the region of some rows, without marks
region_room : (v : ℕ) (rows : List Row) → ((row : Row) → Memᴰ row rows → T (roomy v row))
    → T (has_room_for v (record { region = region_of rows; marks = no_marks }))
unfolding region_of
region_room v rows fit = go (first one regions) refl
  where
    one : ℕ → Bool
    one g = every (in_region g) rows

    regions : List ℕ
    regions = map (λ (row : Row). row.region) rows

    go : (o : Option ℕ) → first one regions ≡ o → T (has_room_for v (record { region = get_or o 0; marks = no_marks }))
    go none e = zero_room v
    go (some g) e =
        let (row, m, is) = Memᴰ.of_map (λ (row : Row). row.region) rows (first_some one regions e).0 in
        subst (λ g. T (has_room_for v (record { region = g; marks = no_marks }))) is (plain_room v (labels row) (fit row m))

-- A row as new rows are written: with the region of some rows, and no marks.
pub record Plain (removed : List Row) (row : Row) : Type 0 where
  pub own_region : row.region ≡ region_of removed
  pub unmarked : row.marks ≡ no_marks

module _ (v : ℕ) (removed kept new : List Row) (fit : (row : Row) → Memᴰ row removed → T (roomy v row))
    (stay : (row : Row) → Memᴰ row kept → T (roomy v row)) (plain : (row : Row) → Memᴰ row new → Plain removed row) where
  -- for the new rows without marks
  plain_roomy : (row : Row) → Memᴰ row new → T (roomy v row)
  plain_roomy row m = rw ((plain row m).own_region, (plain row m).unmarked) (region_room v removed fit)

  pub room_plain : T (every (roomy v) (kept ++ new))
  room_plain = every_both (roomy v) kept new (every_i (roomy v) kept stay) (every_i (roomy v) new plain_roomy)

  -- a block of version 1 has room for no marks, so its rows have none
  first_unmarked : (row : Row) → eqb v plain_version ≡ true → T (roomy v row) → row.marks ≡ no_marks
  unfolding has_room_for
  first_unmarked row e h =
      same_marks_lem row.marks no_marks (rw e at h)

  none_marked : (rows : List Row) → ((row : Row) → Memᴰ row rows → T (roomy v row)) → eqb v plain_version ≡ true
      → (f : Face) → any (marks f) rows ≡ false
  unfolding marks
  none_marked rows room e f =
      no_is (any (marks f) rows) (not_any (marks f) rows (every_i (λ row. not (marks f row)) rows
      (λ row m. unmarked_none row (first_unmarked row e (room row m)) (same_face f))))

  no_new_mark : eqb v plain_version ≡ true → (f : Face) → new_mark removed kept f ≡ false
  unfolding new_mark
  no_new_mark e f = go (any (uses f) removed) (any (uses (reversed f)) kept)
    where
      go : (a b : Bool) → cond a (any (marks f) removed) (cond b (any (marks (reversed f)) kept) false) ≡ false
      go true b = none_marked removed fit e f
      go false true = none_marked kept stay e (reversed f)
      go false false = refl

  -- for the new rows with their marks
  dressed_roomy : (row : Row) → Memᴰ row new → T (roomy v (dress_by (new_mark removed kept) row))
  unfolding dress_by has_room_for
  dressed_roomy row m = go (eqb v plain_version) refl (plain_roomy row m)
    where
      go : (b : Bool) → eqb v plain_version ≡ b → T (roomy v row)
          → T (cond b (same_marks (dress_by (new_mark removed kept) row).marks no_marks) (ltb row.region four_bits))
      go true e h =
          let none = no_new_mark e in
          rw (none (row.q, row.r, row.s), none (row.p, row.s, row.r), none (row.p, row.q, row.s), none (row.p, row.r, row.q)) tt
      go false e h = rw e at h

  pub room_dressed : T (every (roomy v) (kept ++ dressed removed kept new))
  room_dressed =
      every_both (roomy v) kept (dressed removed kept new) (every_i (roomy v) kept stay)
      (every_i (roomy v) (dressed removed kept new) (λ row m.
      let (plain, k, is) = Memᴰ.of_map (dress_by (new_mark removed kept)) new m in
      subst (λ row. T (roomy v row)) is (dressed_roomy plain k)))
