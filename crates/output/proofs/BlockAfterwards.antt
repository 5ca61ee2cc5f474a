-- A block that is begun, its rows written where they belong, and finished is the block of the patch with these rows. The front of a block
-- that opens is the front of its fields written, and only its byte 2 changes.
use Prim.Native.Nat.{ℕ, ◌+◌, ◌-◌, ◌*◌, ◌≤◌}
use mathlib.Core.List.{List, [], ◌∷◌, ◌++◌, flat_map, append_assoc}
use mathlib.Core.Path.{◌≡◌, sym, ap, ◌∙◌}
use native.Mathlib.Omega.{arith}
use lib.Dec.{T}
use lib.ListN.{length, take, drop, set, replicate, length-append, length-drop, length-replicate, get_or-append}
use lib.Seq.{get_or-take, take_at, take-take, drop_at, drop-drop, drop-append-le, set-append_left, length-take-le}
use Rattle.lists.specs.Lists.{every}
use Rattle.lists.proofs.Numbers.{drop_zeros}
use Rattle.volume.specs.Volume.{point_bytes}
use Rattle.rows.specs.declared.Row.{Row}
use Rattle.rows.specs.Rows.{version, rows_at, row_size, row_bytes, pasted, with_rows}
use Rattle.rows.proofs.PastedRows.{pasted_behind, rows_size}
use Rattle.layout.specs.Layout.{block_bytes, body_bytes, max_rows, points_at}
use Rattle.layout.specs.Layout.{part, fields_of, filled, body_of, sealed, bytes_of}
use Rattle.layout.specs.Within.{is_byte}
use Rattle.block.specs.Opening.{open_answer}
use Rattle.layout.proofs.CellsReadBack.{point_cells, written_length}
use Rattle.layout.proofs.BlockParts.{filled_length}
use Rattle.block.proofs.RightBlocks.{right_block}
use Rattle.layout.proofs.PatchWritten.{points_counted}
use Rattle.body.proofs.BodyWritten.{body_written}
use Rattle.output.specs.Steps.{table_bytes, begun}
use Rattle.output.specs.Output.{patch_with}

-- the version, the counts and what follows up to the points
abbrev head : ℕ → ℕ → ℕ → List ℕ
head v points rows = filled points_at (v ∷ points ∷ rows ∷ [])

-- a block that is begun has the version of the other, and the length of a block
module _ (block : List ℕ) (opens : open_answer block ≡ 0) where
  block_front : length (take rows_at block) ≡ rows_at
  block_front = length-take-le rows_at block (omega (arith, (right_block block opens).size))

  module _ (out one : List ℕ) (size : length out ≡ block_bytes) (is-begun : one ≡ begun block out) where
    pub begun_version : version one ≡ version block
    begun_version =
        ap version is-begun
        ∙ (get_or-append (take rows_at block) (replicate table_bytes 0 ++ drop body_bytes out) 0 0 (omega (arith, block_front))
        ∙ get_or-take rows_at block 0 0 (omega arith))

    pub begun_length : length one ≡ block_bytes
    begun_length =
        ap length is-begun ∙ simp (length-append, length-replicate, length-drop) (omega (arith, block_front, size))

-- bytes 0 to 207 of a block of bytes that opens: the head, then the points
module _ (block : List ℕ) (are : T (every is_byte block)) (opens : open_answer block ≡ 0) where
  abbrev points : List ℕ
  points = filled (rows_at - points_at) (flat_map point_bytes (fields_of block).points)

  abbrev count : ℕ
  count = length (fields_of block).points

  front_size : (rows : ℕ) → length (head (version block) count rows ++ points) ≡ rows_at
  front_size rows =
      let few = (right_block block opens).body.few_points in
      let size = filled_length 192 (flat_map point_bytes (fields_of block).points)
      (omega (arith, written_length point_cells (fields_of block).points, points_counted block)) in
      length-append (head (version block) count rows) points ∙ ap (λ n. 16 + n) size

  front_read : take rows_at block ≡ head (version block) count (length (fields_of block).rows) ++ points
  unfolding body_of
  front_read =
      let right = right_block block opens in
      let size = right.size in
      let rows = (fields_of block).rows in
      sym (take-take 208 508 block (omega arith))
      ∙ (ap (take 208) (sym (body_written block (omega arith) are right.body))
      ∙ take_at (head (version block) count (length rows) ++ points) (filled 300 (flat_map (row_bytes (version block)) rows)) 208
      (front_size (length rows)))

  module _ (out one : List ℕ) (size : length out ≡ block_bytes) (is-begun : one ≡ begun block out) where
    -- rows written into it
    rows_in_place : (rows : List Row) → length rows ≤ max_rows
        → with_rows one 0 rows ≡ take rows_at block ++ (filled table_bytes (flat_map (row_bytes (version block)) rows) ++ drop body_bytes out)
    rows_in_place rows few =
        let bytes = flat_map (row_bytes (version block)) rows in
        let many = rows_size (version block) rows in
        let zeros : List ℕ = replicate table_bytes 0 in
        let room : length bytes ≤ length zeros = simp length-replicate (omega arith) in
        let rest = drop body_bytes out in
        let here : rows_at + row_size * 0 ≡ rows_at = omega arith in
        ap (λ v. pasted one (rows_at + row_size * 0) (flat_map (row_bytes v) rows)) (begun_version block opens out one size is-begun)
        ∙ ap (λ k. pasted one k bytes) here
        ∙ ap (λ t. pasted t rows_at bytes) is-begun
        ∙ pasted_behind (take rows_at block) (zeros ++ rest) bytes rows_at (block_front block opens)
        ∙ ap (λ l. take rows_at block ++ bytes ++ l)
        (drop-append-le (length bytes) zeros rest room ∙ ap (λ l. l ++ rest) (drop_zeros (length bytes) table_bytes))
        ∙ rw (
          append_assoc (take rows_at block) bytes (replicate (table_bytes - length bytes) 0 ++ rest),
          ← (append_assoc bytes (replicate (table_bytes - length bytes) 0) rest),
        )

    -- and finished: the block of the patch with these rows
    pub block_finished : (rows : List Row) → length rows ≤ max_rows → (two : List ℕ) → two ≡ with_rows one 0 rows → (n : ℕ) → n ≡ length rows
        → (done : List ℕ) → done ≡ sealed (take body_bytes (set two 2 n))
        → done ≡ bytes_of (version block) (patch_with (fields_of block).points rows)
    unfolding body_of
    block_finished rows few two t n k done d =
        let v = version block in
        let table = filled table_bytes (flat_map (row_bytes v) rows) in
        let table_size = filled_length table_bytes (flat_map (row_bytes v) rows) (omega (arith, rows_size v rows)) in
        let rest = drop body_bytes out in
        let top = head v count (length rows) ++ points in
        let top-is : set (take rows_at block) 2 n ≡ top = ap (λ front. set front 2 n) front_read ∙ ap (λ m. head v count m ++ points) k in
        let all : set two 2 n ≡ top ++ table ++ rest =
        ap (λ l. set l 2 n) (t ∙ rows_in_place rows few)
        ∙ set-append_left (take rows_at block) (table ++ rest) 2 n (omega (arith, (block_front block opens)))
        ∙ ap (λ front. front ++ (table ++ rest)) top-is
        ∙ sym (append_assoc top table rest) in
        d
        ∙ ap (λ l. sealed (take body_bytes l)) all
        ∙ ap sealed (take_at (top ++ table) rest body_bytes (length-append top table ∙ rw (front_size (length rows), table_size)))

-- the front copied and the bytes of the rows cleared
pub front_cleared : (block out one zeros two : List ℕ) → open_answer block ≡ 0 → length out ≡ block_bytes
    → one ≡ take rows_at block ++ drop (length (take rows_at block)) out
    → zeros ≡ replicate (length (part rows_at body_bytes one)) 0
    → two ≡ take rows_at one ++ (zeros ++ drop (body_bytes - rows_at) (drop rows_at one))
    → two ≡ begun block out
front_cleared block out one zeros two opens output e1 e2 e3 =
    let size = (right_block block opens).size in
    let is_front = length-take-le rows_at block (omega arith) in
    let copied : one ≡ take rows_at block ++ drop rows_at out = e1 ∙ ap (λ k. take rows_at block ++ drop k out) is_front in
    let is-top : take rows_at one ≡ take rows_at block = ap (take rows_at) copied ∙ take_at (take rows_at block) (drop rows_at out) rows_at is_front in
    let is-rest : drop rows_at one ≡ drop rows_at out = ap (drop rows_at) copied ∙ drop_at (take rows_at block) (drop rows_at out) rows_at is_front in
    let behind : drop (body_bytes - rows_at) (drop rows_at one) ≡ drop body_bytes out =
    ap (drop (body_bytes - rows_at)) is-rest ∙ drop-drop (body_bytes - rows_at) rows_at out in
    let many : length (part rows_at body_bytes one) ≡ table_bytes =
    ap (λ l. length (take (body_bytes - rows_at) l)) is-rest
    ∙ length-take-le (body_bytes - rows_at) (drop rows_at out) (simp length-drop (omega (arith, output))) in
    let none : zeros ≡ replicate table_bytes 0 = e2 ∙ ap (λ k. replicate k 0) many in
    e3 ∙ rw (is-top, none, behind)
