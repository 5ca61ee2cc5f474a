-- What is written of a patch that keeps the rule is a right body; the fields of a right body, written, are the body. What answers 7, 8 and
-- 22 test is in the bytes what it is in the fields.
use Prim.Native.Nat.{ℕ, ◌+◌, ◌*◌, ◌≤◌}
use mathlib.Core.Bool.{not}
use mathlib.Core.List.{List, [], ◌∷◌, ◌++◌, flat_map}
use mathlib.Core.Path.{◌≡◌, refl, sym, ap, ◌∙◌}
use native.Mathlib.Omega.{arith}
use lib.Dec.{T}
use lib.ListN.{length, take, get_or-append}
use Rattle.lists.specs.Lists.{every}
use Rattle.volume.specs.Volume.{point_bytes}
use Rattle.volume.proofs.PointsInBytes.{points_length}
use Rattle.rows.specs.Rows.{version, row_bytes, rows_in}
use Rattle.mesh.specs.Mesh.{numbers_fit, faces_apart}
use Rattle.marking.specs.Marking.{agree}
use Rattle.layout.specs.Layout.{Patch, body_bytes, is_version, max_points, max_rows, zeros_at, points_at, point_count, row_count, part, coordinates_of}
use Rattle.layout.specs.Layout.{table_of, fields_of, filled, body_of}
use Rattle.layout.specs.Within.{is_byte}
use Rattle.layout.proofs.CellsReadBack.{point_cells, row_cells, roomy, written_length}
use Rattle.layout.proofs.BlockParts.{part_cut, zero_behind, filled_behind}
use Rattle.layout.proofs.PatchWritten.{coordinates_at, table_at, points_at_lem, rows_at_lem, version_at, zeros_at_lem, body_read}
use Rattle.layout.proofs.PatchWritten.{body_room, front_part, front_fields, points_counted, rows_counted, points_bytes, rows_bytes}
use Rattle.body.specs.Body.{number_wrong, face_twice, marks_disagree, keeps_rule, RightBody}

-- ---- a written patch

module _ (v : ℕ) (patch : Patch) (few_points : length patch.points ≤ max_points) (few_rows : length patch.rows ≤ max_rows) where
  -- a written patch is a right body, whatever stands behind it
  pub body_right : T (is_version v) → T (every (roomy v) patch.rows) → T (keeps_rule patch) → T (agree patch.rows) → (rest : List ℕ)
      → RightBody (body_of v patch ++ rest)
  body_right is fit rule agrees rest =
      let block = body_of v patch ++ rest in
      let points = patch.points in
      let rows = patch.rows in
      let fields = body_read v patch few_points few_rows fit rest in
      let room = body_room v patch few_points few_rows rest in
      record {
        version_is = rw (version_at v patch rest) is;
        few_points = rw (points_at_lem v patch rest) few_points;
        few_rows = rw (rows_at_lem v patch rest) few_rows;
        zeros = zeros_at_lem v patch rest;
        zero_points =
            rw (points_at_lem v patch rest)
            (zero_behind 16 208 (3 * length points) block (flat_map point_bytes points) (omega arith) (omega arith)
            (written_length point_cells points) (coordinates_at v patch few_points few_rows rest));
        zero_rows =
            rw (rows_at_lem v patch rest)
            (zero_behind 208 508 (5 * length rows) block (flat_map (row_bytes v) rows) room (omega arith)
            (written_length (row_cells v) rows) (table_at v patch few_points few_rows rest));
        rule = rw fields rule;
        agrees = rw fields agrees;
      }

-- ---- what the tests of the bytes say of the fields

-- the numbers that are tested are those of the rows, against the count
pub numbers_tested : (block : List ℕ)
    → number_wrong (fields_of block) ≡ not (every (numbers_fit (point_count block)) (rows_in block (row_count block)))
unfolding number_wrong fields_of
numbers_tested block = rw points_length

-- the faces that are tested are those of the rows
pub faces_tested : (block : List ℕ) → face_twice (fields_of block) ≡ not (faces_apart (rows_in block (row_count block)))
unfolding fields_of
faces_tested block = refl

-- the marks that are compared are those of the rows
pub marks_tested : (block : List ℕ) → marks_disagree (fields_of block) ≡ not (agree (rows_in block (row_count block)))
unfolding fields_of
marks_tested block = refl

-- ---- a right body

-- the front of a list, byte by byte
front : (block : List ℕ) → body_bytes ≤ length block
    → part 0 points_at block ≡ version block ∷ point_count block ∷ row_count block ∷ part zeros_at points_at block
front [] h = absurd (omega arith)
front (a ∷ []) h = absurd (omega arith)
front (a ∷ b ∷ []) h = absurd (omega arith)
front (a ∷ b ∷ c ∷ block) h = refl

head_same : {a d b e c f : ℕ} {xs ys : List ℕ} → a ≡ d → b ≡ e → c ≡ f → xs ≡ ys → a ∷ b ∷ c ∷ xs ≡ d ∷ e ∷ f ∷ ys
head_same p q r s = cc

three_same : {a d b e c f : List ℕ} → a ≡ d → b ≡ e → c ≡ f → a ++ b ++ c ≡ d ++ e ++ f
three_same p q r = cc

three_parts : (block : List ℕ) → part 0 points_at block ++ coordinates_of block ++ table_of block ≡ take body_bytes block
three_parts block =
    ap (λ xs. xs ++ table_of block) (sym (part_cut 0 16 208 block (omega arith) (omega arith)))
    ∙ sym (part_cut 0 208 508 block (omega arith) (omega arith))

module _ (block : List ℕ) (room : body_bytes ≤ length block) (are : T (every is_byte block)) (right : RightBody block) where
  -- the fields of a block of bytes, written in its version, are the first 508 bytes
  pub body_written : body_of (version block) (fields_of block) ≡ take body_bytes block
  unfolding body_of
  body_written =
      three_same
      (head_same refl (points_counted block) (rows_counted block) (sym right.zeros) ∙ sym (front block room))
      (ap (filled 192) (points_bytes block room are right.few_points)
      ∙ filled_behind 16 208 (3 * point_count block) block (omega arith) (omega (arith, right.few_points)) right.zero_points)
      (ap (filled 300) (rows_bytes block room are right.few_rows)
      ∙ filled_behind 208 508 (5 * row_count block) block room (omega (arith, right.few_rows)) right.zero_rows)
      ∙ three_parts block

-- a right body stays one with anything behind it
pub front_right : (body rest : List ℕ) → body_bytes ≤ length body → RightBody body → RightBody (body ++ rest)
front_right body rest room right =
    let fields = front_fields body rest room right.few_rows in
    let points : point_count (body ++ rest) ≡ point_count body = get_or-append body rest 0 1 (omega arith) in
    let rows : row_count (body ++ rest) ≡ row_count body = get_or-append body rest 0 2 (omega arith) in
    let own : version (body ++ rest) ≡ version body = get_or-append body rest 0 0 (omega arith) in
    let few_points = right.few_points in
    let few_rows = right.few_rows in
    record {
      version_is = rw own right.version_is;
      few_points = rw points few_points;
      few_rows = rw rows few_rows;
      zeros = front_part body rest room 3 16 (omega arith) (omega arith) ∙ right.zeros;
      zero_points = rw points (front_part body rest room (16 + 3 * point_count body) 208 (omega arith) (omega arith) ∙ right.zero_points);
      zero_rows = rw rows (front_part body rest room (208 + 5 * row_count body) 508 (omega arith) (omega arith) ∙ right.zero_rows);
      rule = rw fields right.rule;
      agrees = rw fields right.agrees;
    }
