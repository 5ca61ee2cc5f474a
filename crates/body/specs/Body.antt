-- Requirement §9: answers 3 to 8 (6 is unused) and 22, which the first 508 bytes get; and what they test, as a statement.
use Rattle.std.specs.Prelude.{ℕ, ◌+◌, ◌*◌, ◌-◌, ◌≤◌, Bool, not, ◌||◌, List, [], ◌∷◌, ◌≡◌, eqb, ltb, T, length, replicate}
use Rattle.lists.specs.Lists.{every, any}
use Rattle.volume.specs.Volume.{point_size}
use Rattle.answers.specs.Answers.{Tests}
use Rattle.rows.specs.Rows.{version, rows_at, row_size}
use Rattle.mesh.specs.Mesh.{numbers_fit, faces_apart, keeps_mesh_rule}
use Rattle.marking.specs.Marking.{agree}
use Rattle.layout.specs.Layout.{Patch, body_bytes, is_version, max_points, max_rows, zeros_at, points_at}
use Rattle.layout.specs.Layout.{point_count, row_count, part, fields_of}

-- ---- what each answer is given for

-- 3: version is neither 1 nor 2
abbrev pub version_wrong : List ℕ → Bool
version_wrong block = not (is_version (version block))

-- 4: a count is over its limit
abbrev pub count_over : List ℕ → Bool
count_over block = ltb max_points (point_count block) || ltb max_rows (row_count block)

-- one of the bytes from i to j - 1 is not zero
abbrev pub not_zero : ℕ → ℕ → List ℕ → Bool
not_zero i j block = any (λ x. not (eqb x 0)) (part i j block)

-- 5: a byte that must be zero is not: bytes 3 to 15, and those of points and rows beyond the counts
unfoldable pub zero_missing : List ℕ → Bool
zero_missing block =
    not_zero zeros_at points_at block
    || not_zero (points_at + point_size * point_count block) rows_at block
    || not_zero (rows_at + row_size * row_count block) body_bytes block

-- 7: a row's number is not below the point count, or repeats
unfoldable pub number_wrong : Patch → Bool
number_wrong patch = not (every (numbers_fit (length patch.points)) patch.rows)

-- 8: a directed face stands in two rows
abbrev pub face_twice : Patch → Bool
face_twice patch = not (faces_apart patch.rows)

-- 22: a face stands in two rows, one of which marks it and the other does not
abbrev pub marks_disagree : Patch → Bool
marks_disagree patch = not (agree patch.rows)

-- 3 to 8 without 6, then 22, which opening and sealing share
unfoldable pub body_tests : List ℕ → Tests
body_tests block =
    (3, version_wrong block)
    ∷ (4, count_over block)
    ∷ (5, zero_missing block)
    ∷ (7, number_wrong (fields_of block))
    ∷ (8, face_twice (fields_of block))
    ∷ (22, marks_disagree (fields_of block)) ∷ []

-- ---- a right body

-- the mesh rule of a patch
abbrev pub keeps_rule : Patch → Bool
keeps_rule patch = keeps_mesh_rule (length patch.points) patch.rows

-- What answers 3 to 8 and 22 test, met by the first 508 bytes.
pub record RightBody (block : List ℕ) : Type 0 where
  pub version_is : T (is_version (version block))
  pub few_points : point_count block ≤ max_points
  pub few_rows : row_count block ≤ max_rows
  pub zeros : part zeros_at points_at block ≡ replicate (points_at - zeros_at) 0
  pub zero_points : part (points_at + point_size * point_count block) rows_at block
      ≡ replicate (rows_at - (points_at + point_size * point_count block)) 0
  pub zero_rows : part (rows_at + row_size * row_count block) body_bytes block ≡ replicate (body_bytes - (rows_at + row_size * row_count block)) 0
  pub rule : T (keeps_rule (fields_of block))
  pub agrees : T (agree (fields_of block).rows)
