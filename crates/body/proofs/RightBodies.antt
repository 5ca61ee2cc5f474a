-- Answers 3 to 8 and 22 as statements: answer 0 says that each thing tested is right, and where each is right the answer is 0.
use Prim.Native.Nat.{ℕ, ◌+◌, ◌-◌, ◌*◌, ◌≤◌}
use mathlib.Core.Bool.{Bool, false, not, ◌||◌}
use mathlib.Core.List.{List}
use mathlib.Core.Path.{◌≡◌, ap, ◌∙◌}
use native.Mathlib.Omega.{arith}
use borrow.Author.Tests.{ltb-false, le-ltb, not-false}
use lib.Dec.{T, ltb}
use lib.ListN.{length, replicate}
use Rattle.lists.specs.Lists.{every}
use Rattle.lists.proofs.Tests.{and_l, and_r, and_i, yes_is, is_yes, neither_is}
use Rattle.lists.proofs.Numbers.{zeros_e, zeros_i}
use Rattle.volume.specs.Volume.{point_size}
use Rattle.answers.specs.Answers.{first_refusal}
use Rattle.answers.proofs.ByNumber.{test_of, passes}
use Rattle.rows.specs.Rows.{version, rows_at, row_size}
use Rattle.mesh.specs.Mesh.{numbers_fit, faces_apart, keeps_mesh_rule}
use Rattle.marking.specs.Marking.{agree}
use Rattle.layout.specs.Layout.{Patch, body_bytes, is_version, max_points, max_rows, zeros_at, points_at, point_count, row_count, part}
use Rattle.layout.specs.Layout.{fields_of}
use Rattle.layout.proofs.BlockParts.{part_length}
use Rattle.body.specs.Body.{body_tests, not_zero, zero_missing, number_wrong, face_twice, keeps_rule, RightBody}

-- 5: the bytes from i to j - 1 are zero
zero_part : (i j : ℕ) (block : List ℕ) → j ≤ length block → not_zero i j block ≡ false → part i j block ≡ replicate (j - i) 0
zero_part i j block h e = zeros_e (part i j block) e ∙ ap (λ n. replicate n 0) (part_length i j block h)

part_zero : (i j : ℕ) (block : List ℕ) → part i j block ≡ replicate (j - i) 0 → not_zero i j block ≡ false
part_zero i j block e = rw e (zeros_i (j - i))

-- 7 and 8: the mesh rule

abbrev fit : Patch → Bool
fit patch = every (numbers_fit (length patch.points)) patch.rows

abbrev apart : Patch → Bool
apart patch = faces_apart patch.rows

rule_met : (patch : Patch) → number_wrong patch ≡ false → face_twice patch ≡ false → T (keeps_rule patch)
unfolding number_wrong keeps_mesh_rule
rule_met patch e f =
    and_i (fit patch) (apart patch) (is_yes (fit patch) (not-false (fit patch) e)) (is_yes (apart patch) (not-false (apart patch) f))

met_numbers : (patch : Patch) → T (keeps_rule patch) → number_wrong patch ≡ false
unfolding number_wrong keeps_mesh_rule
met_numbers patch h = ap not (yes_is (fit patch) (and_l (fit patch) (apart patch) h))

met_faces : (patch : Patch) → T (keeps_rule patch) → face_twice patch ≡ false
unfolding keeps_mesh_rule
met_faces patch h = ap not (yes_is (apart patch) (and_r (fit patch) (apart patch) h))

-- what answers 3 to 8 and 22 let pass is right
pub right_body : (block : List ℕ) → body_bytes ≤ length block → first_refusal (body_tests block) ≡ 0 → RightBody block
unfolding body_tests test_of every zero_missing
right_body block h e =
    let not-given : (n : ℕ) → test_of n (body_tests block) ≡ false = λ n. passes n (body_tests block) tt e in
    let (few-p, few-r) = neither_is (ltb max_points (point_count block)) (ltb max_rows (row_count block)) (not-given 4) in
    let (zero-front, zero-r) =
    neither_is (not_zero zeros_at points_at block || not_zero (points_at + point_size * point_count block) rows_at block) _ (not-given 5) in
    let (zero-h, zero-p) = neither_is (not_zero zeros_at points_at block) _ zero-front in
    record {
      version_is = is_yes (is_version (version block)) (not-false _ (not-given 3));
      few_points = ltb-false max_points (point_count block) few-p;
      few_rows = ltb-false max_rows (row_count block) few-r;
      zeros = zero_part zeros_at points_at block (omega arith) zero-h;
      zero_points = zero_part (points_at + point_size * point_count block) rows_at block (omega arith) zero-p;
      zero_rows = zero_part (rows_at + row_size * row_count block) body_bytes block h zero-r;
      rule = rule_met (fields_of block) (not-given 7) (not-given 8);
      agrees = is_yes (agree (fields_of block).rows) (not-false _ (not-given 22));
    }

-- a right body is let pass
pub body_passes : (block : List ℕ) → RightBody block → first_refusal (body_tests block) ≡ 0
unfolding body_tests zero_missing first_refusal
body_passes block right =
    let a3 = yes_is (is_version (version block)) right.version_is in
    let a4 = le-ltb _ _ right.few_points in
    let b4 = le-ltb _ _ right.few_rows in
    let a5 = part_zero zeros_at points_at block right.zeros in
    let b5 = part_zero (points_at + point_size * point_count block) rows_at block right.zero_points in
    let c5 = part_zero (rows_at + row_size * row_count block) body_bytes block right.zero_rows in
    let a7 = met_numbers (fields_of block) right.rule in
    let a8 = met_faces (fields_of block) right.rule in
    let a22 = yes_is (agree (fields_of block).rows) right.agrees in
    rw (a3, a4, b4, a5, b5, c5, a7, a8, a22)
