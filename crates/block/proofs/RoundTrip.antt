-- Both round trips, and in one line that the layout is a bijection; and that what is sealed opens.
use Prim.Native.Nat.{ℕ, ◌*◌, ◌≤◌}
use mathlib.Core.Bool.{◌||◌}
use mathlib.Core.List.{List, [], ◌∷◌}
use mathlib.Core.Path.{◌≡◌}
use native.Mathlib.Omega.{arith}
use borrow.Author.Tests.{eqb-true, not-false}
use lib.Dec.{T}
use lib.ListN.{length, take-append-drop}
use Rattle.lists.specs.Lists.{every}
use Rattle.lists.proofs.Tests.{neither_is}
use Rattle.lists.proofs.Lists.{every_take}
use Rattle.answers.specs.Answers.{Tests}
use Rattle.answers.proofs.ByNumber.{test_of, passes, both_passed}
use Rattle.rows.specs.Rows.{version, rows_at}
use Rattle.layout.specs.Layout.{Patch, body_bytes, points_at, point_count, coordinates_of}
use Rattle.layout.specs.Layout.{fields_of, body_of, sum_bytes, sealed, bytes_of}
use Rattle.layout.specs.Within.{is_byte}
use Rattle.layout.proofs.BytesOfSlices.{part_bytes_lem}
use Rattle.layout.proofs.PatchWritten.{version_at, front_fields, room_for, points_counted, rows_counted, points_bytes, rows_fit, read_written, bytes_written}
use Rattle.body.specs.Body.{body_tests, RightBody}
use Rattle.body.proofs.RightBodies.{right_body}
use Rattle.body.proofs.BodyWritten.{body_written}
use Rattle.block.specs.Opening.{not_body, not_block, open_answer, seal_answer, seal_bytes}
use Rattle.block.specs.Holding.{Holdable, Versioned, Opening, Bijection}
use Rattle.block.proofs.RightBlocks.{right_block, opens}
use Rattle.block.proofs.RightWritten.{bytes_right, sealed_right}

-- what is written of a patch that keeps the mesh rule and whose marks agree opens
pub opens_written : (v : ℕ) (patch : Patch) → Holdable v patch → open_answer (bytes_of v patch) ≡ 0
opens_written v patch holdable =
    let within = holdable.within in
    opens (bytes_of v patch)
    (bytes_right v patch within.few_points within.few_rows within.version_is (room_for v patch.rows within.rows_fit)
    holdable.rule holdable.agrees)

-- writing the fields of a block of bytes that opens, in its version, gives the block, byte for byte
pub written_read : (block : List ℕ) → T (every is_byte block) → open_answer block ≡ 0 → bytes_of (version block) (fields_of block) ≡ block
written_read block are e =
    let right = right_block block e in
    let size = right.size in
    let body = body_written block (omega arith) are right.body in
    rw (body, ← right.sums) (take-append-drop body_bytes block)

-- the fields of a block that opens are within the limits of its version, keep the mesh rule, and their marks agree
holdable_read : (block : List ℕ) → Opening block → Holdable (version block) (fields_of block)
holdable_read block opening =
    let right = right_block block opening.answer in
    let body = right.body in
    let size = right.size in
    let room : body_bytes ≤ length block = omega arith in
    record {
      within = record {
        version_is = body.version_is;
        few_points = rw (points_counted block) body.few_points;
        few_rows = rw (rows_counted block) body.few_rows;
        coordinates =
            rw (points_bytes block room opening.bytes body.few_points)
            (every_take is_byte (3 * point_count block) (coordinates_of block) (part_bytes_lem points_at rows_at block opening.bytes));
        rows_fit = rows_fit block opening.bytes;
      };
      rule = body.rule;
      agrees = body.agrees;
    }

-- the layout is a bijection between the patches that a block of a version may hold and the blocks that open
pub layout : Bijection (λ (p : Versioned). Holdable p.0 p.1) Opening (λ p. bytes_of p.0 p.1) (λ block. (version block, fields_of block))
layout = record {
  lands = λ p holdable. record { bytes = bytes_written p.0 p.1 holdable.within; answer = opens_written p.0 p.1 holdable };
  returns = holdable_read;
  there_back = λ p holdable. same_pair (version_at p.0 p.1 (sum_bytes (body_of p.0 p.1))) (read_written p.0 p.1 holdable.within);
  back_there = λ block opening. written_read block opening.bytes opening.answer;
}
  where
    same_pair : {v w : ℕ} {patch other : Patch} → v ≡ w → patch ≡ other → ◌≡◌ {A = Versioned} (v, patch) (w, other)
    same_pair e f = rw (e, f)

-- ---- sealing

-- what sealing takes is a right body of 508 bytes
pub seal_right : (body out : List ℕ) → seal_answer body out ≡ 0 → (length body ≡ body_bytes) × RightBody body
unfolding seal_answer test_of every
seal_right body out e =
    let lengths : Tests = (1, not_body body || not_block out) ∷ [] in
    let (lengths-passed, rest-passed) = both_passed 0 lengths (body_tests body) tt e in
    let (is_IsBody, is_Block) = neither_is (not_body body) (not_block out) (passes 1 lengths tt lengths-passed) in
    let size : length body ≡ body_bytes = eqb-true _ _ (not-false _ is_IsBody) in
    (size, right_body body (omega arith) rest-passed)

-- answer 0 of sealing writes a block that opens, and holds the body's fields
pub seal_opens : (body out : List ℕ) → seal_answer body out ≡ 0
    → (open_answer (seal_bytes body out) ≡ 0) × (fields_of (seal_bytes body out) ≡ fields_of body)
unfolding seal_bytes
seal_opens body out e =
    let (size, right) = seal_right body out e in
    let sums = sum_bytes body in
    let room : body_bytes ≤ length body = omega arith in
    rw e (opens (sealed body) (sealed_right body size right), front_fields body sums room right.few_rows)
