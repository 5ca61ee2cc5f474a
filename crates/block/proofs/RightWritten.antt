-- The 512 bytes of a patch that keeps the rule are a right block.
use Prim.Native.Nat.{ℕ, ◌≤◌}
use mathlib.Core.List.{List}
use mathlib.Core.Path.{◌≡◌, sym, ap, ◌∙◌}
use native.Mathlib.Omega.{arith}
use lib.Dec.{T}
use lib.ListN.{length, length-append}
use lib.Seq.{take_at, drop_at}
use Rattle.lists.specs.Lists.{every}
use Rattle.marking.specs.Marking.{agree}
use Rattle.layout.specs.Layout.{Patch, is_version, max_points, max_rows}
use Rattle.layout.specs.Layout.{body_bytes, body_of, sum_bytes, sealed, bytes_of}
use Rattle.layout.proofs.SumLaws.{sum_bytes_length}
use Rattle.layout.proofs.CellsReadBack.{roomy}
use Rattle.layout.proofs.PatchWritten.{body_length}
use Rattle.layout.proofs.PatchWritten.{bytes_length}
use Rattle.body.specs.Body.{keeps_rule, RightBody}
use Rattle.body.proofs.BodyWritten.{body_right, front_right}
use Rattle.block.specs.Holding.{RightBlock}

module _ (v : ℕ) (patch : Patch) (few_points : length patch.points ≤ max_points) (few_rows : length patch.rows ≤ max_rows) where
  -- the bytes are a right block
  pub bytes_right : T (is_version v) → T (every (roomy v) patch.rows) → T (keeps_rule patch) → T (agree patch.rows) → RightBlock (bytes_of v patch)
  bytes_right is fit rule agrees =
      let body = body_of v patch in
      let sums = sum_bytes body in
      let size = body_length v patch few_points few_rows in
      record {
        size = bytes_length v patch few_points few_rows;
        sums = drop_at body sums 508 size ∙ ap sum_bytes (sym (take_at body sums 508 size));
        body = body_right v patch few_points few_rows is fit rule agrees sums;
      }

-- a right body of 508 bytes with its sums is a right block
pub sealed_right : (body : List ℕ) → length body ≡ body_bytes → RightBody body → RightBlock (sealed body)
sealed_right body size right =
    let sums = sum_bytes body in
    let room : body_bytes ≤ length body = omega arith in
    record {
      size = length-append body sums ∙ rw (size, sum_bytes_length body);
      sums = drop_at body sums 508 size ∙ ap sum_bytes (sym (take_at body sums 508 size));
      body = front_right body sums room right;
    }
