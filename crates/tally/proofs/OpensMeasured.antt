-- What a block that opens gives the code: counts within the limits, whole parts, and a table that can be measured.
use Prim.Native.Nat.{ℕ, ◌-◌, ◌≤◌}
use mathlib.Core.List.{List}
use mathlib.Core.Path.{◌≡◌, subst}
use native.Mathlib.Omega.{arith}
use lib.Dec.{T}
use lib.ListN.{length}
use Rattle.rows.specs.Rows.{rows_at, rows_in}
use Rattle.mesh.specs.Mesh.{keeps_mesh_rule}
use Rattle.mesh.proofs.MeshRuleStated.{keeps_fits}
use Rattle.marking.specs.Marking.{agree}
use Rattle.layout.specs.Layout.{block_bytes, max_points, max_rows, points_at, point_count, row_count, coordinates_of}
use Rattle.layout.specs.Layout.{fields_of}
use Rattle.block.specs.Opening.{open_answer}
use Rattle.block.specs.Holding.{RightBlock}
use Rattle.layout.proofs.BlockParts.{part_length}
use Rattle.block.proofs.RightBlocks.{right_block}
use Rattle.layout.proofs.PatchWritten.{points_counted}
use Rattle.tally.specs.Steps.{Measured}

module _ (block : List ℕ) (opens : open_answer block ≡ 0) where
  right : RightBlock block
  right = right_block block opens

  pub block_size : length block ≡ block_bytes
  block_size = right.size

  pub few_points : point_count block ≤ max_points
  few_points = right.body.few_points

  pub few_rows : row_count block ≤ max_rows
  few_rows = right.body.few_rows

  coordinates_size : length (coordinates_of block) ≡ rows_at - points_at
  coordinates_size = part_length points_at rows_at block (omega (arith, block_size))

  pub rule_kept : T (keeps_mesh_rule (point_count block) (rows_in block (row_count block)))
  unfolding fields_of
  rule_kept = subst (λ n. T (keeps_mesh_rule n (fields_of block).rows)) (points_counted block) right.body.rule

  pub marks_agree : T (agree (rows_in block (row_count block)))
  unfolding fields_of
  marks_agree = right.body.agrees

  pub opens_measured : Measured (coordinates_of block) (point_count block) block (row_count block)
  opens_measured = record {
    points_held = omega (arith, coordinates_size, few_points);
    rows_held = omega (arith, block_size, few_rows);
    rows_most = omega (arith, few_rows);
    proper = keeps_fits (point_count block) (rows_in block (row_count block)) rule_kept;
  }
