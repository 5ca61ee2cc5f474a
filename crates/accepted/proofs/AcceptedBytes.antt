-- What an accepted call writes: the bytes of a patch that keeps the points, the mesh rule and the marked faces are right, and hold that patch.
-- Where the rows that go have one region and the new rows have it too, the total D of each region is what it was.
use Prim.Native.Nat.{ℕ, ◌≤◌}
use mathlib.Core.Bool.{Bool, false, not}
use mathlib.Core.List.{List, ◌++◌, Memᴰ}
use mathlib.Core.Path.{◌≡◌, ◌∙◌}
use native.Mathlib.Omega.{arith}
use lib.Dec.{T}
use lib.ListN.{length}
use Rattle.lists.specs.Lists.{every, those}
use Rattle.lists.proofs.Lists.{those_e}
use Rattle.volume.specs.declared.Point.{Point}
use Rattle.rows.specs.declared.Row.{Row}
use Rattle.rows.specs.Rows.{version}
use Rattle.mesh.specs.Mesh.{keeps_mesh_rule}
use Rattle.rows.specs.RowMeasure.{total_d}
use Rattle.rows.specs.Regions.{region_of, mixed}
use Rattle.rows.proofs.RowsOfTables.{rows_room}
use Rattle.rows.proofs.RegionsOfRows.{AllIn, one_region, region_is}
use Rattle.rows.proofs.RegionTotals.{region_stays}
use Rattle.mesh.proofs.MeshRuleStated.{rule_stated}
use Rattle.marking.specs.Marking.{new_mark, dressed}
use Rattle.layout.specs.Layout.{Patch, max_points, max_rows, row_count, fields_of, body_of, sum_bytes, bytes_of}
use Rattle.block.specs.Opening.{open_answer}
use Rattle.block.proofs.RightBlocks.{right_block}
use Rattle.layout.proofs.CellsReadBack.{roomy}
use Rattle.layout.proofs.PatchWritten.{body_read, version_at, points_counted}
use Rattle.block.proofs.RightWritten.{bytes_right}
use Rattle.dressing.proofs.NewRowsDressed.{Plain, room_dressed}
use Rattle.kept_marks.specs.Replacing.{MarksKept}
use Rattle.kept_marks.proofs.DressedRows.{dress_regions}
use Rattle.accepted.specs.Accepted.{Accepted}

-- a block that opens holds at most 64 points
few_points : (block : List ℕ) → open_answer block ≡ 0 → length (fields_of block).points ≤ max_points
few_points block e = omega (arith, points_counted block, (right_block block e).body.few_points)

module _ (block : List ℕ) (opened : open_answer block ≡ 0) (rows : List Row) (room : length rows ≤ max_rows)
    (fit : T (every (roomy (version block)) rows)) where
  -- the points of the block with other rows
  abbrev pub with_rows : Patch
  with_rows = record { points = (fields_of block).points; rows = rows }

  -- written and read back
  pub rows_read : fields_of (bytes_of (version block) with_rows) ≡ with_rows
  rows_read = body_read (version block) with_rows (few_points block opened) room fit (sum_bytes (body_of (version block) with_rows))

-- a block has room for those of its rows that pass a test
own_room : (block : List ℕ) (p : Row → Bool) (row : Row) → Memᴰ row (those p (fields_of block).rows) → T (roomy (version block) row)
unfolding fields_of
own_room block p row k = rows_room block (row_count block) row (those_e p (fields_of block).rows k).0

-- new rows, dressed, behind the rows that stay
module _ (block : List ℕ) (opened : open_answer block ≡ 0) (goes : Row → Bool) (new : List Row)
    (plain : (row : Row) → Memᴰ row new → Plain (those goes (fields_of block).rows) row) where
  abbrev gone : List Row
  gone = those goes (fields_of block).rows

  abbrev stay : List Row
  stay = those (λ row. not (goes row)) (fields_of block).rows

  abbrev made : List Row
  made = dressed gone stay new

  abbrev after : Patch
  after = record { points = (fields_of block).points; rows = stay ++ made }

  module _ (room : length (stay ++ made) ≤ max_rows) (rule : T (keeps_mesh_rule (length (fields_of block).points) (stay ++ made)))
      (marks : MarksKept (fields_of block).rows (stay ++ made)) where
    fit : T (every (roomy (version block)) (stay ++ made))
    fit = room_dressed (version block) gone stay new (own_room block goes) (own_room block (λ row. not (goes row))) plain

    read : fields_of (bytes_of (version block) after) ≡ after
    read = rows_read block opened (stay ++ made) room fit

    new_one : AllIn (region_of gone) made
    new_one = dress_regions (new_mark gone stay) (region_of gone) new (λ row k. (plain row k).own_region)

    pub accepted : total_d (fields_of block).points (stay ++ made) ≡ total_d (fields_of block).points (fields_of block).rows
        → mixed gone ≡ false → Accepted block (bytes_of (version block) after) goes made
    accepted volume unmixed =
        let one = one_region gone unmixed in
        let body = (right_block block opened).body in
        record {
          right = bytes_right (version block) after (few_points block opened) room body.version_is fit rule marks.agrees;
          version = version_at (version block) after (sum_bytes (body_of (version block) after));
          points = rw read;
          rows = rw read;
          rule = rw read (rule_stated (length (fields_of block).points) (stay ++ made) rule);
          volume = rw read volume;
          region = λ old its k i. new_one its i ∙ region_is gone one k;
          volumes = λ g. rw read (region_stays (fields_of block).points goes (fields_of block).rows made one new_one volume g);
          marked = λ f. rw read (marks.marked f);
        }

-- a patch by its points and rows
pub patch_is : (patch : Patch) {points : List Point} {rows : List Row} → patch.points ≡ points → patch.rows ≡ rows
    → patch ≡ record { points = points; rows = rows }
patch_is patch p r = rw (← p, ← r)
