-- The new rows of a removal or a flip that is done are the last ones of the written block, and a ring or a chain of m points has 2(m-2).
use Prim.Native.Nat.{ℕ, ◌+◌, ◌-◌, ◌*◌, ◌≤◌}
use mathlib.Core.Bool.{Bool, false, not}
use mathlib.Core.List.{List, flat_map}
use mathlib.Core.Path.{◌≡◌, sym, ap, ◌∙◌}
use native.Mathlib.Omega.{arith}
use lib.ListN.{length, drop, length-append}
use lib.Seq.{drop_at}
use Rattle.lists.specs.Lists.{those}
use Rattle.rows.specs.declared.Row.{Row}
use Rattle.layout.specs.Layout.{row_count, fields_of}
use Rattle.layout.proofs.PatchWritten.{rows_counted}
use Rattle.block.specs.Opening.{open_answer}
use Rattle.block.proofs.RightBlocks.{opens}
use Rattle.ring.specs.Ring.{site_of, m}
use Rattle.triangulation.specs.Triangulation.{new_rows}
use Rattle.triangulation.specs.Best.{chosen}
use Rattle.triangulation.proofs.TreesTriangulate.{rows_count}
use Rattle.calls.specs.Removing.{no_way, Sound}
use Rattle.accepted.specs.Accepted.{Accepted}
use Rattle.accepted.proofs.ChosenWay.{some_way, site_chosen}
use Rattle.lines.specs.Lines.{row_line}
use Rattle.report.specs.Steps.{last_lines, Written}

module _ (block output : List ℕ) (goes : Row → Bool) (new : List Row) (made : Accepted block output goes new) where
  abbrev kept : List Row
  kept = those (λ row. not (goes row)) (fields_of block).rows

  count_is : row_count output ≡ length kept + length new
  count_is = sym (rows_counted output) ∙ (ap length made.rows ∙ length-append kept new)

  pub new_last : last_lines (length new) output ≡ flat_map row_line new
  new_last =
      let size : length kept ≡ row_count output - length new = omega (arith, count_is) in
      ap (flat_map row_line) (ap (drop (row_count output - length new)) made.rows ∙ drop_at kept new _ size)

  -- what a report asks for
  pub both_open : open_answer block ≡ 0 → Written block output (length new)
  both_open before = record { before = before; after = opens output made.right; new_rows_fact = omega (arith, count_is) }

-- two for each of the m - 2 triangles
pub ring_rows : (block : List ℕ) (e f : ℕ) → Sound block e f
    → let site = site_of (fields_of block) e f in
    3 ≤ m site → no_way site ≡ false → length (new_rows site 1 (chosen site)) ≡ 2 * (m site - 2)
ring_rows block e f sound three way =
    let site = site_of (fields_of block) e f in
    let (t, w) = some_way block e f sound three way in
    omega (arith, rows_count site 1 (chosen site), (site_chosen block e f sound three t w).way.spans)
