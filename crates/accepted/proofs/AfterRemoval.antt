-- What stands in where a list is empty never binds where it is met, and the printed `after` is the summary of the written block.
use Prim.Native.Nat.{ℕ, ◌<◌, min, max}
use mathlib.Core.List.{List, ◌++◌, map}
use mathlib.Core.Option.{some}
use mathlib.Core.Path.{◌≡◌}
use native.Mathlib.Omega.{arith}
use lib.ListN.{length}
use Rattle.std.specs.Prelude.{Ok}
use Rattle.lists.proofs.Lists.{those_split}
use Rattle.quality.specs.Quality.{worst}
use Rattle.page.specs.Page.{shown, page_row}
use Rattle.rows.specs.RowMeasure.{row_quality}
use Rattle.rows.specs.Rows.{holds_edge}
use Rattle.layout.specs.Layout.{fields_of}
use Rattle.block.specs.Opening.{open_answer}
use Rattle.block.proofs.RightBlocks.{opens}
use Rattle.tally.specs.Tally.{qualities, worst_of_patch}
use Rattle.summary.specs.Summary.{summary_of}
use Rattle.ring.specs.Ring.{Site, site_of, ring_with}
use Rattle.triangulation.specs.Best.{chosen}
use Rattle.triangulation.proofs.WholeRing.{after_length}
use Rattle.calls.specs.Summarising.{summary_gives}
use Rattle.calls.specs.Removing.{worst_now, rows_made, patch_after, remove_answer, remove_bytes, remove_gives, Sound}
use Rattle.calls.proofs.CallTests.{removes}
use Rattle.calls.proofs.SoundEdges.{some_removed}
use Rattle.tables.proofs.RingReplaced.{length_fits, worst_some, worst_of_removed}
use Rattle.accepted.proofs.CallsNumbered.{gives_done}
use Rattle.accepted.proofs.AcceptedBytes.{patch_is}
use Rattle.accepted.proofs.ChosenWay.{made_length, some_way, site_chosen}
use Rattle.accepted.proofs.AcceptedCalls.{remove_accepted}

-- ---- the summary

-- a block that opens has its patch's summary
pub summary_opened : (block : List ℕ) → open_answer block ≡ 0 → summary_gives block ≡ Ok (summary_of (fields_of block))
unfolding summary_gives
summary_opened block e = rw (e, summary_gives)

-- ---- rows that are there

module _ (block : List ℕ) (e f : ℕ) (sound : Sound block e f) where
  abbrev site : Site
  site = site_of (fields_of block) e f

  -- the worst tetrahedron round the edge now is one of the removed rows'
  pub worst_now_lem : worst (map (row_quality site.points) site.removed) ≡ some (worst_now site)
  worst_now_lem = worst_of_removed site (some_removed block e f sound)

  -- the patch has rows, so it has a worst one
  some_row : 0 < length (fields_of block).rows
  unfolding site_of
  some_row = omega (arith, some_removed block e f sound, those_split (holds_edge (min e f) (max e f)) (fields_of block).rows)

  pub worst_before : worst (qualities (fields_of block)) ≡ some (worst_of_patch (fields_of block))
  worst_before = worst_some (row_quality (fields_of block).points) (fields_of block).rows some_row

-- ---- what is written

module _ (block out : List ℕ) (e f : ℕ) (done : remove_answer block out e f ≡ 0) where
  abbrev its : Site
  its = site_of (fields_of block) e f

  -- the written block holds the patch afterwards
  pub fields_after : fields_of (remove_bytes block out e f) ≡ patch_after its
  unfolding patch_after site_of
  fields_after =
      let made = remove_accepted block out e f done in
      patch_is (fields_of (remove_bytes block out e f)) made.points made.rows

  -- so the page row's second size is that of the worst row of the written block
  pub page_given : let before = worst_of_patch (fields_of block) in
      let after = worst_of_patch (fields_of (remove_bytes block out e f)) in
      remove_gives block out e f ≡ Ok (record { page = page_row (shown before) (shown after); ring = ring_with its.ring })
  page_given = rw fields_after (gives_done block out e f done)

  pub opens_after : open_answer (remove_bytes block out e f) ≡ 0
  opens_after = opens (remove_bytes block out e f) (remove_accepted block out e f done).right

  -- there are new rows, so the patch afterwards has a worst row
  pub worst_after : worst (qualities (patch_after its)) ≡ some (worst_of_patch (patch_after its))
  unfolding patch_after
  worst_after =
      let r = removes block out e f done in
      let three = (length_fits its r.length_right).0 in
      let (t, w) = some_way block e f r.sound three r.way in
      let best = site_chosen block e f r.sound three t w in
      worst_some (row_quality its.points) (its.kept ++ rows_made its)
      (omega (arith, made_length its, after_length its (chosen its) best.way.spans))
