-- The ways round a sound edge of a block: where some way keeps the mesh rule, the chosen one does and none has a better worst; and
-- whatever way is carried out, the total D stays, and the marks change no count.
use Prim.Native.Nat.{ℕ, ◌-◌, ◌≤◌}
use mathlib.Core.Bool.{false}
use mathlib.Core.List.{List, ◌++◌}
use mathlib.Core.Path.{◌≡◌}
use native.Mathlib.Omega.{arith}
use lib.ListN.{length, length-append, length-map}
use Rattle.rows.specs.RowMeasure.{total_d}
use Rattle.marking.specs.Marking.{dress_by, new_mark}
use Rattle.layout.specs.Layout.{fields_of}
use Rattle.ring.specs.Ring.{Site, site_of, m, not_flat}
use Rattle.triangulation.specs.Triangulation.{Tri, span, new_rows, table_after}
use Rattle.triangulation.specs.Best.{chosen}
use Rattle.triangulation.proofs.WholeRing.{RingWay, BestWay, ring_chosen}
use Rattle.calls.specs.Removing.{no_way, rows_made, Sound}
use Rattle.calls.proofs.SoundEdges.{sound_site}
use Rattle.tables.proofs.RingReplaced.{replaced_total, way_found}

-- with their marks there are as many rows
pub made_length : (site : Site) → length (site.kept ++ rows_made site) ≡ length (table_after site (chosen site))
unfolding table_after
made_length site =
    let new = new_rows site 1 (chosen site) in
    omega (
      arith,
      length-append site.kept (rows_made site),
      length-append site.kept new,
      length-map new (dress_by (new_mark site.removed site.kept)),
    )

module _ (block : List ℕ) (e f : ℕ) (sound : Sound block e f) where
  abbrev site : Site
  site = site_of (fields_of block) e f

  -- whatever way is carried out, the total D stays
  pub site_total : not_flat site ≡ false → (t : Tri) → span t ≡ m site - 1
      → total_d (fields_of block).points (table_after site t) ≡ total_d (fields_of block).points (fields_of block).rows
  site_total = replaced_total (fields_of block) e f (sound_site block e f sound)

  module _ (three : 3 ≤ m site) where
    -- where some way keeps the mesh rule, the chosen one does, and none has a better worst
    pub site_chosen : (t : Tri) → RingWay site t → BestWay site (chosen site)
    site_chosen = ring_chosen site three (sound_site block e f sound)

    -- 15 not given: some way keeps the mesh rule
    pub some_way : no_way site ≡ false → (t : Tri) × RingWay site t
    some_way = way_found site three
