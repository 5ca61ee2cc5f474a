-- A sound ring or chain is replaced: whatever way is carried out the total D stays, and 13 and 15 say what they say of m and of the ways.
-- Where some row goes, the worst of those that go is one of theirs.
use Prim.Native.Nat.{ℕ, ◌+◌, ◌-◌, ◌≤◌, ◌<◌}
use mathlib.Core.Bool.{Bool, true, false, cond}
use mathlib.Core.List.{List, [], ◌∷◌, map}
use mathlib.Core.Option.{some, get_or}
use mathlib.Core.Path.{◌≡◌, refl}
use native.Mathlib.Omega.{arith}
use borrow.Author.Tests.{le-ltb, ltb-false, not-false}
use lib.Dec.{ltb}
use lib.ListN.{length}
use Rattle.lists.specs.Lists.{any}
use Rattle.lists.proofs.Tests.{yes_is, is_yes, neither_is}
use Rattle.lists.proofs.Lists.{any_i, those_e}
use Rattle.quality.specs.declared.Quality.{Quality}
use Rattle.quality.specs.Quality.{worst, zero_quality}
use Rattle.rows.specs.declared.Row.{Row}
use Rattle.rows.specs.RowMeasure.{total_d, row_quality}
use Rattle.layout.specs.Layout.{Patch}
use Rattle.ring.specs.Ring.{Site, site_of, m, min_ring, max_ring, length_wrong, not_flat}
use Rattle.ring.specs.SoundRing.{SoundRing}
use Rattle.triangulation.specs.Triangulation.{Tri, span, ways, table_after}
use Rattle.triangulation.specs.Admissible.{admissible}
use Rattle.triangulation.specs.Best.{ring_ways}
use Rattle.triangulation.proofs.TotalStays.{total_stays}
use Rattle.triangulation.proofs.WholeRing.{RingWay, way_listed, found_way}
use Rattle.calls.specs.Removing.{worst_now, no_way}

-- ---- the total D

module _ (patch : Patch) (e f : ℕ) (ring : SoundRing (site_of patch e f)) where
  abbrev replaced : Site
  replaced = site_of patch e f

  pub replaced_total : not_flat replaced ≡ false → (t : Tri) → span t ≡ m replaced - 1
      → total_d patch.points (table_after replaced t) ≡ total_d patch.points patch.rows
  unfolding site_of
  replaced_total flat t spans = total_stays replaced ring t spans patch.rows refl refl flat

-- ---- the ways

module _ (site : Site) (three : 3 ≤ m site) where
  -- 15 not given: some way keeps the mesh rule
  pub way_found : no_way site ≡ false → (t : Tri) × RingWay site t
  unfolding no_way
  way_found h = let found = any (admissible site) (ways (m site - 1)) in found_way site three (is_yes found (not-false found h))

  -- and if one does it is not given
  pub way_there : (t : Tri) → RingWay site t → no_way site ≡ false
  unfolding no_way ring_ways
  way_there t w =
      let found = any (admissible site) (ways (m site - 1)) in
      let (k, h) = those_e (admissible site) (ways (m site - 1)) (way_listed site three w) in
      rw (yes_is found (any_i (admissible site) (ways (m site - 1)) k h))

-- 13 not given: m is 3 to 10
pub length_fits : (site : Site) → length_wrong site ≡ false → (min_ring ≤ m site) × (m site ≤ max_ring)
length_fits site h =
    let (low, high) = neither_is (ltb (m site) min_ring) (ltb max_ring (m site)) h in
    (ltb-false (m site) min_ring low, ltb-false max_ring (m site) high)

-- and the other way
pub length_passes : (site : Site) → min_ring ≤ m site → m site ≤ max_ring → length_wrong site ≡ false
length_passes site low high = rw (le-ltb (m site) min_ring low, le-ltb max_ring (m site) high)

-- ---- the worst row

-- of some qualities there is a worst
pub worst_some : (f : Row → Quality) (rows : List Row) → 0 < length rows
    → worst (map f rows) ≡ some (get_or (worst (map f rows)) zero_quality)
unfolding worst
worst_some f [] h = absurd (omega arith)
worst_some f (row ∷ rows) h = refl

-- the worst tetrahedron round the edge now is one of the removed rows'
pub worst_of_removed : (site : Site) → 0 < length site.removed
    → worst (map (row_quality site.points) site.removed) ≡ some (worst_now site)
unfolding worst_now
worst_of_removed site some_row = worst_some (row_quality site.points) site.removed some_row

-- a ring or chain of three points or more has rows
pub some_goes : (site : Site) → SoundRing site → 3 ≤ m site → 0 < length site.removed
some_goes site ring three = go site.closed ring.size
  where
    go : (c : Bool) → length site.removed + cond c 0 1 ≡ m site → 0 < length site.removed
    go true e = omega arith
    go false e = omega arith
