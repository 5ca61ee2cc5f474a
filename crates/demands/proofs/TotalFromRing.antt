-- The total D from the ring alone. What cuts the ring has the total of a tree; a tree's total is that of the rows that go, but for what is
-- missing between both ends of a chain. In one region, where the total stays that of each region does.
use Prim.Native.Nat.{ℕ, ◌-◌, ◌≤◌, ◌<◌, min, max}
use mathlib.Core.Bool.{Bool, true, false}
use mathlib.Core.List.{List}
use mathlib.Core.Path.{◌≡◌, refl, sym, ◌∙◌}
use native.Mathlib.Omega.{arith}
use lib.Dec.{T}
use lib.IntN.{pos, ◌+ℤ◌}
use lib.ListN.{length}
use Rattle.rows.specs.RowMeasure.{total_d}
use Rattle.rows.specs.Rows.{holds_edge}
use Rattle.rows.proofs.RegionTotals.{region_stays}
use Rattle.layout.specs.Layout.{Patch}
use Rattle.ring.specs.Ring.{Site}
use Rattle.ring.specs.SoundRing.{SoundRing}
use Rattle.ring.proofs.RingIsSound.{round_sound}
use Rattle.triangulation.specs.Triangulation.{Tri, span, Triangle, v, table_after}
use Rattle.triangulation.proofs.Trees.{rows_region}
use Rattle.triangulation.proofs.TotalStays.{last_point, ring_stays, chain_grows, flat_stays, flat_if_stays}
use Rattle.polygon.specs.Polygon.{cuts}
use Rattle.tables.specs.RoundAnEdge.{pair_count}
use Rattle.tables.proofs.RowsAndLinks.{held_pair, two_points, goes_round}
use Rattle.demands.specs.Premises.{edge_at, OneMaterial}
use Rattle.demands.specs.TriangleSets.{rows_of}
use Rattle.demands.specs.RingTotals.{Surrounded, volume_at, first_of, last_of, total_of, total_by, region_total, region_by, RingTotals}
use Rattle.demands.proofs.WaysAndTrees.{total_tree}

module _ (patch : Patch) (e f : ℕ) (closed : Bool) (vs : List ℕ) (given : Surrounded patch e f closed vs) where
  abbrev its : Site
  its = edge_at patch e f closed vs

  ends_apart : min e f ≡ max e f → ⊥
  ends_apart i = given.apart (omega arith)

  some_pair : 0 < pair_count closed vs
  some_pair = held_pair (min e f) (max e f) (length patch.points) patch.rows given.rule given.some_row ends_apart closed vs given.round

  two : 2 ≤ length vs
  two = two_points (min e f) (max e f) (length patch.points) patch.rows given.rule closed vs given.round some_pair

  sound : SoundRing its
  sound =
      let apart = given.apart in
      round_sound its (omega arith) patch.rows given.rule refl refl refl
      (goes_round (min e f) (max e f) (length patch.points) patch.rows given.rule closed vs given.round some_pair)

  -- vm as the laws of trees have it
  last_is : v its (length vs) ≡ last_of vs
  last_is = last_point its (length vs) (omega (arith, two))

  module _ (ts : List Triangle) (h : T (cuts (length vs) ts)) where
    tree : (t : Tri) × (span t ≡ length vs - 1) × (total_by patch e f closed vs ts ≡ total_d patch.points (table_after its t))
    tree = total_tree its two ts h

    ring_total : closed ≡ true → total_by patch e f closed vs ts ≡ total_of patch
    ring_total ring = let (t, spans, same) = tree in same ∙ ring_stays its sound t spans patch.rows refl refl ring

    flat_total : closed ≡ false → volume_at patch e f (first_of vs) (last_of vs) ≡ pos 0 → total_by patch e f closed vs ts ≡ total_of patch
    flat_total chain flat =
        let (t, spans, same) = tree in
        same ∙ flat_stays its sound t spans patch.rows refl refl chain (rw last_is flat)

    chain_total : closed ≡ false
        → total_by patch e f closed vs ts ≡ total_of patch +ℤ volume_at patch e f (last_of vs) (first_of vs)
    chain_total chain =
        let (t, spans, same) = tree in
        same ∙ rw last_is at (chain_grows its sound t spans patch.rows refl refl chain)

    total_flat : closed ≡ false → total_by patch e f closed vs ts ≡ total_of patch → volume_at patch e f (first_of vs) (last_of vs) ≡ pos 0
    total_flat chain stays =
        let (t, spans, same) = tree in
        rw last_is at (flat_if_stays its sound t spans patch.rows refl refl chain (sym same ∙ stays))

    regions : total_by patch e f closed vs ts ≡ total_of patch → OneMaterial patch e f
        → (g : ℕ) → region_by patch e f closed vs ts g ≡ region_total patch g
    regions stays one =
        region_stays patch.points (holds_edge (min e f) (max e f)) patch.rows (rows_of its ts) one (rows_region its ts) stays

pub ring_totals : RingTotals
ring_totals = record {
  ring = λ patch e f vs given ts h. ring_total patch e f true vs given ts h refl;
  flat = λ patch e f vs given ts h. flat_total patch e f false vs given ts h refl;
  chain = λ patch e f vs given ts h. chain_total patch e f false vs given ts h refl;
  only_flat = λ patch e f vs given ts h. total_flat patch e f false vs given ts h refl;
  ring_regions = λ patch e f vs given ts h. regions patch e f true vs given ts h (ring_total patch e f true vs given ts h refl);
  flat_regions = λ patch e f vs given ts h flat.
      regions patch e f false vs given ts h (flat_total patch e f false vs given ts h refl flat);
}
