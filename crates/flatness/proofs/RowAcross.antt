-- The row across an open chain: its points have their coordinates, and the chain is flat where D of it is 0.
use Prim.Native.Nat.{ℕ, ◌-◌, ◌≤◌, ◌<◌}
use mathlib.Core.Bool.{not, ◌||◌}
use mathlib.Core.Path.{◌≡◌, refl, ap, ◌∙◌}
use native.Mathlib.Omega.{arith}
use lib.IntN.{pos}
use lib.ListN.{get_or, replicate, get_or-append}
use Rattle.volume.specs.Volume.{points_in, same_z}
use Rattle.rows.specs.RowMeasure.{row_d}
use Rattle.ring.specs.declared.Ring.{Ring}
use Rattle.ring.specs.Ring.{Site, site_of, m, max_ring, flat, not_flat}
use Rattle.flatness.specs.Steps.{across, Crossed}
use Rattle.edge.specs.Steps.{RingedFact}
use Rattle.edge.specs.declared.RingedEdge.{RingedEdge}
use Rattle.edge.specs.Edges.{site_of_edge}

module _ (edge : RingedEdge) where
  abbrev its : Site
  its = site_of_edge edge

  given : RingedFact edge.coordinates.now edge.count edge.table.now edge.n edge.a edge.b edge.closed edge.ring
  given = edge.ringed

  three : 3 ≤ m its
  three = given.ready.long

  ring_size : edge.ring.m ≡ m its
  ring_size = ap (λ (r : Ring). r.m) given.ready.found

  at_place : (i : ℕ) → i < m its → get_or edge.ring.v i 0 ≡ get_or its.ring i 0
  at_place i h =
      ap (λ (r : Ring). get_or r.v i 0) given.ready.found
      ∙ get_or-append its.ring (replicate (max_ring - m its) 0) 0 i h

  first_place : get_or edge.ring.v 0 0 ≡ get_or its.ring 0 0
  first_place = at_place 0 (omega (arith, three))

  last_place : get_or edge.ring.v (edge.ring.m - 1) 0 ≡ get_or its.ring (m its - 1) 0
  last_place = ap (λ k. get_or edge.ring.v (k - 1) 0) ring_size ∙ at_place (m its - 1) (omega (arith, three))

  -- what is asked where the row is measured
  pub crossed : Crossed edge.coordinates.now edge.count edge.a edge.b edge.ring
  crossed = record {
    some_point = omega (arith, ring_size, three);
    short = omega (arith, ring_size, given.ready.short);
    placed = record {
      points_held = given.ready.points;
      below_p = omega (arith, given.ready.ordered, given.ready.below);
      below_q = given.ready.below;
      below_r = rw first_place (given.ready.ring_below 0 (omega (arith, three)));
      below_s = rw last_place (given.ready.ring_below (m its - 1) (omega (arith, three)));
    };
  }

  own_a : its.a ≡ edge.a
  unfolding site_of
  own_a = omega (arith, given.ready.ordered)

  own_b : its.b ≡ edge.b
  unfolding site_of
  own_b = omega (arith, given.ready.ordered)

  own_points : its.points ≡ points_in edge.coordinates.now edge.count
  unfolding site_of
  own_points = refl

  -- a closed ring passes, and an open chain does if D of that row is 0
  pub flat_is : not (edge.closed || same_z (row_d (points_in edge.coordinates.now edge.count) (across edge.a edge.b edge.ring)) (pos 0)) ≡ not_flat its
  unfolding flat row_d
  flat_is = rw (given.ready.is_closed, first_place, last_place, own_a, own_b, own_points)
