-- What is said of an edge with its ring or chain: its site, and which edge of a block it is.
use Rattle.std.specs.Prelude.{ℕ, Bool, min, max, List, ◌≡◌}
use Rattle.layout.specs.Layout.{point_count, row_count, coordinates_of}
use Rattle.ring.specs.declared.Ring.{Ring}
use Rattle.ring.specs.Ring.{Site}
use Rattle.triangulation.specs.Steps.{site_in}
use Rattle.edge.specs.declared.RingedEdge.{RingedEdge}

-- the edge as a site
abbrev pub site_of_edge : RingedEdge → Site
site_of_edge edge = site_in edge.coordinates.now edge.count edge.table.now edge.n edge.a edge.b

-- It is the edge between e and f of a block, its ends in order, with the ring or chain that was found.
pub record IsEdgeOf (block : List ℕ) (e f : ℕ) (found_closed : Bool) (found_ring : Ring) (edge : RingedEdge) : Type 0 where
  pub coordinates : edge.coordinates.now ≡ coordinates_of block
  pub count : edge.count ≡ point_count block
  pub table : edge.table.now ≡ block
  pub n : edge.n ≡ row_count block
  pub a : edge.a ≡ min e f
  pub b : edge.b ≡ max e f
  pub closed : edge.closed ≡ found_closed
  pub ring : edge.ring ≡ found_ring
