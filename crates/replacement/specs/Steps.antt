-- What only contracts of inner functions and proofs say: the apexes of the chosen triangulation, and what carrying it out asks for.
use Rattle.std.specs.Prelude.{ℕ, ◌-◌, ◌<◌, ◌≤◌, min, max, Bool, false, List, ◌≡◌, T, length, Option as Optional, None, Some, IfSome}
use Rattle.std.proofs.Math.Option.{Option, none, some}
use Rattle.quality.specs.declared.Quality.{Quality}
use Rattle.rows.specs.Rows.{version}
use Rattle.rows.specs.Regions.{region_of}
use Rattle.layout.specs.Layout.{body_bytes, max_rows, point_count, row_count, coordinates_of}
use Rattle.ring.specs.declared.Ring.{Ring}
use Rattle.ring.specs.Ring.{Site, m}
use Rattle.triangulation.specs.Triangulation.{span, rows_after}
use Rattle.triangulation.specs.Best.{table_best, chosen, same_best}
use Rattle.triangulation.specs.Steps.{site_in}
use Rattle.cells.specs.Steps.{cells}
use Rattle.expansion.specs.Steps.{Between, tree_in}
use Rattle.calls.specs.Removing.{no_way}
use Rattle.edge.specs.Steps.{Ringed}
use Rattle.replacement.specs.declared.Way.{Way}

-- The apexes stand for the chosen triangulation, which spans the ring or chain.
pub record StandFor (site : Site) (apexes : List ℕ) : Type 0 where
  pub between : Between apexes 1 (m site)
  pub tree : tree_in apexes 1 (m site) ≡ chosen site
  pub spans : span (chosen site) ≡ m site - 1

-- the worst of a way, or the mark
abbrev pub worst_of : Optional Way → Option Quality
worst_of None = none
worst_of (Some way) = some way.worst

-- The best worst of the ring or chain, as a fraction, or the mark; and, where there is no mark, the apexes of the chosen triangulation.
pub record BestWay (site : Site) (way : Optional Way) : Type 0 where
  pub best : T (same_best (worst_of way) (table_best site 1 (m site)))
  pub fraction : IfSome way (λ way. 0 < way.worst.den)
  pub apexes : IfSome way (λ way. StandFor site way.apexes)

-- There is room for the chosen triangulation, the region is that of the rows that go, the apexes stand for it, and the block it is carried
-- out in has the version of the table.
pub record Carriable (site : Site) (region : ℕ) (apexes table rows : List ℕ) : Type 0 where
  pub room : rows_after site ≤ max_rows
  pub own_region : region ≡ region_of site.removed
  pub whole : length apexes ≡ cells
  pub stand : StandFor site apexes
  pub place : body_bytes ≤ length rows
  pub same_version : version rows ≡ version table

-- ---- an edge of a block

-- the edge between e and f as a site, its ends in order
abbrev pub edge_site : List ℕ → ℕ → ℕ → Site
edge_site block e f = site_in (coordinates_of block) (point_count block) block (row_count block) (min e f) (max e f)

-- The edge has its ring or chain, whose region is given, with room and an admissible triangulation, and the apexes stand for the chosen one.
pub record Replaceable (block : List ℕ) (e f : ℕ) (closed : Bool) (ring : Ring) (region : ℕ) (apexes : List ℕ) : Type 0 where
  pub ends : (e < 256) × (f < 256)
  pub ringed : Ringed (coordinates_of block) (point_count block) block (row_count block) (min e f) (max e f) closed ring
  pub way : no_way (edge_site block e f) ≡ false
  pub own_region : region ≡ region_of (edge_site block e f).removed
  pub room : rows_after (edge_site block e f) ≤ max_rows
  pub stand : StandFor (edge_site block e f) apexes
