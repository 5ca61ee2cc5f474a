-- Requirement §6: what a patch that opens and an edge without answers 9 to 12 give, as statements.
use Rattle.std.specs.Prelude.{ℕ, suc, ◌+◌, ◌<◌, true, cond, not, ◌≡◌, T, length, get_or}
use mathlib.Core.List.{List, map, Memᴰ}
use Rattle.lists.specs.Lists.{those}
use Rattle.rows.specs.declared.Row.{Row}
use Rattle.mesh.specs.Mesh.{keeps_mesh_rule}
use Rattle.rows.specs.Rows.{holds_edge}
use Rattle.ring.specs.Ring.{Site, m}
use Rattle.links.specs.Links.{link}

-- the ring's point that comes after i others: v1 after none
abbrev pub point_after : Site → ℕ → ℕ
point_after site i = get_or site.ring i 0

-- In a table that keeps the mesh rule, the links of the rows that hold both ends lead from v1 to vm.
pub record SoundChain (site : Site) : Type 0 where
  -- the edge's two ends are put in order, a < b
  pub ordered : site.a < site.b
  -- the whole table keeps the mesh rule
  pub table : List Row
  pub meshed : T (keeps_mesh_rule (length site.points) table)
  -- the rows that hold both ends go, the others are kept
  pub going : site.removed ≡ those (holds_edge site.a site.b) table
  pub staying : site.kept ≡ those (λ row. not (holds_edge site.a site.b row)) table
  -- each row holding both gives a link
  pub linked : site.links ≡ map (link site.a site.b) site.removed
  -- each point has a link to the next, and none stands twice
  pub steps : (i : ℕ) → suc i < m site → Memᴰ (point_after site i, point_after site (suc i)) site.links
  pub different : (i j : ℕ) → i < m site → j < m site → point_after site i ≡ point_after site j → i ≡ j

-- One closed circle of links is a ring: vm has a link to v1. One open chain has no such link; it has a row less than points.
pub record SoundRing (site : Site) : Type 0 where
  pub chain : SoundChain site
  pub closing : site.closed ≡ true → (i : ℕ) → suc i ≡ m site → Memᴰ (point_after site i, point_after site 0) site.links
  pub size : length site.removed + cond site.closed 0 1 ≡ m site
