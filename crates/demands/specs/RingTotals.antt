-- Requirement §7.8: the total D, from the ring alone. Whatever triangles cut the ring round an edge, or a flat chain, the kept rows and the
-- new rows have the total D that the table had before. No answer and no call stands in it, and no quality: the ring may have any length, and
-- what cuts it need not keep the mesh rule, nor be better. So there is no total to test before a removal is carried out; and a chain has to be
-- flat. Where the rows that go have one region, the same is so of the rows of each region by itself.
use Rattle.std.specs.Prelude.{ℕ, ◌-◌, min, max, Bool, true, false, List, ◌≡◌, T, ℤ, pos, ◌+ℤ◌, length, get_or}
use Rattle.lists.specs.Lists.{any}
use Rattle.volume.specs.Volume.{D}
use Rattle.rows.specs.Rows.{holds_edge}
use Rattle.rows.specs.RowMeasure.{place, total_d}
use Rattle.rows.specs.Regions.{region_d}
use Rattle.mesh.specs.Mesh.{keeps_mesh_rule}
use Rattle.layout.specs.Layout.{Patch}
use Rattle.triangulation.specs.Triangulation.{Triangle}
use Rattle.polygon.specs.Polygon.{cuts}
use Rattle.tables.specs.RoundAnEdge.{Round}
use Rattle.demands.specs.TriangleSets.{table_by}
use Rattle.demands.specs.Premises.{edge_at, OneMaterial}

-- An edge of a table that keeps the mesh rule: two different points, some row holds both, and the rows that do are one ring or one chain.
pub record Surrounded (patch : Patch) (e f : ℕ) (closed : Bool) (vs : List ℕ) : Type 0 where
  pub rule : T (keeps_mesh_rule (length patch.points) patch.rows)
  pub apart : e ≡ f → ⊥
  pub some_row : T (any (holds_edge (min e f) (max e f)) patch.rows)
  pub round : Round patch.rows (min e f) (max e f) closed vs

-- D(a,b,v,w)
abbrev pub volume_at : Patch → ℕ → ℕ → ℕ → ℕ → ℤ
volume_at patch e f v w = let at = place patch.points in D (at (min e f)) (at (max e f)) (at v) (at w)

-- v1
abbrev pub first_of : List ℕ → ℕ
first_of vs = get_or vs 0 0

-- vm
abbrev pub last_of : List ℕ → ℕ
last_of vs = get_or vs (length vs - 1) 0

-- the total D of a patch
abbrev pub total_of : Patch → ℤ
total_of patch = total_d patch.points patch.rows

-- the total D of the kept rows and the two rows of each triangle
abbrev pub total_by : Patch → ℕ → ℕ → Bool → List ℕ → List Triangle → ℤ
total_by patch e f closed vs ts = total_d patch.points (table_by (edge_at patch e f closed vs) ts)

-- the total D of the rows of region g
abbrev pub region_total : Patch → ℕ → ℤ
region_total patch g = region_d patch.points g patch.rows

-- the same of the kept rows and the two rows of each triangle
abbrev pub region_by : Patch → ℕ → ℕ → Bool → List ℕ → List Triangle → ℕ → ℤ
region_by patch e f closed vs ts g = region_d patch.points g (table_by (edge_at patch e f closed vs) ts)

-- Of all triangles that cut v1..vm: the total of a ring stays, and that of a flat chain does. That of any chain grows by D(a,b,vm,v1), so
-- none stays but that of a flat one. In one region, that of every region stays by itself, of a ring and of a flat chain.
pub record RingTotals : Type 0 where
  pub ring : (patch : Patch) (e f : ℕ) (vs : List ℕ) → Surrounded patch e f true vs → (ts : List Triangle) → T (cuts (length vs) ts)
      → total_by patch e f true vs ts ≡ total_of patch
  pub flat : (patch : Patch) (e f : ℕ) (vs : List ℕ) → Surrounded patch e f false vs → (ts : List Triangle) → T (cuts (length vs) ts)
      → volume_at patch e f (first_of vs) (last_of vs) ≡ pos 0 → total_by patch e f false vs ts ≡ total_of patch
  pub chain : (patch : Patch) (e f : ℕ) (vs : List ℕ) → Surrounded patch e f false vs → (ts : List Triangle) → T (cuts (length vs) ts)
      → total_by patch e f false vs ts ≡ total_of patch +ℤ volume_at patch e f (last_of vs) (first_of vs)
  pub only_flat : (patch : Patch) (e f : ℕ) (vs : List ℕ) → Surrounded patch e f false vs → (ts : List Triangle) → T (cuts (length vs) ts)
      → total_by patch e f false vs ts ≡ total_of patch → volume_at patch e f (first_of vs) (last_of vs) ≡ pos 0
  pub ring_regions : (patch : Patch) (e f : ℕ) (vs : List ℕ) → Surrounded patch e f true vs → (ts : List Triangle) → T (cuts (length vs) ts)
      → OneMaterial patch e f → (g : ℕ) → region_by patch e f true vs ts g ≡ region_total patch g
  pub flat_regions : (patch : Patch) (e f : ℕ) (vs : List ℕ) → Surrounded patch e f false vs → (ts : List Triangle) → T (cuts (length vs) ts)
      → volume_at patch e f (first_of vs) (last_of vs) ≡ pos 0 → OneMaterial patch e f
      → (g : ℕ) → region_by patch e f false vs ts g ≡ region_total patch g
