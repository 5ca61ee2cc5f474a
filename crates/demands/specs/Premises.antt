-- Requirement §6 and §11: an edge of a block, and the third demand's premises.
use Rattle.std.specs.Prelude.{ℕ, ◌+◌, ◌-◌, ◌≤◌, ◌<◌, min, max, Bool, false, cond, not, ◌≡◌, T, pos, length, get_or}
use mathlib.Core.List.{List, [], ◌∷◌, map, Memᴰ}
use Rattle.lists.specs.Lists.{any, those}
use Rattle.volume.specs.Volume.{D}
use Rattle.rows.specs.declared.Row.{Row}
use Rattle.rows.specs.Rows.{holds_edge}
use Rattle.rows.specs.Regions.{OneRegion}
use Rattle.rows.specs.RowMeasure.{place}
use Rattle.mesh.specs.Mesh.{Face}
use Rattle.marking.specs.Marking.{marks}
use Rattle.layout.specs.Layout.{Patch, block_bytes, max_rows, fields_of}
use Rattle.block.specs.Holding.{RightBlock}
use Rattle.ring.specs.Ring.{Site, min_ring, max_ring}
use Rattle.links.specs.Links.{link}
use Rattle.triangulation.specs.Triangulation.{Triangle}
use Rattle.kept_marks.specs.Replacing.{has_all}
use Rattle.tables.specs.RoundAnEdge.{Round}
use Rattle.demands.specs.TriangleSets.{Way}

-- ---- an edge of a block

-- Two different points of the block.
pub record TwoPoints (block : List ℕ) (e f : ℕ) : Type 0 where
  pub below_e : e < length (fields_of block).points
  pub below_f : f < length (fields_of block).points
  pub apart : e ≡ f → ⊥

-- A valid block, an output block of 512 bytes, two different points of the block, and some row holds both.
pub record Held (block out : List ℕ) (e f : ℕ) : Type 0 where
  pub right : RightBlock block
  pub right_length : length out ≡ block_bytes
  pub ends : TwoPoints block e f
  pub some_row : T (any (holds_edge (min e f) (max e f)) (fields_of block).rows)

-- ---- the third demand's premises

-- the edge in its patch, with v1..vm given: nothing is searched for
abbrev pub edge_at : Patch → ℕ → ℕ → Bool → List ℕ → Site
edge_at patch e f closed vs =
    let a = min e f in
    let b = max e f in
    let removed = those (holds_edge a b) patch.rows in
    record {
      points = patch.points;
      a = a;
      b = b;
      removed = removed;
      kept = those (λ row. not (holds_edge a b row)) patch.rows;
      links = map (link a b) removed;
      closed = closed;
      ring = vs;
    }

-- A valid block, an output block of 512 bytes, and two different points of the block; the rows that hold both are one ring or one chain of
-- 3 to 10 points.
pub record Ringed (block out : List ℕ) (e f : ℕ) (closed : Bool) (vs : List ℕ) : Type 0 where
  pub right : RightBlock block
  pub right_length : length out ≡ block_bytes
  pub ends : TwoPoints block e f
  pub round : Round (fields_of block).rows (min e f) (max e f) closed vs
  pub from_three : min_ring ≤ length vs
  pub to_ten : length vs ≤ max_ring

-- a chain is flat: its two ends lie in one plane with the edge
abbrev pub FlatChain : List ℕ → ℕ → ℕ → Bool → List ℕ → Type 0
FlatChain block e f closed vs =
    let at = place (fields_of block).points in
    closed ≡ false → D (at (min e f)) (at (max e f)) (at (get_or vs 0 0)) (at (get_or vs (length vs - 1) 0)) ≡ pos 0

-- one region: the rows that hold both ends have the same
abbrev pub OneMaterial : Patch → ℕ → ℕ → Type 0
OneMaterial patch e f = OneRegion (those (holds_edge (min e f) (max e f)) patch.rows)

-- no marked face goes: none of these rows marks a face that has all the numbers
abbrev pub NoneMarked : List Row → List ℕ → Type 0
NoneMarked rows ns = (row : Row) → Memᴰ row rows → (f : Face) → T (marks f row) → T (has_all ns f) → ⊥

-- with an edge those faces go that have both ends
abbrev pub MarksStay : Patch → ℕ → ℕ → Type 0
MarksStay patch e f = NoneMarked patch.rows (min e f ∷ max e f ∷ [])

-- there is room: the rows and m - 4 more, or for a chain m - 3 more, are at most 60
abbrev pub HasRoom : List ℕ → Bool → List ℕ → Type 0
HasRoom block closed vs = length (fields_of block).rows + length vs ≤ max_rows + cond closed 4 3

-- All premises of the third demand: a ring or a flat chain, of one region, no marked face that goes, room, and some way of cutting it that
-- keeps the mesh rule.
pub record Premises (block out : List ℕ) (e f : ℕ) (closed : Bool) (vs : List ℕ) : Type 0 where
  pub ringed : Ringed block out e f closed vs
  pub flat : FlatChain block e f closed vs
  pub one_region : OneMaterial (fields_of block) e f
  pub no_marked_face_goes : MarksStay (fields_of block) e f
  pub room : HasRoom block closed vs
  pub some_way : (ts : List Triangle) × Way (edge_at (fields_of block) e f closed vs) ts
