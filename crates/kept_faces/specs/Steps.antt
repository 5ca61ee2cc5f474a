-- What only contracts of inner functions and proofs say: the points that new rows have, and the faces of kept rows that can matter, those
-- whose numbers are all among a, b, v1..vm. The code looks up their keys.
use Rattle.std.specs.Prelude.{ℕ, ◌<◌, ◌+◌, ◌-◌, ◌*◌, ◌%◌, ◌≤◌, Bool, true, false, not, ◌&&◌, ◌||◌, ◌≡◌, get_or, length}
use mathlib.Core.List.{List, map, flat_map}
use Rattle.lists.specs.Lists.{those, has}
use Rattle.rows.specs.declared.Row.{Row}
use Rattle.mesh.specs.Mesh.{Face, faces, reversed}
use Rattle.rows.specs.Rows.{rows_at, holds_edge, row_size}
use Rattle.rows.specs.RowMeasure.{place}
use Rattle.keys.specs.Steps.{face_key}
use Rattle.kept_faces.specs.declared.Rim.{Rim}
use Rattle.volume.specs.Volume.{point_size, point_in}
use Rattle.layout.specs.Layout.{max_points, max_rows}
use Rattle.ring.specs.declared.Ring.{Ring}
use Rattle.ring.specs.Ring.{Site, m, min_ring, max_ring, ring_with}
use Rattle.triangulation.specs.Triangulation.{v}
use Rattle.triangulation.specs.Admissible.{kept_uses}
use Rattle.triangulation.specs.Steps.{site_in}

-- how many places points have: as many as a block has points
abbrev pub places : ℕ
places = max_points

-- a point is met: it is looked up at its number modulo the places
abbrev pub met_at : List Bool → ℕ → Bool
met_at met p = get_or met (p % places) false

-- The points a, b and v1 to vm are met.
pub record RimMet (met : List Bool) (rim : Rim) (m : ℕ) : Type 0 where
  pub a : met_at met rim.a ≡ true
  pub b : met_at met rim.b ≡ true
  pub v : (i : ℕ) → i < m → met_at met (get_or rim.v i 0) ≡ true

-- a face's three numbers are all met
abbrev pub all_met : List Bool → Face → Bool
all_met met f = met_at met f.0 && met_at met f.1 && met_at met f.2

-- the keys of the faces whose numbers are all met
unfoldable pub keyed : List Bool → List Face → List ℕ
keyed met fs = map face_key (those (all_met met) fs)

-- the rows that do not hold both ends
abbrev pub kept_of : ℕ → ℕ → List Row → List Row
kept_of a b rows = those (λ row. not (holds_edge a b row)) rows

-- the keys of the rows' faces whose numbers are all met
abbrev pub kept_keys : List Bool → List Row → List ℕ
kept_keys met rows = keyed met (flat_map faces rows)

-- The keys are those of the rows' faces whose numbers are all met, where at least the points of the rim are.
pub record Gathered (keys : List ℕ) (rim : Rim) (m : ℕ) (rows : List Row) : Type 0 where
  pub met : List Bool
  pub points : RimMet met rim m
  pub are : keys ≡ kept_keys met rows

-- the key of the face, or of the face the other way round, is among the keys
abbrev pub used_by : List ℕ → Face → Bool
used_by keys f = has keys (face_key f) || has keys (face_key (reversed f))

-- ---- what the code knows of the site

-- The ends and v1 to vm have their coordinates.
pub record Rimmed (coordinates : List ℕ) (rim : Rim) : Type 0 where
  pub a : point_size * rim.a + point_size ≤ length coordinates
  pub b : point_size * rim.b + point_size ≤ length coordinates
  pub v : (i : ℕ) → i < max_ring → point_size * get_or rim.v i 0 + point_size ≤ length coordinates

-- The points that new rows have.
pub data OnRim (site : Site) : ℕ → Type 0 where
  end_a : OnRim site site.a
  end_b : OnRim site site.b
  ring_point : (i : ℕ) → 1 ≤ i → i ≤ m site → OnRim site (v site i)

-- The site's points, places and kept faces, as far as new rows ask for them.
pub record SiteRim (site : Site) (coordinates : List ℕ) (rim : Rim) (keys : List ℕ) : Type 0 where
  pub a : rim.a ≡ site.a
  pub b : rim.b ≡ site.b
  pub v : (i : ℕ) → 1 ≤ i → i ≤ m site → get_or rim.v (i - 1) 0 ≡ v site i
  pub places : {n : ℕ} → OnRim site n → point_in coordinates n ≡ place site.points n
  pub uses : {x y z : ℕ} → OnRim site x → OnRim site y → OnRim site z → used_by keys (x, y, z) ≡ kept_uses site (x, y, z)

-- ---- what a caller shows

-- The edge (a,b) has a ring or a chain of 3 to 10 points, and points and rows stand in their tables.
pub record Fillable (coordinates : List ℕ) (count : ℕ) (table : List ℕ) (n a b : ℕ) (closed : Bool) (ring : Ring) : Type 0 where
  pub points : point_size * count ≤ length coordinates
  pub few_points : count ≤ max_points
  pub rows : rows_at + row_size * n ≤ length table
  pub few_rows : n ≤ max_rows
  pub ordered : a < b
  pub below : b < count
  pub is_closed : closed ≡ (site_in coordinates count table n a b).closed
  pub found : ring ≡ ring_with (site_in coordinates count table n a b).ring
  pub long : min_ring ≤ m (site_in coordinates count table n a b)
  pub short : m (site_in coordinates count table n a b) ≤ max_ring
  pub ring_below : (i : ℕ) → i < m (site_in coordinates count table n a b)
      → get_or (site_in coordinates count table n a b).ring i 0 < count
