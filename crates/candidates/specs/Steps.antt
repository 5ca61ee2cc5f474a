-- What only contracts of inner functions and proofs say: what the code makes of a triangle over a piece.
use Rattle.std.specs.Prelude.{ℕ, ◌+◌, ◌-◌, ◌*◌, ◌≤◌, Bool, false, cond, List, ◌≡◌, leb, length, get_or}
use Rattle.std.proofs.Math.Option.{Option, none, some}
use Rattle.quality.specs.declared.Quality.{Quality}
use Rattle.volume.specs.Volume.{point_size, point_in}
use Rattle.quality.specs.Quality.{quality, worse_of}
use Rattle.candidates.specs.declared.Bipyramid.{Bipyramid}
use Rattle.kept_faces.specs.declared.Rim.{Rim}
use Rattle.candidates.specs.declared.Side.{Side}
use Rattle.candidates.specs.declared.Side.TheVariants.{Neighbours, Diagonal, Barred}
use Rattle.kept_faces.specs.Steps.{used_by}
use Rattle.cells.specs.declared.Table.{Table}
use Rattle.cells.specs.Steps.{cell_at, best_in}

-- ---- the sides of a triangle

-- the worst of some rows and of what stands at a side, if the side can be taken
abbrev pub beside_of : Side → Quality → Option Quality
beside_of Neighbours q = some q
beside_of (Diagonal r) q = some (worse_of q r)
beside_of Barred q = none

-- the side (i,j) of a triangle
unfoldable pub read_side : Table → List Bool → ℕ → ℕ → Side
read_side table used i j =
    let at = cell_at i j in
    let kept : Side = elim (best_in table i j) [ none ↦ Barred | some q ↦ Diagonal q ] in
    cond (leb (j - i) 1) Neighbours (cond (get_or used at false) Barred kept)

-- ---- the two rows of a triangle

-- the two rows of the triangle (i,k,j)
abbrev pub two_over : Rim → ℕ → ℕ → ℕ → Bipyramid
two_over rim i k j =
    record { a = rim.a; x = get_or rim.v (i - 1) 0; y = get_or rim.v (k - 1) 0; z = get_or rim.v (j - 1) 0; b = rim.b }

-- The points of both rows have their coordinates.
pub record Reaching (coordinates : List ℕ) (rows : Bipyramid) : Type 0 where
  pub a : point_size * rows.a + point_size ≤ length coordinates
  pub x : point_size * rows.x + point_size ≤ length coordinates
  pub y : point_size * rows.y + point_size ≤ length coordinates
  pub z : point_size * rows.z + point_size ≤ length coordinates
  pub b : point_size * rows.b + point_size ≤ length coordinates

-- the worse of the rows (a,x,y,z) and (x,y,z,b)
unfoldable pub worst_over : List ℕ → Bipyramid → Quality
worst_over coordinates rows =
    let at = point_in coordinates in
    let x = at rows.x in
    let y = at rows.y in
    let z = at rows.z in
    worse_of (quality (at rows.a) x y z) (quality x y z (at rows.b))

-- the best worst with the triangle, or the mark, if a kept row uses the triangle or a side cannot be taken
unfoldable pub candidate_over : List ℕ → List ℕ → Bipyramid → Side → Side → Option Quality
candidate_over coordinates keys rows left right =
    let sides : Option Quality = elim (beside_of left (worst_over coordinates rows)) [ none ↦ none | some q ↦ beside_of right q ] in
    cond (used_by keys (rows.x, rows.y, rows.z)) none sides
