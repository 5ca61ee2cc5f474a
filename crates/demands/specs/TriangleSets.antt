-- The ways of cutting the ring, or the chain, as sets of triangles: any list of triangles that cut v1..vm, in any order, and no tree.
use Rattle.std.specs.Prelude.{not, T, length}
use mathlib.Core.List.{List, ◌++◌, map, flat_map, Memᴰ}
use Rattle.std.proofs.Math.Option.{get_or}
use Rattle.quality.specs.declared.Quality.{Quality}
use Rattle.quality.specs.Quality.{worse, worst, zero_quality}
use Rattle.rows.specs.declared.Row.{Row}
use Rattle.rows.specs.RowMeasure.{row_quality}
use Rattle.mesh.specs.Mesh.{keeps_mesh_rule}
use Rattle.marking.specs.Marking.{dressed}
use Rattle.ring.specs.Ring.{Site, m}
use Rattle.triangulation.specs.Triangulation.{Triangle, two_rows}
use Rattle.polygon.specs.Polygon.{cuts}
use Rattle.calls.specs.Removing.{worst_now}

-- the two rows of each triangle, in the order of the list
abbrev pub rows_of : Site → List Triangle → List Row
rows_of site ts = flat_map (two_rows site) ts

-- the whole table with them: the kept rows in order, then these
abbrev pub table_by : Site → List Triangle → List Row
table_by site ts = site.kept ++ rows_of site ts

-- and as it is written: these rows with the marks of the faces that stay
abbrev pub table_made : Site → List Triangle → List Row
table_made site ts = site.kept ++ dressed site.removed site.kept (rows_of site ts)

-- a way of triangulating the ring, or the chain, that keeps the mesh rule: the triangles cut v1..vm, and the whole table keeps the rule
abbrev pub Way : Site → List Triangle → Type 0
Way site ts = T (cuts (m site) ts) × T (keeps_mesh_rule (length site.points) (table_by site ts))

-- the worst of its rows; three points or more have a triangle, so there are rows
abbrev pub worst_by : Site → List Triangle → Quality
worst_by site ts = get_or (worst (map (row_quality site.points) (rows_of site ts))) zero_quality

-- each way makes a tetrahedron no better than the worst one round the edge now
abbrev pub NoneBetter : Site → Type 0
NoneBetter site =
    (ts : List Triangle) → Way site ts
    → (row : Row) × Memᴰ row (rows_of site ts) × T (not (worse (worst_now site) (row_quality site.points row)))

-- no way has a better worst than these triangles
abbrev pub AsGoodAsAny : Site → List Triangle → Type 0
AsGoodAsAny site ts = (us : List Triangle) → Way site us → T (not (worse (worst_by site ts) (worst_by site us)))
