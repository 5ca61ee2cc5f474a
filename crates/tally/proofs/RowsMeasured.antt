-- A row of a table by the bytes of its points: a place of the patch is the point read from the coordinates, and the rows that
-- are measured have their places there.
use Prim.Native.Nat.{ℕ, suc, ◌<◌}
use mathlib.Core.List.{List, [], ◌∷◌, ◌++◌, map, map-append}
use mathlib.Core.Path.{◌≡◌, sym, ap, ◌∙◌}
use Rattle.lists.proofs.Lists.{every_at}
use Rattle.volume.specs.declared.Point.{Point}
use Rattle.quality.specs.declared.Quality.{Quality}
use Rattle.volume.specs.Volume.{point_in, points_in}
use Rattle.volume.proofs.PointsInBytes.{points_at_lem}
use Rattle.rows.specs.declared.Row.{Row}
use Rattle.rows.specs.Rows.{row_in, rows_in}
use Rattle.mesh.specs.Mesh.{numbers_fit}
use Rattle.rows.specs.RowMeasure.{no_point, place}
use Rattle.rows.proofs.RowsOfTables.{row_among, rows_more}
use Rattle.mesh.proofs.MeshRuleStated.{fit_proper}
use Rattle.tally.specs.Steps.{Placed, Measured}

-- ---- one row, from the four points that the code reads

-- the point of a number below the count stands at its place
pub placed : (coordinates : List ℕ) (count n : ℕ) → n < count → {x : Point} → x ≡ point_in coordinates n
    → x ≡ place (points_in coordinates count) n
placed coordinates count n l e = e ∙ sym (points_at_lem coordinates count n no_point l)

-- ---- the rows of a table

-- each row that is measured has its places
pub measured_row :
    {coordinates : List ℕ} {count : ℕ} {table : List ℕ} {n : ℕ}
    → Measured coordinates count table n
    → (i : ℕ)
    → i < n
    → Placed coordinates count (row_in table i)
measured_row {count = count} {table = table} {n = n} m i h =
    let fit = fit_proper count (row_in table i) (every_at (numbers_fit count) (rows_in table n) m.proper (row_among table n i h)) in
    record {
      points_held = m.points_held;
      below_p = fit.below_p;
      below_q = fit.below_q;
      below_r = fit.below_r;
      below_s = fit.below_s;
    }

-- the qualities of one row more
pub qualities_more :
    (f : Row → Quality) (table : List ℕ) (i : ℕ)
    → map f (rows_in table (suc i)) ≡ map f (rows_in table i) ++ f (row_in table i) ∷ []
qualities_more f table i = ap (map f) (rows_more table i) ∙ map-append f (rows_in table i) (row_in table i ∷ [])
