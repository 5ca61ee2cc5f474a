-- Every row's quality is proper: a fraction, its denominator over 0, that is 0 only where the row is flat.
use mathlib.Core.List.Memᴰ
use mathlib.Core.List.{List, map}
use mathlib.Core.Path.{subst}
use Rattle.volume.specs.declared.Point.{Point}
use Rattle.quality.proofs.QualityOrder.{Fraction}
use Rattle.quality.proofs.WorstAndBest.{Fractions}
use Rattle.quality.proofs.ConsistentQualities.{Consistent, quality_consistent}
use Rattle.rows.specs.declared.Row.{Row}
use Rattle.rows.specs.RowMeasure.{place, row_quality}

pub row_proper : (points : List Point) (row : Row) → Consistent (row_quality points row)
unfolding row_quality
row_proper points row = let at = place points in quality_consistent (at row.p) (at row.q) (at row.r) (at row.s)

pub row_fraction : (points : List Point) (row : Row) → Fraction (row_quality points row)
row_fraction points row = (row_proper points row).fraction

-- the qualities of rows are fractions
pub rows_fractions : (points : List Point) (rows : List Row) → Fractions (map (row_quality points) rows)
rows_fractions points rows q m =
    let (row, i, same) = Memᴰ.of_map (row_quality points) rows m in
    subst Fraction same (row_fraction points row)
