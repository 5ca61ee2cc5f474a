-- Requirement §4: a row measured, and the total D of a table.
use Rattle.std.specs.Prelude.{ℕ, ℤ, pos, ◌+ℤ◌, get_or}
use mathlib.Core.List.{List, foldr, map}
use Rattle.volume.specs.declared.Point.{Point}
use Rattle.quality.specs.declared.Quality.{Quality}
use Rattle.volume.specs.Volume.{D, S}
use Rattle.quality.specs.Quality.{quality}
use Rattle.rows.specs.declared.Row.{Row}

-- what stands where a list has no point
abbrev pub no_point : Point
no_point = record { x = 0; y = 0; z = 0 }

-- the place of point n
abbrev pub place : List Point → ℕ → Point
place points n = get_or points n no_point

-- D of a row
unfoldable pub row_d : List Point → Row → ℤ
row_d points row = let at = place points in D (at row.p) (at row.q) (at row.r) (at row.s)

-- S of a row
unfoldable pub row_s : List Point → Row → ℕ
row_s points row = let at = place points in S (at row.p) (at row.q) (at row.r) (at row.s)

-- the quality of a row
unfoldable pub row_quality : List Point → Row → Quality
row_quality points row = let at = place points in quality (at row.p) (at row.q) (at row.r) (at row.s)

-- the total D of a table
unfoldable pub total_d : List Point → List Row → ℤ
total_d points rows = foldr ◌+ℤ◌ (pos 0) (map (row_d points) rows)
