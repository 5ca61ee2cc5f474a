-- Requirement §7.2, §7.9 and answer 20: the region of some rows, whether they have more than one, and the total D of each region by itself.
use Rattle.std.specs.Prelude.{ℕ, Bool, not, ◌≡◌, eqb, ℤ}
use mathlib.Core.List.{List, map, Memᴰ}
use Rattle.lists.specs.Lists.{every, any, those, first_or}
use Rattle.volume.specs.declared.Point.{Point}
use Rattle.rows.specs.declared.Row.{Row}
use Rattle.rows.specs.RowMeasure.{total_d}

-- the row has region g
abbrev pub in_region : ℕ → Row → Bool
in_region g row = eqb row.region g

-- the region of all the rows: the one that each of them has; 0 where there is none
unfoldable pub region_of : List Row → ℕ
region_of rows = first_or 0 (λ g. every (in_region g) rows) (map (λ (row : Row). row.region) rows)

-- 20: more than one region: two of the rows have different ones
unfoldable pub mixed : List Row → Bool
mixed rows = any (λ (row : Row). any (λ other. not (in_region row.region other)) rows) rows

-- one region, as a statement: any two of the rows have the same
abbrev pub OneRegion : List Row → Type 0
OneRegion rows = (s t : Row) → Memᴰ s rows → Memᴰ t rows → s.region ≡ t.region

-- the total D of the rows of region g
abbrev pub region_d : List Point → ℕ → List Row → ℤ
region_d points g rows = total_d points (those (in_region g) rows)
