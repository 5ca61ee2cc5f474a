-- What only contracts of inner functions and proofs say: how many rows a table may have, when none of them is marked, and the regions of some rows as the code hands them on.
use Rattle.std.specs.Prelude.{ℕ, cond, List, ◌≡◌, eqb}
use Rattle.rows.specs.declared.Row.{Row}
use Rattle.rows.specs.declared.Regions.{Regions}
use Rattle.rows.specs.declared.Regions.TheVariants.{One, Several}
use Rattle.rows.specs.Labels.{no_marks}
use Rattle.rows.specs.Rows.{row_in}
use Rattle.rows.specs.Regions.{region_of, mixed}

-- at most 60 rows stand in a block, and one more in a table that is being changed
abbrev pub most_rows : ℕ
most_rows = 61

-- no row of a table is marked
abbrev pub Unmarked : List ℕ → Type 0
Unmarked table = (i : ℕ) → (row_in table i).marks ≡ no_marks

-- more than one region, or the region of all the rows
unfoldable pub regions_of : List Row → Regions
regions_of rows = cond (mixed rows) Several (One (region_of rows))

-- of no rows
abbrev pub no_regions : Regions
no_regions = One 0

-- with one row more behind some
abbrev pub with_region : Regions → ℕ → Regions
with_region (One same) region = cond (eqb region same) (One same) Several
with_region Several region = Several
