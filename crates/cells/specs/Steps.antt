-- What only contracts of inner functions and proofs say: where the table keeps a piece, and what its cells stand for.
use Rattle.std.specs.Prelude.{ℕ, zero, suc, ◌-◌, ◌*◌, ◌/◌, List, ◌≡◌, length, get_or, set, Option as Optional, None, Some}
use Rattle.std.proofs.Math.Option.{Option, none, some}
use Rattle.quality.specs.declared.Kind.TheVariants.{Upright, Flat, Inverted}
use Rattle.quality.specs.declared.Quality.{Quality}
use Rattle.quality.specs.Steps.{from_parts}
use Rattle.ring.specs.Ring.{max_ring}
use Rattle.quality.specs.declared.Kind.{Kind}
use Rattle.cells.specs.declared.Cell.{Cell}
use Rattle.cells.specs.declared.Table.{Table}

-- ---- an Option of the code

-- the same, as the definitions have it
abbrev pub option_of : {A : Type 0} → Optional A → Option A
option_of None = none
option_of (Some x) = some x

-- ---- the arrays of the table

-- one cell for each piece of the longest ring
abbrev pub cells : ℕ
cells = (max_ring - 1) * (max_ring - 2) / 2

-- where the flat arrays keep piece (i,j), with j at least i + 2: the pieces that end before j come first, then (j - 2,j) down to (1,j)
unfoldable pub cell_at : ℕ → ℕ → ℕ
cell_at i j = (j - 1) * (j - 2) / 2 - i

-- what a cell keeps as a best worst, or the mark: 0 for the mark, 1 inverted, 2 flat, 3 upright; a denominator of 0 makes no quality
unfoldable pub read_best : ℕ → ℕ → ℕ → Option Quality
read_best zero num den = none
read_best (suc zero) num den = some (from_parts Inverted num den)
read_best (suc (suc zero)) num den = some (from_parts Flat num den)
read_best (suc (suc (suc n))) num den = some (from_parts Upright num den)

-- The arrays are whole.
pub record Whole (table : Table) : Type 0 where
  pub all_nums : length table.nums ≡ cells
  pub all_dens : length table.dens ≡ cells
  pub all_kinds : length table.kinds ≡ cells
  pub all_apexes : length table.apexes ≡ cells

-- the best worst that the table keeps at a place, or the mark
abbrev pub best_of : Table → ℕ → Option Quality
best_of table at = read_best (get_or table.kinds at 0) (get_or table.nums at 0) (get_or table.dens at 0)

-- the best worst that the table keeps for piece (i,j), or the mark
abbrev pub best_in : Table → ℕ → ℕ → Option Quality
best_in table i j = best_of table (cell_at i j)

-- what a cell keeps as an apex, or the mark
unfoldable pub coded_apex : ℕ → Option ℕ
coded_apex zero = none
coded_apex (suc k) = some (suc k)

-- the apex that the array keeps for piece (i,j), or the mark
abbrev pub apex_in : List ℕ → ℕ → ℕ → Option ℕ
apex_in apexes i j = coded_apex (get_or apexes (cell_at i j) 0)

-- ---- a choice, stored

-- 0 for the mark, 1 inverted, 2 flat, 3 upright
abbrev pub kind_code : Kind → ℕ
kind_code Inverted = 1
kind_code Flat = 2
kind_code Upright = 3

-- a choice as a cell keeps it
abbrev pub cell_of : Optional (ℕ × Quality) → Cell
cell_of None = record { kind = 0; num = 0; den = 0; apex = 0 }
cell_of (Some (k, q)) = record { kind = kind_code q.kind; num = q.num; den = q.den; apex = k }

-- the table with a choice at a place
abbrev pub stored : Table → ℕ → Optional (ℕ × Quality) → Table
stored table at choice =
    let cell = cell_of choice in
    record {
      nums = set table.nums at cell.num;
      dens = set table.dens at cell.den;
      kinds = set table.kinds at cell.kind;
      apexes = set table.apexes at cell.apex;
    }
