-- What only contracts of inner functions and proofs say: what the cells of the table keep once they are filled.
use Rattle.std.specs.Prelude.{ℕ, ◌+◌, ◌-◌, ◌≤◌, ◌<◌, Bool, false, List, ◌≡◌, T, get_or}
use Rattle.std.proofs.Math.Option.{Option}
use Rattle.lists.specs.Lists.{any}
use Rattle.quality.specs.declared.Quality.{Quality}
use Rattle.ring.specs.Ring.{Site}
use Rattle.triangulation.specs.Admissible.{kept_uses, diagonal_faces}
use Rattle.triangulation.specs.Best.{best_worst, same_best}
use Rattle.cells.specs.declared.Table.{Table}
use Rattle.cells.specs.Steps.{cell_at, best_in}

-- A cell keeps the best worst of piece (i,j) or the mark, and whether a kept row uses a face of a or b with the piece's closing side.
pub record Known (site : Site) (kept : Option Quality) (closing : Bool) (i j : ℕ) : Type 0 where
  pub best : T (same_best kept (best_worst site i j))
  pub used : closing ≡ any (kept_uses site) (diagonal_faces site (i, j))

-- the table's cell of piece (i,j) is filled
abbrev pub KnownIn : Site → Table → List Bool → ℕ → ℕ → Type 0
KnownIn site table used i j = Known site (best_in table i j) (get_or used (cell_at i j) false) i j

-- the pieces inside (i,j) that are smaller are filled
abbrev pub Smaller : Site → Table → List Bool → ℕ → ℕ → Type 0
Smaller site table used i j = (l e : ℕ) → i ≤ l → e ≤ j → l + 2 ≤ e → e - l < j - i → KnownIn site table used l e
