-- What only contracts of inner functions and proofs say: the table's cells once all are filled.
use Rattle.std.specs.Prelude.{ℕ, ◌+◌, ◌≤◌, ◌≡◌, T}
use Rattle.ring.specs.Ring.{Site, m}
use Rattle.triangulation.specs.Best.{best_worst, apex, same_best}
use Rattle.cells.specs.declared.Table.{Table}
use Rattle.cells.specs.Steps.{best_in, apex_in}

-- Every piece of the ring has its best worst and its apex.
pub record Done (site : Site) (table : Table) : Type 0 where
  pub best : (l e : ℕ) → 1 ≤ l → l + 2 ≤ e → e ≤ m site → T (same_best (best_in table l e) (best_worst site l e))
  pub chosen : (l e : ℕ) → 1 ≤ l → l + 2 ≤ e → e ≤ m site → apex_in table.apexes l e ≡ apex site l e
