-- What only contracts of inner functions and proofs say: what the table of pieces keeps in its cells.
use Rattle.std.specs.Prelude.{ℕ, ◌+◌, ◌≤◌, ◌≡◌, T}
use Rattle.std.proofs.Math.Option.{Option}
use Rattle.quality.specs.declared.Quality.{Quality}
use Rattle.ring.specs.Ring.{Site, m, ring_with}
use Rattle.triangulation.specs.Best.{table_best, table_apex, same_best}
use Rattle.cells.specs.Steps.{best_in, apex_in}
use Rattle.pieces.specs.declared.Pieces.{Pieces}

-- the best worst that the table keeps for piece (i,j), or the mark
abbrev pub kept_best : Pieces → ℕ → ℕ → Option Quality
kept_best pieces i j = best_in pieces.table i j

-- the apex that the table keeps for piece (i,j), or the mark
abbrev pub kept_apex : Pieces → ℕ → ℕ → Option ℕ
kept_apex pieces i j = apex_in pieces.table.apexes i j

-- For each piece, the best worst and the chosen apex are kept together with the ring.
pub record KeepsTable (site : Site) (table : Pieces) : Type 0 where
  pub length : table.m ≡ m site
  pub ring : table.ring ≡ (ring_with site.ring).v
  pub best : (i j : ℕ) → 1 ≤ i → i + 2 ≤ j → j ≤ m site → T (same_best (kept_best table i j) (table_best site i j))
  pub apexes : (i j : ℕ) → 1 ≤ i → i + 2 ≤ j → j ≤ m site → kept_apex table i j ≡ table_apex site i j
