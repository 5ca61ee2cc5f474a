-- What the table of pieces keeps of the whole ring or chain is its best worst, and its apexes stand for the chosen triangulation: where
-- the best worst is no mark, no kept row bars the chain.
use Prim.Native.Nat.{ℕ, ◌+◌, ◌≤◌}
use mathlib.Core.Option.{some}
use mathlib.Core.Path.{◌≡◌, sym, ap, ◌∙◌, subst}
use Rattle.std.specs.Prelude.{Option as Optional, Some}
use native.Mathlib.Omega.{arith}
use lib.Dec.{T}
use Rattle.ring.specs.Ring.{Site, m}
use Rattle.quality.specs.declared.Quality.{Quality}
use Rattle.cells.specs.Steps.{best_of, cell_at, option_of}
use Rattle.cells.proofs.CellsRead.{read_fraction}
use Rattle.pieces.specs.declared.Pieces.{Pieces}
use Rattle.pieces.specs.Steps.{KeepsTable, kept_best}
use Rattle.pieces.proofs.TableOptimal.{kept_best_lem}
use Rattle.expansion.proofs.TreeOfTable.{kept_between, kept_spans, kept_tree}
use Rattle.triangulation.proofs.Barred.{whole_is}
use Rattle.triangulation.specs.Best.{table_best, same_best}
use Rattle.replacement.specs.Steps.{BestWay}

module _ {its : Site} (three : 3 ≤ m its) {pieces : Pieces} (keeps : KeepsTable its pieces) (best : Optional Quality) (at : ℕ)
    (place : at ≡ cell_at 1 pieces.m) (is : option_of best ≡ best_of pieces.table at) where
  long : 1 + 2 ≤ m its
  long = omega arith

  whole : option_of best ≡ kept_best pieces 1 (m its)
  whole = rw (place ∙ ap (cell_at 1) keeps.length) at is

  pub way_read : (q : Quality) → best ≡ Some q → BestWay its (Some (record { worst = q; apexes = pieces.table.apexes }))
  way_read q e =
      let own : kept_best pieces 1 (m its) ≡ some q = sym whole ∙ ap option_of e in
      record {
        best = subst (λ o. T (same_best o (table_best its 1 (m its)))) own (keeps.best 1 (m its) (omega arith) long (omega arith));
        fraction = read_fraction _ _ _ q own;
        apexes = record {
          between = kept_between keeps;
          tree = kept_tree keeps (sym (whole_is its) ∙ (kept_best_lem keeps 1 (m its) (omega arith) long (omega arith) own).0);
          spans = kept_spans keeps long own;
        };
      }
