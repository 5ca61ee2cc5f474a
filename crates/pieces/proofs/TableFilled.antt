-- What the cells have at the end, with the mark where a kept row bars the chain, is the table of the ring.
use Prim.Native.Nat.{ℕ, ◌+◌, ◌≤◌, ◌<◌}
use mathlib.Core.Bool.{true, false, cond}
use mathlib.Core.List.{List}
use mathlib.Core.Option.{none}
use mathlib.Core.Path.{◌≡◌, refl, sym, ap, ◌∙◌, subst}
use native.Mathlib.Decide.{ℕ_discrete, dec_lt}
use native.Mathlib.Omega.{arith}
use Rattle.std.specs.Prelude.{None}
use lib.Dec.{T}
use lib.ListN.{length, length-set, get_or, set, get_or-eq_default}
use lib.Seq.{get_or-set_same, get_or-set_other}
use Rattle.ring.specs.Ring.{Site, m, min_ring, ring_with}
use Rattle.triangulation.specs.Admissible.{barred}
use Rattle.pieces.specs.Steps.{KeepsTable}
use Rattle.filling.specs.Steps.{Done}
use Rattle.cells.specs.declared.Table.{Table}
use Rattle.cells.specs.Steps.{apex_in, coded_apex, cell_at, best_in, read_best, stored}
use Rattle.triangulation.specs.Best.{best_worst, apex, barred_piece, table_best, table_apex, same_best}
use Rattle.triangulation.proofs.Barred.{open_piece, whole_is, other_open}
use Rattle.cells.proofs.CellPlaces.{cell_apart}

-- A cell keeps what the table keeps of piece (i,j).
record Told (site : Site) (table : Table) (i j : ℕ) : Type 0 where
  best : T (same_best (best_in table i j) (table_best site i j))
  chosen : apex_in table.apexes i j ≡ table_apex site i j

-- a cell set to 0 holds 0
zero_set : (ns : List ℕ) (at : ℕ) → get_or (set ns at 0) at 0 ≡ 0
zero_set ns at = go (dec_lt at (length ns))
  where
    go : Dec (at < length ns) → get_or (set ns at 0) at 0 ≡ 0
    go (yes h) = get_or-set_same ns at 0 0 h
    go (no h) = get_or-eq_default (set ns at 0) 0 (simp length-set (omega arith))

module _ {site : Site} {table : Table} (done : Done site table)
    {size : ℕ} (is-size : size ≡ m site) {ring : List ℕ} (is-ring : ring ≡ (ring_with site.ring).v) where
  -- a piece that is not barred, as it was filled
  told_open : (i j : ℕ) → 1 ≤ i → i + 2 ≤ j → j ≤ m site → barred_piece site i j ≡ false → Told site table i j
  told_open i j a b c free =
      record {
        best = subst (λ s. T (same_best (best_in table i j) (cond s none (best_worst site i j)))) (sym free) (done.best i j a b c);
        chosen = done.chosen i j a b c ∙ ap (λ s. cond s none (apex site i j)) (sym free);
      }

  pub keeps_open : barred site ≡ false
      → KeepsTable site (record { m = size; ring = ring; table = table })
  keeps_open free =
      record {
        length = is-size;
        ring = is-ring;
        best = λ i j a b c. (told_open i j a b c (open_piece site free i j)).best;
        apexes = λ i j a b c. (told_open i j a b c (open_piece site free i j)).chosen;
      }

  -- ---- the mark of a chain that is barred

  module _ (bars : barred site ≡ true) (long : min_ring ≤ m site) where
    abbrev whole : ℕ
    whole = cell_at 1 (m site)

    -- the table with the mark there
    abbrev marked : Table
    marked = stored table whole None

    told_barred : Told site marked 1 (m site)
    unfolding read_best coded_apex same_best
    told_barred =
        let is : barred_piece site 1 (m site) ≡ true = whole_is site ∙ bars in
        record { best = rw (zero_set table.kinds whole, is) tt; chosen = rw (zero_set table.apexes whole, is) }

    told_other : (i j : ℕ) → 1 ≤ i → i + 2 ≤ j → j ≤ m site → (i ≡ 1 → j ≡ m site → ⊥)
        → Told site marked i j
    told_other i j a b c other =
        let there = cell_at i j in
        let apart : there ≡ whole → ⊥ =
        λ e.
        let same = cell_apart i j 1 (m site) a b (omega arith) long e in
        other same.0 same.1 in
        let told = told_open i j a b c (other_open site i j other) in
        record {
          best = rw (get_or-set_other table.kinds whole there 0 0 apart, get_or-set_other table.nums whole there 0 0 apart, get_or-set_other table.dens whole there 0 0 apart)
              told.best;
          chosen = rw (get_or-set_other table.apexes whole there 0 0 apart) told.chosen;
        }

    told_all : (i j : ℕ) → 1 ≤ i → i + 2 ≤ j → j ≤ m site
        → Told site marked i j
    told_all i j a b c = go (ℕ_discrete i 1) (ℕ_discrete j (m site))
      where
        go : Dec (i ≡ 1) → Dec (j ≡ m site) → Told site marked i j
        go (yes s) (yes t) = rw (s, t) told_barred
        go (yes s) (no t) = told_other i j a b c (λ k. t)
        go (no s) t = told_other i j a b c (λ k l. s k)

    pub keeps_barred : {after : Table} {at : ℕ} → at ≡ cell_at 1 size → after ≡ stored table at None
        → KeepsTable site (record { m = size; ring = ring; table = after })
    keeps_barred at-whole is =
        rw (is, at-whole, is-size) (record {
          length = refl;
          ring = is-ring;
          best = λ i j a b c. (told_all i j a b c).best;
          apexes = λ i j a b c. (told_all i j a b c).chosen;
        })
