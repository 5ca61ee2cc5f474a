-- A cell more: the choice over the apexes, stored, is the piece's best worst and apex, and no other cell changes.
use Prim.Native.Nat.{ℕ, zero, suc, ◌+◌, ◌-◌, ◌≤◌, ◌<◌}
use mathlib.Core.Bool.{Bool, false, ◌||◌}
use mathlib.Core.List.{List}
use mathlib.Core.Option.{Option, none, some, map, none-ne-some, some-injective}
use mathlib.Core.Path.{◌≡◌, refl, sym, ap, ap₂, ◌∙◌, subst}
use native.Mathlib.Decide.{dec_lt}
use native.Mathlib.Omega.{arith}
use Rattle.std.specs.Prelude.{Option as Optional, None, Some}
use lib.Dec.{T}
use lib.ListN.{length, get_or, set, length-set}
use lib.Seq.{get_or-set_same, get_or-set_other}
use Rattle.lists.specs.Lists.{any}
use Rattle.lists.proofs.Tests.{or_false}
use Rattle.quality.specs.declared.Kind.{Kind}
use Rattle.quality.specs.declared.Kind.TheVariants.{Upright, Flat, Inverted}
use Rattle.quality.specs.declared.Quality.{Quality}
use Rattle.ring.specs.Ring.{Site, m}
use Rattle.cells.specs.declared.Cell.{Cell}
use Rattle.cells.specs.declared.Table.{Table}
use Rattle.kept_faces.specs.declared.Rim.{Rim}
use Rattle.triangulation.specs.Triangulation.{v}
use Rattle.triangulation.specs.Admissible.{kept_uses, diagonal_faces}
use Rattle.triangulation.specs.Best.{best_worst, apex, same_best}
use Rattle.cells.specs.Steps.{cell_at, best_in, cells, option_of, read_best, apex_in, cell_of, coded_apex, kind_code, stored, Whole}
use Rattle.choice.specs.Steps.{Known, KnownIn, Smaller}
use Rattle.triangulation.specs.Steps.{candidate, best_found}
use Rattle.kept_faces.specs.Steps.{used_by, SiteRim, OnRim, end_a, end_b, ring_point}
use Rattle.filling.specs.Steps.{Done}
use Rattle.triangulation.proofs.ApexOfPiece.{apex_between}
use Rattle.cells.proofs.CellPlaces.{cell_apart, cell_last, cell_order}
use Rattle.cells.proofs.CellsRead.{parts_are, read_fraction}
use Rattle.triangulation.proofs.FirstOfTheBest.{Led}
use Rattle.triangulation.proofs.Recurrence.{Agrees, found_led, found_apex, found_best, led_fraction}

-- ---- a choice as a cell keeps it

read_kind : (kind : Kind) (num den : ℕ) → 0 < den → read_best (kind_code kind) num den ≡ some (record { kind = kind; num = num; den = den })
unfolding read_best
read_kind Inverted num den h = ap some (parts_are Inverted num den h)
read_kind Flat num den h = ap some (parts_are Flat num den h)
read_kind Upright num den h = ap some (parts_are Upright num den h)

-- a choice with a fraction is read as it was stored
read_choice : (choice : Optional (ℕ × Quality)) → ((q : Quality) → map (λ f. f.1) (option_of choice) ≡ some q → 0 < q.den)
    → read_best (cell_of choice).kind (cell_of choice).num (cell_of choice).den ≡ map (λ f. f.1) (option_of choice)
unfolding read_best
read_choice None h = refl
read_choice (Some (k, q)) h = read_kind q.kind q.num q.den (h q refl)

pub apex_over_lem : (k : ℕ) → 0 < k → coded_apex k ≡ some k
unfolding coded_apex
apex_over_lem zero h = absurd (omega arith)
apex_over_lem (suc k) h = refl

module _ {site : Site} (table : Table) (used : List Bool) {i j : ℕ} (long : i + 2 ≤ j)
    (smaller : Smaller site table used i j)
    (choice : Optional (ℕ × Quality)) (is : option_of choice ≡ best_found site (best_in table) i j) where
  abbrev kept : ℕ → ℕ → Option Quality
  kept = best_in table

  agrees : (l e : ℕ) → i ≤ l → e ≤ j → l + 2 ≤ e → e - l < j - i → Agrees site kept l e
  agrees l e a b c d =
      let k = smaller l e a b c d in
      record { same = k.best; fraction = λ q h. record { over = read_fraction _ _ _ q h } }

  found_fraction : (q : Quality) → map (λ f. f.1) (best_found site kept i j) ≡ some q → 0 < q.den
  found_fraction q = go (best_found site kept i j) refl
    where
      go : (o : Option (ℕ × Quality)) → best_found site kept i j ≡ o → map (λ f. f.1) o ≡ some q → 0 < q.den
      go none b e = absurd (none-ne-some q e)
      go (some f) b e =
          let led = subst (λ o. Led (λ k. candidate site kept i k j) (suc i) j o) b (found_led site kept long agrees) in
          subst (λ p. 0 < p.den) (some-injective f.1 q e) (led_fraction site kept long agrees f led).over

  kept_choice : read_best (cell_of choice).kind (cell_of choice).num (cell_of choice).den ≡ map (λ f. f.1) (best_found site kept i j)
  kept_choice =
      read_choice choice (λ q e. found_fraction q (ap (map (λ f. f.1)) (sym is) ∙ e)) ∙ ap (map (λ f. f.1)) is

  apex_stored : coded_apex (cell_of choice).apex ≡ apex site i j
  unfolding coded_apex
  apex_stored = go choice is
    where
      go : (choice : Optional (ℕ × Quality)) → option_of choice ≡ best_found site kept i j → coded_apex (cell_of choice).apex ≡ apex site i j
      go None e = sym (found_apex site kept long agrees ∙ ap (map (λ f. f.0)) (sym e))
      go (Some (k, q)) e =
          let at : apex site i j ≡ some k = found_apex site kept long agrees ∙ ap (map (λ f. f.0)) (sym e) in
          apex_over_lem k (omega (arith, (apex_between site at).0)) ∙ sym at

  cell_known : {closing : Bool} → closing ≡ any (kept_uses site) (diagonal_faces site (i, j))
      → Known site (read_best (cell_of choice).kind (cell_of choice).num (cell_of choice).den) closing i j
  cell_known u =
      record {
        best = subst (λ o. T (same_best o (best_worst site i j))) (sym kept_choice) (found_best site kept long agrees);
        used = u;
      }

-- whether a kept row uses a face of a or b with the diagonal, by the keys
pub side_found : {site : Site} {coordinates : List ℕ} {rim : Rim} {keys : List ℕ} → SiteRim site coordinates rim keys
    → {i j : ℕ} → 1 ≤ i → i < j → j ≤ m site
    → used_by keys (rim.a, get_or rim.v (i - 1) 0, get_or rim.v (j - 1) 0)
    || used_by keys (rim.b, get_or rim.v (i - 1) 0, get_or rim.v (j - 1) 0)
    ≡ any (kept_uses site) (diagonal_faces site (i, j))
unfolding any
side_found {site} given {i} {j} start long end =
    let x : OnRim site (v site i) = ring_point i start (omega arith) in
    let y : OnRim site (v site j) = ring_point j (omega arith) end in
    rw (given.a, given.b, given.v i start (omega arith), given.v j (omega arith) end)
    (ap₂ ◌||◌ (given.uses end_a x y) (given.uses end_b x y ∙ sym (or_false (kept_uses site (site.b, v site i, v site j)))))

-- ---- the table, filled up to a place

pub whole_more : {table : Table} (at : ℕ) (choice : Optional (ℕ × Quality)) → Whole table → Whole (stored table at choice)
whole_more at choice whole =
    record {
      all_nums = simp length-set whole.all_nums;
      all_dens = simp length-set whole.all_dens;
      all_kinds = simp length-set whole.all_kinds;
      all_apexes = simp length-set whole.all_apexes;
    }

-- The pieces with a place before `at` are filled.
pub record Upto (site : Site) (table : Table) (used : List Bool) (at : ℕ) : Type 0 where
  pub known : (l e : ℕ) → 1 ≤ l → l + 2 ≤ e → e ≤ m site → cell_at l e < at → KnownIn site table used l e
  pub chosen : (l e : ℕ) → 1 ≤ l → l + 2 ≤ e → e ≤ m site → cell_at l e < at → apex_in table.apexes l e ≡ apex site l e

module _ {site : Site} {table : Table} {used : List Bool} where
  pub upto_start : Upto site table used 0
  upto_start = record { known = λ l e a b c d. absurd (omega arith); chosen = λ l e a b c d. absurd (omega arith) }

  module _ {at : ℕ} (upto : Upto site table used at) where
    pub upto_here : {there : ℕ} → at ≡ there → Upto site table used there
    upto_here same = subst (Upto site table used) same upto

    pub upto_end : cell_at 1 (m site) < at → Done site table
    upto_end h =
        record {
          best = λ l e a b c. (upto.known l e a b c (omega (arith, cell_last l e (m site) a b c))).best;
          chosen = λ l e a b c. upto.chosen l e a b c (omega (arith, cell_last l e (m site) a b c));
        }

    module _ {i j : ℕ} (start : 1 ≤ i) (long : i + 2 ≤ j) (end : j ≤ m site) (here : cell_at i j ≡ at) where
      -- the smaller pieces inside (i,j) are filled
      pub upto_smaller : Smaller site table used i j
      upto_smaller l e a b c d =
          upto.known l e (omega arith) c (omega arith) (omega (arith, cell_order l e i j (omega arith) c long b (λ same. omega arith)))

      module _ (whole : Whole table) (all_used : length used ≡ cells) (room : at < cells)
          (choice : Optional (ℕ × Quality)) (is : option_of choice ≡ best_found site (best_in table) i j)
          {closing : Bool} (found : closing ≡ any (kept_uses site) (diagonal_faces site (i, j))) where
        abbrev cell : Cell
        cell = cell_of choice

        abbrev after : Table
        after = stored table at choice

        own_known : KnownIn site after (set used at closing) i j
        own_known =
            rw (
              here,
              get_or-set_same table.kinds at cell.kind 0 (omega (arith, whole.all_kinds)),
              get_or-set_same table.nums at cell.num 0 (omega (arith, whole.all_nums)),
              get_or-set_same table.dens at cell.den 0 (omega (arith, whole.all_dens)),
              get_or-set_same used at closing false (omega (arith, all_used)),
            ) (cell_known table used long upto_smaller choice is found)

        own_apex : apex_in after.apexes i j ≡ apex site i j
        own_apex =
            ap (λ there. coded_apex (get_or (set table.apexes at cell.apex) there 0)) here
            ∙ ap coded_apex (get_or-set_same table.apexes at cell.apex 0 (omega (arith, whole.all_apexes)))
            ∙ apex_stored table used long upto_smaller choice is

        other_known : (l e : ℕ) → 1 ≤ l → l + 2 ≤ e → e ≤ m site → cell_at l e < at → KnownIn site after (set used at closing) l e
        other_known l e a b c d =
            let there = cell_at l e in
            let apart : there ≡ at → ⊥ = λ s. omega arith in
            rw (
              get_or-set_other table.kinds at there cell.kind 0 apart,
              get_or-set_other table.nums at there cell.num 0 apart,
              get_or-set_other table.dens at there cell.den 0 apart,
              get_or-set_other used at there closing false apart,
            ) (upto.known l e a b c d)

        other_apex : (l e : ℕ) → 1 ≤ l → l + 2 ≤ e → e ≤ m site → cell_at l e < at → apex_in after.apexes l e ≡ apex site l e
        other_apex l e a b c d =
            ap coded_apex (get_or-set_other table.apexes at (cell_at l e) cell.apex 0 (λ s. omega arith)) ∙ upto.chosen l e a b c d

        -- the piece (i,j) itself, or one filled before
        by_cell : (P : ℕ → ℕ → Type 0) → P i j → ((l e : ℕ) → 1 ≤ l → l + 2 ≤ e → e ≤ m site → cell_at l e < at → P l e)
            → (l e : ℕ) → 1 ≤ l → l + 2 ≤ e → e ≤ m site → cell_at l e < at + 1 → P l e
        by_cell P own others l e a b c d = go (dec_lt (cell_at l e) at)
          where
            go : Dec (cell_at l e < at) → P l e
            go (yes h) = others l e a b c h
            go (no h) = let same = cell_apart l e i j a b start long (omega arith) in rw (same.0, same.1) own

        pub upto_more : Upto site after (set used at closing) (at + 1)
        upto_more =
            record {
              known = by_cell (KnownIn site after (set used at closing)) own_known other_known;
              chosen = by_cell (λ l e. apex_in after.apexes l e ≡ apex site l e) own_apex other_apex;
            }
