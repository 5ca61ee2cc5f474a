-- The tree that a table of pieces stands for is the chosen triangulation: the table keeps the site's own apexes, and both trees follow them.
use Prim.Native.Nat.{ℕ, zero, suc, ◌+◌, ◌-◌, ◌≤◌, ◌<◌}
use mathlib.Core.Bool.{Bool, true, false, cond}
use mathlib.Core.Option.{Option, none, some, none-ne-some}
use mathlib.Core.List.{List}
use mathlib.Core.Path.{◌≡◌, refl, sym, ap, ◌∙◌}
use native.Mathlib.Decide.{dec_lt}
use native.Mathlib.Omega.{arith}
use lib.ListN.{get_or}
use Rattle.quality.specs.declared.Quality.{Quality}
use Rattle.ring.specs.Ring.{Site, m}
use Rattle.triangulation.specs.Triangulation.{Tri, side, cut, span}
use Rattle.triangulation.specs.Admissible.{barred}
use Rattle.triangulation.specs.Best.{apex, table_apex, barred_piece, chosen_within, chosen_of, chosen}
use Rattle.triangulation.proofs.Barred.{open_piece}
use Rattle.triangulation.proofs.ApexOfPiece.{apex_between, no_apex}
use Rattle.triangulation.proofs.ChosenIsBest.{chosen_optimal}
use Rattle.cells.specs.Steps.{cell_at, coded_apex, apex_in}
use Rattle.pieces.specs.declared.Pieces.{Pieces}
use Rattle.pieces.specs.Steps.{KeepsTable, kept_best}
use Rattle.filling.proofs.CellFilled.{apex_over_lem}
use Rattle.pieces.proofs.TableOptimal.{kept_best_lem}
use Rattle.expansion.specs.Steps.{Between, tree_within, tree_in}
use Rattle.expansion.proofs.TreeWritten.{branch, tree_near, tree_far}

-- ---- apexes that are the site's own

-- the apexes of the pieces inside (i,j) are the site's
abbrev Own : Site → List ℕ → ℕ → ℕ → Type 0
Own site apexes i j = (l e : ℕ) → i ≤ l → l + 2 ≤ e → e ≤ j → apex_in apexes l e ≡ apex site l e

module _ (site : Site) (apexes : List ℕ) where
  abbrev follow : ℕ → ℕ → ℕ → Option ℕ → Tri
  follow depth i j o = elim o [ none ↦ side | some k ↦ cut (chosen_within depth site i k) (chosen_within depth site k j) ]

  chosen_level : (depth i j : ℕ) → chosen_within (suc depth) site i j ≡ follow depth i j (apex site i j)
  unfolding chosen_within
  chosen_level depth i j = refl

  both_sides : (i j : ℕ) → tree_within zero apexes i j ≡ chosen_within zero site i j
  unfolding tree_within chosen_within
  both_sides i j = refl

  same_tree_lem : (depth i j : ℕ) → Own site apexes i j → tree_within depth apexes i j ≡ chosen_within depth site i j
  same_tree_lem zero i j own = both_sides i j
  same_tree_lem (suc depth) i j own = go (dec_lt j (i + 2)) (same_tree_lem depth)
    where
      go : Dec (j < i + 2)
          → ((i j : ℕ) → Own site apexes i j → tree_within depth apexes i j ≡ chosen_within depth site i j)
          → tree_within (suc depth) apexes i j ≡ chosen_within (suc depth) site i j
      go (yes h) below =
          tree_near apexes (suc depth) i j h
          ∙ sym (chosen_level depth i j ∙ ap (follow depth i j) (no_apex site i j (omega arith)))
      go (no h) below =
          tree_far apexes depth i j (omega arith)
          ∙ ap (branch apexes depth i j) (own i j (omega arith) (omega arith) (omega arith))
          ∙ parts (apex site i j) refl
          ∙ sym (chosen_level depth i j)
        where
          parts : (o : Option ℕ) → apex site i j ≡ o → branch apexes depth i j o ≡ follow depth i j o
          parts none q = refl
          parts (some k) q =
              let between = apex_between site q in
              let left = below i k (λ l e a b c. own l e a b (omega (arith, between.1))) in
              let right = below k j (λ l e a b c. own l e (omega (arith, between.0)) b c) in
              rw (left, right)

  -- the tree that is read is the chosen one
  pub own_tree : (i j : ℕ) → Own site apexes i j → tree_in apexes i j ≡ chosen_of site i j
  own_tree i j own = same_tree_lem (j - i) i j own

-- ---- a table that keeps the pieces of a ring

module _ {site : Site} {pieces : Pieces} (keeps : KeepsTable site pieces) where
  -- its apexes lie between the ends of their pieces,
  pub kept_between : Between pieces.table.apexes 1 (m site)
  kept_between =
      record {
        high = λ l e a b c. (within l e b (get_or pieces.table.apexes (cell_at l e) 0) (keeps.apexes l e a b c)).0;
        low = λ l e a b c. (within l e b (get_or pieces.table.apexes (cell_at l e) 0) (keeps.apexes l e a b c)).1;
      }
    where
      own : (l e k : ℕ) (b : Bool) → cond b none (apex site l e) ≡ some k → apex site l e ≡ some k
      own l e k true h = absurd (none-ne-some k h)
      own l e k false h = h

      within : (l e : ℕ) → l + 2 ≤ e → (k : ℕ) → coded_apex k ≡ table_apex site l e → (k < e) × ((k ≡ 0 → ⊥) → l < k)
      within l e b zero h = (omega arith, λ n. absurd (n refl))
      within l e b (suc k) h =
          let at = own l e (suc k) (barred_piece site l e) (sym h ∙ apex_over_lem (suc k) (omega arith)) in
          let between = apex_between site at in
          (between.1, λ n. between.0)

  -- its tree is the chosen one, if nothing bars the chain,
  pub kept_tree : barred site ≡ false → tree_in pieces.table.apexes 1 (m site) ≡ chosen site
  kept_tree free =
      own_tree site pieces.table.apexes 1 (m site) (λ l e a b c.
      keeps.apexes l e a b c ∙ ap (λ b. cond b none (apex site l e)) (open_piece site free l e))

  -- and spans the ring, if there is a best worst
  pub kept_spans : 3 ≤ m site → {q : Quality} → kept_best pieces 1 (m site) ≡ some q → span (chosen site) ≡ m site - 1
  kept_spans long e =
      let best = (kept_best_lem keeps 1 (m site) (omega arith) (omega arith) (omega arith) e).1 in
      (chosen_optimal site 1 (m site) best.by (omega arith) best.spans best.admissible).spans
