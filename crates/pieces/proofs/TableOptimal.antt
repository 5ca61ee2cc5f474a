-- What a table that keeps the pieces of a ring says of every triangulation.
use Prim.Native.Nat.{ℕ, suc, ◌+◌, ◌-◌, ◌≤◌, ◌<◌}
use mathlib.Core.Bool.{Bool, true, false, true≢false, cond, not}
use mathlib.Core.Logic.{◌⊎◌, inl, inr}
use mathlib.Core.Option.{Option, none, some}
use mathlib.Core.Path.{◌≡◌, refl, sym, ap, ◌∙◌, subst}
use native.Mathlib.Omega.{arith}
use lib.Dec.{T, T_not, not_T}
use Rattle.lists.proofs.Numbers.{first_least}
use Rattle.quality.specs.declared.Quality.{Quality}
use Rattle.quality.specs.Quality.{as_good}
use Rattle.quality.proofs.QualityOrder.{Fraction, ◌≈◌, as_good_lem, from_as_good, as_good_back, as_good_goes_on, at_most_trans}
use Rattle.ring.specs.Ring.{Site, m}
use Rattle.pieces.specs.declared.Pieces.{Pieces}
use Rattle.triangulation.specs.Triangulation.{Tri, cut, span}
use Rattle.triangulation.specs.Admissible.{piece_admissible}
use Rattle.pieces.specs.Steps.{KeepsTable, kept_best, kept_apex}
use Rattle.triangulation.specs.Best.{worst_of_way, best_worst, apex, barred_piece, table_best, same_best, reaches}
use Rattle.triangulation.specs.Optimum.{IsBestWorst, IsMarked, IsApex}
use Rattle.triangulation.proofs.AllWays.{span_over}
use Rattle.triangulation.proofs.WorstOfWays.{Way, Reached, best_there, best_reached, none_best}
use Rattle.triangulation.proofs.ApexOfPiece.{Reaches, apex_reaches, apex_there, mark_apex, reach_i}
use Rattle.cells.proofs.CellsRead.{read_fraction}

-- before the apex none reaches the best worst
before : (site : Site) (i j : ℕ) {k : ℕ} → apex site i j ≡ some k → (l : ℕ) → i < l → l < k
    → T (not (reaches site i j (best_worst site i j) l))
unfolding apex
before site i j e l a b = first_least (reaches site i j (best_worst site i j)) (suc i) (j - i - 1) e l a b

module _ {site : Site} {table : Pieces} (keeps : KeepsTable site table) where
  -- ---- one cell, against every triangulation of its piece

  module _ (i j : ℕ) (start : 1 ≤ i) (long : i + 2 ≤ j) (end : j ≤ m site) where
    way : (t : Tri) → span t ≡ j - i → T (piece_admissible site i t) → Way site i j t
    way t e a = record { ends = omega arith; admissible = a }

    -- what the cell keeps, as good as what it is to keep
    told : {o : Option Quality} → kept_best table i j ≡ o → T (same_best o (table_best site i j))
    told e = subst (λ o. T (same_best o (table_best site i j))) e (keeps.best i j start long end)

    -- a cell that keeps a best worst is not that of a chain that is barred
    pub kept_open : {q : Quality} → kept_best table i j ≡ some q → barred_piece site i j ≡ false
    unfolding same_best
    kept_open {q} e = go (barred_piece site i j) (told e)
      where
        go : (b : Bool) → T (same_best (some q) (cond b none (best_worst site i j))) → b ≡ false
        go true t = absurd t
        go false t = refl

    -- the kept best worst is one fraction with one that is reached
    top : {q : Quality} → kept_best table i j ≡ some q → (p : Quality) × (best_worst site i j ≡ some p) × Reached site i j p × (q ≈ p)
    unfolding same_best
    top {q} e = go (best_worst site i j) refl (subst (λ b. T (same_best (some q) (cond b none (best_worst site i j)))) (kept_open e) (told e))
      where
        go : (o : Option Quality) → best_worst site i j ≡ o → T (same_best (some q) o)
            → (p : Quality) × (best_worst site i j ≡ some p) × Reached site i j p × (q ≈ p)
        go none b t = absurd t
        go (some p) b t = (p, b, best_reached site (omega arith) b, from_as_good q p t)

    -- a cell is its piece's best worst over every admissible triangulation,
    pub kept_best_lem : {q : Quality} → kept_best table i j ≡ some q → (barred_piece site i j ≡ false) × IsBestWorst site i j q
    kept_best_lem {q} e =
        let t = top e in
        let p = t.0 in
        let r = t.2 in (
          kept_open e,
          record {
            by = r.by;
            spans = omega (arith, r.way.ends);
            admissible = r.way.admissible;
            reaches = as_good_lem (subst (λ w. w ≈ q) (sym r.worst) (record { up = t.3.down; down = t.3.up }));
            none_better_fact = λ u s a. (at_most_trans r.fraction (r.bounds u (way u s a)) t.3.down).not_worse;
          },
        )

    -- or the mark, exactly when there is none or the chain is barred
    pub kept_mark : kept_best table i j ≡ none → (barred_piece site i j ≡ true) ⊎ IsMarked site i j
    unfolding same_best
    kept_mark e = go (barred_piece site i j) refl (told e)
      where
        go : (b : Bool) → barred_piece site i j ≡ b → T (same_best none (cond b none (best_worst site i j)))
            → (barred_piece site i j ≡ true) ⊎ IsMarked site i j
        go true s h = inl s
        go false s h = inr (λ t spans.
            not_T (piece_admissible site i t) (λ a.
            let b = best_there site (way t spans a) in
            subst (λ o. T (same_best none o)) b.1 h))

    pub mark_kept : (barred_piece site i j ≡ true) ⊎ IsMarked site i j → kept_best table i j ≡ none
    mark_kept why = go (kept_best table i j) refl
      where
        clash : {q : Quality} → kept_best table i j ≡ some q → (barred_piece site i j ≡ true) ⊎ IsMarked site i j → ⊥
        clash e (inl s) = true≢false (sym s ∙ kept_open e)
        clash e (inr marked) =
            let b = (kept_best_lem e).1 in
            T_not (piece_admissible site i b.by) (marked b.by b.spans) b.admissible

        go : (o : Option Quality) → kept_best table i j ≡ o → o ≡ none
        go none e = refl
        go (some q) e = absurd (clash e why)

    -- the apex is the smallest k with which some admissible triangulation reaches the best worst
    pub kept_apex_lem : {q : Quality} → kept_best table i j ≡ some q → (k : ℕ) × (kept_apex table i j ≡ some k) × IsApex site i j q k
    kept_apex_lem {q} e = (
      k,
      keeps.apexes i j start long end ∙ ap (λ b. cond b none (apex site i j)) (kept_open e) ∙ own.1,
      record {
        left = at.l;
        right = at.r;
        left_ends = at.cuts.at_k;
        right_ends = at.cuts.at_j;
        admissible = at.admissible;
        reaches = as_good_goes_on (worst_of_way site i (cut at.l at.r)) p q fraction (as_good_lem at.reached)
            (as_good_back q p (as_good_lem same));
        smallest = least;
      },
    )
      where
        p : Quality
        p = (top e).0

        is : best_worst site i j ≡ some p
        is = (top e).1

        fraction : Fraction p
        fraction = (top e).2.fraction

        same : q ≈ p
        same = (top e).3

        own : (k : ℕ) × (apex site i j ≡ some k)
        own = apex_there site long (top e).2.way

        k : ℕ
        k = own.0

        at : Reaches site i k j p
        at = apex_reaches site is own.1

        least : (l r : Tri) → span (cut l r) ≡ j - i → i + span l < k → T (piece_admissible site i (cut l r))
            → T (not (as_good (worst_of_way site i (cut l r)) q))
        least l r s low a =
            let w = worst_of_way site i (cut l r) in
            not_T (as_good w q) (λ good.
            let as-top = from_as_good w p
            (as_good_goes_on w q p (record { over = read_fraction _ _ _ q e }) good (as_good_lem same)) in
            let reached = reach_i site (way (cut l r) s a) refl as-top in
            T_not (reaches site i j (best_worst site i j) (i + span l))
            (before site i j own.1 (i + span l) (omega (arith, span_over l)) low)
            (subst (λ o. T (reaches site i j o (i + span l))) (sym is) reached))

    -- a piece with the mark has no apex
    pub mark_no_apex : kept_best table i j ≡ none → kept_apex table i j ≡ none
    mark_no_apex e = keeps.apexes i j start long end ∙ go (barred_piece site i j) (told e)
      where
        go : (b : Bool) → T (same_best none (cond b none (best_worst site i j))) → cond b none (apex site i j) ≡ none
        go true h = refl
        go false h = mark_apex site i j (none_best (best_worst site i j) h)
