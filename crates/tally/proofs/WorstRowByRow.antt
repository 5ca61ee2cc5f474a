-- What the code keeps of the worst is the worst of the qualities met, or the mark of none.
use Prim.Native.Nat.{ℕ, suc}
use mathlib.Core.Bool.{Bool, true, false}
use mathlib.Core.List.{List, [], ◌∷◌, ◌++◌, foldl-append, map, map-append}
use mathlib.Core.Option as maybe
use mathlib.Core.Path.{◌≡◌, refl, sym, ap, ◌∙◌}
use Rattle.std.specs.Prelude.{Option, None, Some, unwrap_or}
use Rattle.lists.specs.Lists.{those}
use Rattle.lists.proofs.Lists.{those_yes, those_no}
use Rattle.quality.specs.declared.Quality.{Quality}
use Rattle.quality.specs.Quality.{worst, worse_of, zero_quality}
use Rattle.rows.specs.declared.Row.{Row}
use Rattle.rows.specs.Rows.{row_in, rows_in}
use Rattle.rows.proofs.RowsOfTables.{rows_more}
use Rattle.tally.specs.Steps.{worst_with}
use Rattle.tally.proofs.RowsMeasured.{qualities_more}

-- a worst quality, or none, as the code keeps it
abbrev pub met : maybe.Option Quality → Option Quality
met maybe.none = None
met (maybe.some q) = Some q

pub worst_more : (qs : List Quality) (q : Quality) → met (worst (qs ++ q ∷ [])) ≡ worst_with (met (worst qs)) q
unfolding worst
worst_more [] q = refl
worst_more (x ∷ xs) q = ap Some (foldl-append worse_of x xs (q ∷ []))

pub or_zero_of : (w : maybe.Option Quality) → unwrap_or (met w) zero_quality ≡ maybe.get_or w zero_quality
or_zero_of maybe.none = refl
or_zero_of (maybe.some q) = refl

-- ---- one row more of a table

module _ (f : Row → Quality) (table : List ℕ) (i : ℕ) where
  -- the worst of the first i rows, with row i
  pub row_met : worst_with (met (worst (map f (rows_in table i)))) (f (row_in table i)) ≡ met (worst (map f (rows_in table (suc i))))
  row_met = sym (worst_more (map f (rows_in table i)) (f (row_in table i))) ∙ ap (λ qs. met (worst qs)) (sym (qualities_more f table i))

  module _ (p : Row → Bool) where
    -- row i passes, so it counts
    pub passing_met : p (row_in table i) ≡ true
        → worst_with (met (worst (map f (those p (rows_in table i))))) (f (row_in table i))
        ≡ met (worst (map f (those p (rows_in table (suc i)))))
    passing_met e =
        let front = those p (rows_in table i) in
        sym (worst_more (map f front) (f (row_in table i)))
        ∙ ap (λ qs. met (worst qs)) (sym (map-append f front (row_in table i ∷ [])))
        ∙ ap (λ rows. met (worst (map f rows))) (sym (ap (those p) (rows_more table i) ∙ those_yes p (rows_in table i) (row_in table i) e))

    -- row i does not pass, so nothing changes
    pub other_met : p (row_in table i) ≡ false
        → met (worst (map f (those p (rows_in table i)))) ≡ met (worst (map f (those p (rows_in table (suc i)))))
    other_met e =
        ap (λ rows. met (worst (map f rows))) (sym (ap (those p) (rows_more table i) ∙ those_no p (rows_in table i) (row_in table i) e))
