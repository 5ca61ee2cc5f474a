-- The total D of each region by itself. Where the rows that go have one region, those that come have it too, and the total over all rows
-- stays, it stays over the rows of each region: of that one both parts are whole, of any other both are empty.
use Prim.Native.Nat.{ℕ}
use mathlib.Core.Bool.{Bool, true, false, cond, not}
use mathlib.Core.List.{List, [], ◌∷◌, ◌++◌}
use mathlib.Core.Path.{◌≡◌, refl, sym, ap, ◌∙◌}
use lib.Dec.{eqb}
use lib.IntN.{◌+ℤ◌, ◌-ℤ◌, +ℤ_comm, +ℤ-neg_ℤ_cancel}
use Rattle.lists.specs.Lists.{those}
use Rattle.lists.proofs.Tests.{is_yes, is_no}
use Rattle.lists.proofs.Lists.{every_i, those_all, those_none, those_append}
use Rattle.volume.specs.declared.Point.{Point}
use Rattle.rows.specs.declared.Row.{Row}
use Rattle.rows.specs.RowMeasure.{total_d}
use Rattle.rows.specs.Regions.{in_region, region_of, OneRegion, region_d}
use Rattle.rows.proofs.EvenMeasure.{total_split, total_append}
use Rattle.rows.proofs.RegionsOfRows.{AllIn, region_is}

-- two tests one after the other, in either order
those_swap : {A : Type 0} (p q : A → Bool) (xs : List A) → those p (those q xs) ≡ those q (those p xs)
unfolding those
those_swap p q [] = refl
those_swap {A} p q (x ∷ xs) = go (p x) (q x) refl refl (those_swap p q xs)
  where
    go : (b c : Bool) → p x ≡ b → q x ≡ c → those p (those q xs) ≡ those q (those p xs)
        → those p (cond c (x ∷ those q xs) (those q xs)) ≡ those q (cond b (x ∷ those p xs) (those p xs))
    go true true e f h = rw (e, f) (ap (λ ys. x ∷ ys) h)
    go true false e f h = rw f h
    go false true e f h = rw e h
    go false false e f h = h

module _ (points : List Point) (goes : Row → Bool) (table new : List Row) (one : OneRegion (those goes table))
    (new_one : AllIn (region_of (those goes table)) new)
    (total : total_d points (those (λ row. not (goes row)) table ++ new) ≡ total_d points table) where
  abbrev gone : List Row
  gone = those goes table

  abbrev kept : List Row
  kept = those (λ row. not (goes row)) table

  abbrev g : ℕ
  g = region_of gone

  old_one : AllIn g gone
  old_one row k = sym (region_is gone one k)

  -- what comes has the total of what goes
  new_total : total_d points new ≡ total_d points gone
  new_total =
      let n = total_d points new in
      let k = total_d points kept in
      let same : n +ℤ k ≡ total_d points gone +ℤ k =
      +ℤ_comm n k ∙ sym (total_append points kept new) ∙ total ∙ sym (total_split points goes table) in
      sym (+ℤ-neg_ℤ_cancel n k) ∙ ap (λ z. z -ℤ k) same ∙ +ℤ-neg_ℤ_cancel (total_d points gone) k

  module _ (h : ℕ) where
    -- rows of region g: of region h are all of them, or none
    all_or_none : (rows : List Row) → AllIn g rows → (b : Bool) → eqb g h ≡ b → those (in_region h) rows ≡ cond b rows []
    all_or_none rows all true e =
        those_all (in_region h) rows (every_i (in_region h) rows (λ row k. rw (all row k) (is_yes (eqb g h) e)))
    all_or_none rows all false e =
        those_none (in_region h) rows (every_i (λ row. not (in_region h row)) rows (λ row k. rw (all row k) (is_no (eqb g h) e)))

    new_region : region_d points h new ≡ region_d points h gone
    new_region = go (eqb g h) refl
      where
        go : (b : Bool) → eqb g h ≡ b → region_d points h new ≡ region_d points h gone
        go true e = ap (total_d points) (all_or_none new new_one true e) ∙ new_total ∙ sym (ap (total_d points) (all_or_none gone old_one true e))
        go false e = ap (total_d points) (all_or_none new new_one false e) ∙ sym (ap (total_d points) (all_or_none gone old_one false e))

    pub region_stays : region_d points h (kept ++ new) ≡ region_d points h table
    region_stays =
        let part = those (in_region h) in
        ap (total_d points) (those_append (in_region h) kept new)
        ∙ total_append points (part kept) (part new)
        ∙ ap (λ z. total_d points (part kept) +ℤ z) new_region
        ∙ +ℤ_comm (total_d points (part kept)) (total_d points (part gone))
        ∙ ap (λ z. total_d points z +ℤ total_d points (part kept)) (those_swap (in_region h) goes table)
        ∙ ap (λ z. total_d points (those goes (part table)) +ℤ total_d points z) (those_swap (in_region h) (λ row. not (goes row)) table)
        ∙ total_split points goes (part table)
