-- The regions of some rows as the code hands them on: of none, of one, of one row more behind some; and what they tell, by cases.
use Prim.Native.Nat.{ℕ}
use mathlib.Core.Bool.{Bool, true, false, cond}
use mathlib.Core.List.Memᴰ
use mathlib.Core.List.{List, [], ◌∷◌, ◌++◌, Memᴰ}
use mathlib.Core.Logic.{◌⊎◌, inl, inr}
use mathlib.Core.Path.{◌≡◌, refl, sym, ap, ◌∙◌, subst}
use borrow.Author.Tests.{eqb-true, eqb-false}
use lib.Dec.{T, eqb}
use Rattle.lists.specs.Lists.{any, first}
use Rattle.lists.proofs.Tests.{yes_is, is_yes}
use Rattle.rows.specs.declared.Row.{Row}
use Rattle.rows.specs.declared.Regions.{Regions}
use Rattle.rows.specs.declared.Regions.TheVariants.{One, Several}
use Rattle.rows.specs.Regions.{region_of, mixed, OneRegion}
use Rattle.rows.specs.Steps.{regions_of, no_regions, with_region}
use Rattle.rows.proofs.RegionsOfRows.{AllIn, all_one, mixed_i, mixed_e, one_region, not_mixed, region_is}

pub none_met : regions_of [] ≡ no_regions
unfolding regions_of region_of mixed any first
none_met = refl

-- rows that have region g, and at least one does
all_met_lem : (rows : List Row) (g : ℕ) → AllIn g rows → {row : Row} → Memᴰ row rows → regions_of rows ≡ One g
unfolding regions_of
all_met_lem rows g all {row} k =
    let one = all_one g rows all in
    rw (not_mixed rows one) (ap One (region_is rows one k ∙ all row k))

pub one_met : (row : Row) → regions_of (row ∷ []) ≡ One row.region
one_met row =
    all_met_lem (row ∷ []) row.region (λ r k. ap (λ (t : Row). t.region) (Memᴰ.eq_of_singleton k)) (Memᴰ.head refl)

mixed_met : (rows : List Row) → T (mixed rows) → regions_of rows ≡ Several
unfolding regions_of
mixed_met rows h = rw (yes_is (mixed rows) h)

-- one row more
pub more_met : (rows : List Row) {other : Row} → Memᴰ other rows → (row : Row)
    → with_region (regions_of rows) row.region ≡ regions_of (rows ++ row ∷ [])
unfolding regions_of
more_met rows {other} k row = go (mixed rows) refl
  where
    all : List Row
    all = rows ++ row ∷ []

    -- another region
    apart : OneRegion rows → (row.region ≡ region_of rows → ⊥) → T (mixed all)
    apart one ne =
        mixed_i all (Memᴰ.append_left (row ∷ []) k) (Memᴰ.append_right rows (Memᴰ.head refl))
        (λ e. ne (e ∙ sym (region_is rows one k)))

    -- the same
    each : OneRegion rows → row.region ≡ region_of rows → AllIn (region_of rows) all
    each one e r i = its (Memᴰ.append_cases rows i)
      where
        its : Memᴰ r rows ⊎ Memᴰ r (row ∷ []) → r.region ≡ region_of rows
        its (inl j) = sym (region_is rows one j)
        its (inr j) = ap (λ (t : Row). t.region) (Memᴰ.eq_of_singleton j) ∙ e

    decided : OneRegion rows → (b : Bool) → eqb row.region (region_of rows) ≡ b → cond b (One (region_of rows)) Several ≡ regions_of all
    decided one true q =
        sym (all_met_lem all (region_of rows) (each one (eqb-true row.region (region_of rows) q)) (Memᴰ.append_left (row ∷ []) k))
    decided one false q = sym (mixed_met all (apart one (eqb-false row.region (region_of rows) q)))

    go : (b : Bool) → mixed rows ≡ b → with_region (cond b Several (One (region_of rows))) row.region ≡ regions_of all
    go true e =
        let (s, t, i, j, ne) = mixed_e rows (is_yes (mixed rows) e) in
        sym (mixed_met all (mixed_i all (Memᴰ.append_left (row ∷ []) i) (Memᴰ.append_left (row ∷ []) j) ne))
    go false e = decided (one_region rows e) (eqb row.region (region_of rows)) refl

-- ---- what they tell

-- several, or one with its number
abbrev several : Regions → Bool
several (One g) = false
several Several = true

abbrev number : Regions → ℕ
number (One g) = g
number Several = 0

module _ (rows : List Row) where
  pub told_several : regions_of rows ≡ Several → mixed rows ≡ true
  unfolding regions_of
  told_several = go (mixed rows) refl
    where
      go : (b : Bool) → mixed rows ≡ b → cond b Several (One (region_of rows)) ≡ Several → mixed rows ≡ true
      go true e h = e
      go false e h = absurd (subst T (sym (ap several h)) tt)

  pub told_one : {g : ℕ} → regions_of rows ≡ One g → (mixed rows ≡ false) × (g ≡ region_of rows)
  unfolding regions_of
  told_one {g} = go (mixed rows) refl
    where
      go : (b : Bool) → mixed rows ≡ b → cond b Several (One (region_of rows)) ≡ One g → (mixed rows ≡ false) × (g ≡ region_of rows)
      go true e h = absurd (subst T (ap several h) tt)
      go false e h = (e, sym (ap number h))
