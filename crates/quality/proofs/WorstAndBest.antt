-- The worst and the best of a list are in it and bound it. Both are the pick of a fold, and what holds of the pick of two
-- holds of the pick of a list.
use mathlib.Core.Bool.{Bool, true, false, cond}
use mathlib.Core.List.Memᴰ
use mathlib.Core.List.{List, [], ◌∷◌, foldl, Memᴰ}
use mathlib.Core.Logic.{◌⊎◌, inl, inr}
use mathlib.Core.Option.{some, none-ne-some, some-injective}
use mathlib.Core.Path.{◌≡◌, refl, sym, subst}
use Rattle.quality.specs.declared.Quality.{Quality}
use Rattle.quality.specs.Quality.{worse, worst, best}
use Rattle.quality.proofs.QualityOrder.{Fraction, ◌⊑◌, at_most_self, at_most_trans, worse_of_left, worse_of_right}
use Rattle.quality.proofs.QualityOrder.{better_of_left, better_of_right, either_of}

-- each is a fraction
abbrev pub Fractions : List Quality → Type 0
Fractions qs = (q : Quality) → Memᴰ q qs → Fraction q

-- the pick of two is one of them and lies on one side of both: so does the pick of a list
module _ (test : Quality → Quality → Bool) (Side : Quality → Quality → Type 0)
    (self : (q : Quality) → Side q q)
    (trans : (x y z : Quality) → Fraction y → Side x y → Side y z → Side x z)
    (left : (q r : Quality) → Side (cond (test q r) r q) q)
    (right : (q r : Quality) → Side (cond (test q r) r q) r) where
  picked_in : (q : Quality) (qs : List Quality) → Memᴰ (foldl (λ q r. cond (test q r) r q) q qs) (q ∷ qs)
  picked_in q [] = Memᴰ.head refl
  picked_in q (r ∷ rs) = go (test q r) (picked_in (cond (test q r) r q) rs)
    where
      go : (b : Bool) → {w : Quality} → Memᴰ w (cond b r q ∷ rs) → Memᴰ w (q ∷ r ∷ rs)
      go true m = Memᴰ.tail m
      go false m = skip (Memᴰ.cases_cons m)
        where
          skip : {w : Quality} → (w ≡ q) ⊎ Memᴰ w rs → Memᴰ w (q ∷ r ∷ rs)
          skip (inl e) = Memᴰ.head e
          skip (inr k) = Memᴰ.tail (Memᴰ.tail k)

  picked_bounds : (q : Quality) (qs : List Quality) → Fractions (q ∷ qs) → (x : Quality) → Memᴰ x (q ∷ qs)
      → Side (foldl (λ q r. cond (test q r) r q) q qs) x
  picked_bounds q [] f x m = subst (Side q) (sym (Memᴰ.eq_of_singleton m)) (self q)
  picked_bounds q (r ∷ rs) f x m = go (picked_bounds p rs fs) (Memᴰ.cases_cons m)
    where
      p : Quality
      p = cond (test q r) r q

      fp : Fraction p
      fp = either_of Fraction (test q r) q r (f q (Memᴰ.head refl)) (f r (Memᴰ.tail (Memᴰ.head refl)))

      fs : Fractions (p ∷ rs)
      fs y m = at (Memᴰ.cases_cons m)
        where
          at : (y ≡ p) ⊎ Memᴰ y rs → Fraction y
          at (inl e) = subst Fraction (sym e) fp
          at (inr k) = f y (Memᴰ.tail (Memᴰ.tail k))

      go : ((x : Quality) → Memᴰ x (p ∷ rs) → Side (foldl (λ q r. cond (test q r) r q) p rs) x)
          → (x ≡ q) ⊎ Memᴰ x (r ∷ rs) → Side (foldl (λ q r. cond (test q r) r q) p rs) x
      go below (inl e) = subst (Side _) (sym e) (trans _ p q fp (below p (Memᴰ.head refl)) (left q r))
      go below (inr k) = step (Memᴰ.cases_cons k)
        where
          step : (x ≡ r) ⊎ Memᴰ x rs → Side (foldl (λ q r. cond (test q r) r q) p rs) x
          step (inl e) = subst (Side _) (sym e) (trans _ p r fp (below p (Memᴰ.head refl)) (right q r))
          step (inr l) = below x (Memᴰ.tail l)

reversed : (x y z : Quality) → Fraction y → y ⊑ x → z ⊑ y → z ⊑ x
reversed x y z fy h k = at_most_trans fy k h

-- q is the worst of a list: it is in it, and no better than any other there
pub record Worst (q : Quality) (qs : List Quality) : Type 0 where
  pub inside : Memᴰ q qs
  pub bounds : (r : Quality) → Memᴰ r qs → q ⊑ r

-- q is the best of a list: it is in it, and no other there is better
pub record Best (q : Quality) (qs : List Quality) : Type 0 where
  pub inside : Memᴰ q qs
  pub bounds : (r : Quality) → Memᴰ r qs → r ⊑ q

pub worst_is_lem : (qs : List Quality) {q : Quality} → Fractions qs → worst qs ≡ some q → Worst q qs
unfolding worst
worst_is_lem [] f e = absurd (none-ne-some _ e)
worst_is_lem (q ∷ qs) f e =
    subst (λ w. Worst w (q ∷ qs)) (some-injective _ _ e) (record {
      inside = picked_in (λ q r. worse r q) ◌⊑◌ at_most_self (λ x y z. at_most_trans) worse_of_left worse_of_right q qs;
      bounds = picked_bounds (λ q r. worse r q) ◌⊑◌ at_most_self (λ x y z. at_most_trans) worse_of_left worse_of_right q qs f;
    })

pub best_is : (qs : List Quality) {q : Quality} → Fractions qs → best qs ≡ some q → Best q qs
unfolding best
best_is [] f e = absurd (none-ne-some _ e)
best_is (q ∷ qs) f e =
    subst (λ w. Best w (q ∷ qs)) (some-injective _ _ e) (record {
      inside = picked_in worse (λ q r. r ⊑ q) at_most_self reversed better_of_left better_of_right q qs;
      bounds = picked_bounds worse (λ q r. r ⊑ q) at_most_self reversed better_of_left better_of_right q qs f;
    })

-- a list with an element has a worst and a best

pub worst_of : (qs : List Quality) {r : Quality} → Memᴰ r qs → (q : Quality) × (worst qs ≡ some q)
unfolding worst
worst_of [] m = absurd (Memᴰ.not-nil m)
worst_of (q ∷ qs) m = (_, refl)

pub best_of_lem : (qs : List Quality) {r : Quality} → Memᴰ r qs → (q : Quality) × (best qs ≡ some q)
unfolding best
best_of_lem [] m = absurd (Memᴰ.not-nil m)
best_of_lem (q ∷ qs) m = (_, refl)
