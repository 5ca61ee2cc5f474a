-- The walk, step by step: the points so far and the walk that is left.
use Prim.Native.Nat.{ℕ, zero, suc, ◌+◌, ◌-◌, ◌≤◌, ◌<◌}
use mathlib.Core.List.{List, [], ◌∷◌, ◌++◌, append_assoc}
use mathlib.Core.Option.{Option, none, some}
use mathlib.Core.Path.{◌≡◌, refl, sym, ap, ◌∙◌}
use native.Mathlib.Numerals.{add-one}
use native.Mathlib.Omega.{arith}
use borrow.Author.Tests.{eq-eqb, ne_eqb}
use lib.ListN.{length, take, set}
use lib.Seq.{take-suc-set}
use Rattle.links.specs.Links.{Link, next}
use Rattle.walk.specs.Walk.{walk, circle, follow}

-- the points so far, and then the circle's others, if it closes
abbrev pub onto : List ℕ → Option (List ℕ) → Option (List ℕ)
onto points none = none
onto points (some others) = some (points ++ others)

pub onto_none : (o : Option (List ℕ)) → o ≡ onto [] o
onto_none none = refl
onto_none (some others) = refl

module _ (links : List Link) (start here : ℕ) where
  -- the step back to the start
  pub step_back : (n : ℕ) → next links here ≡ some start → walk (suc n) links start here ≡ some (here ∷ [])
  unfolding walk
  step_back n e = rw (e, walk) (rw (eq-eqb start start refl))

  -- a step to another point
  pub step_on : (n : ℕ) (points : List ℕ) {there : ℕ} → next links here ≡ some there → (there ≡ start → ⊥)
      → onto points (walk (suc n) links start here) ≡ onto (points ++ here ∷ []) (walk n links start there)
  unfolding walk
  step_on n points {there} e d = rw (e, walk) (rw (ne_eqb there start d) (go (walk n links start there)))
    where
      go : (o : Option (List ℕ)) → onto points (elim o [ none ↦ none | some others ↦ some (here ∷ others) ]) ≡ onto (points ++ here ∷ []) o
      go none = refl
      go (some others) = ap some (sym (append_assoc points (here ∷ []) others))

  -- the first missing link
  pub step_none : (n : ℕ) → next links here ≡ none → walk n links start here ≡ none
  unfolding walk
  step_none zero e = refl
  step_none (suc n) e = rw (e, walk)

-- The first m places of v hold the points so far, and of n steps n - m are left.
module _ (links : List Link) (start n m : ℕ) (v : List ℕ) (here : ℕ)
    (so_far : circle links start ≡ onto (take m v) (walk (n - m) links start here)) where
  module _ (left : m < n) (room : m < length v) where
    one_less : n - m ≡ suc (n - (m + 1))
    one_less = omega arith

    stored : take (m + 1) (set v m here) ≡ take m v ++ here ∷ []
    stored = rw add-one (take-suc-set v m here room)

    pub walk_closes : next links here ≡ some start → some (take (m + 1) (set v m here)) ≡ circle links start
    walk_closes e = sym (so_far ∙ rw (one_less, step_back links start here (n - (m + 1)) e, stored))

    pub walk_goes : {there : ℕ} → next links here ≡ some there → (there ≡ start → ⊥)
        → circle links start ≡ onto (take (m + 1) (set v m here)) (walk (n - (m + 1)) links start there)
    walk_goes e d = so_far ∙ rw (one_less, stored) (step_on links start here (n - (m + 1)) (take m v) e d)

  pub walk_stops : next links here ≡ none → none ≡ circle links start
  walk_stops e = sym (so_far ∙ rw (step_none links start here (n - m) e))

  pub walk_spent : n ≤ m → none ≡ circle links start
  unfolding walk
  walk_spent h = let e : n - m ≡ 0 = omega arith in sym (so_far ∙ rw e)

-- The same of following the links.
module _ (links : List Link) (start n m : ℕ) (v : List ℕ) (here : ℕ)
    (so_far : follow n links start ≡ take m v ++ follow (n - m) links here) (room : m < length v) where
  kept : take (m + 1) (set v m here) ≡ take m v ++ here ∷ []
  kept = rw add-one (take-suc-set v m here room)

  pub follow_goes : m < n → {there : ℕ} → next links here ≡ some there
      → follow n links start ≡ take (m + 1) (set v m here) ++ follow (n - (m + 1)) links there
  unfolding follow
  follow_goes left {there} e =
      let one_less : n - m ≡ suc (n - (m + 1)) = omega arith in
      so_far ∙ rw (one_less, e, follow, kept) (sym (append_assoc (take m v) (here ∷ []) (follow (n - (m + 1)) links there)))

  pub follow_ends : next links here ≡ none → take (m + 1) (set v m here) ≡ follow n links start
  unfolding follow
  follow_ends e = sym (so_far ∙ rw (follow_none (n - m), kept))
    where
      follow_none : (k : ℕ) → follow k links here ≡ here ∷ []
      follow_none zero = refl
      follow_none (suc k) = rw (e, follow)

  pub follow_spent : n ≤ m → take (m + 1) (set v m here) ≡ follow n links start
  unfolding follow
  follow_spent h = let e : n - m ≡ 0 = omega arith in sym (so_far ∙ rw (e, kept))
