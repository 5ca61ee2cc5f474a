-- Where a walk starts: at a point from which a link goes and to which none comes or, where there is no such point, at the smallest.
use Prim.Native.Nat.{ℕ}
use mathlib.Core.Bool.{not}
use mathlib.Core.List.Memᴰ
use mathlib.Core.List.{List, [], ◌∷◌, Memᴰ}
use mathlib.Core.Path.{◌≡◌, refl, subst}
use lib.Dec.{T_not, not_T}
use Rattle.lists.specs.Lists.{has}
use Rattle.lists.proofs.Lists.{those_e, those_i}
use Rattle.lists.proofs.Numbers.{has_i, has_e}
use Rattle.links.specs.Links.{Link, starts, ends}
use Rattle.walk.specs.Walk.{smallest, heads}
use Rattle.walk.specs.Steps.{StartsAt}

-- a head starts a link, and no link enters it
pub head_e : (links : List Link) {v : ℕ} → Memᴰ v (heads links) → Memᴰ v (starts links) × (Memᴰ v (ends links) → ⊥)
unfolding heads
head_e links {v} m =
    let (k, h) = those_e (λ v. not (has (ends links) v)) (starts links) m in
    (k, λ i. T_not (has (ends links) v) h (has_i (ends links) i))

pub head_i : (links : List Link) {v : ℕ} → Memᴰ v (starts links) → (Memᴰ v (ends links) → ⊥) → Memᴰ v (heads links)
unfolding heads
head_i links {v} m out =
    those_i (λ v. not (has (ends links) v)) (starts links) m (not_T (has (ends links) v) (λ h. out (has_e (ends links) v h)))

pub starts_head : (links : List Link) {v : ℕ} → Memᴰ v (starts links) → (Memᴰ v (ends links) → ⊥) → StartsAt links v
starts_head links {v} m out =
    let at = head_i links m out in
    record { entered = λ empty. absurd (Memᴰ.not-nil (subst (λ hs. Memᴰ v hs) empty at)); head = λ _. at }

pub starts_smallest : (links : List Link) {v : ℕ} → v ≡ smallest (starts links)
    → ((x : ℕ) → Memᴰ x (starts links) → Memᴰ x (ends links)) → StartsAt links v
starts_smallest links least entered = record { entered = λ _. least; head = λ some-head. absurd (some-head (go (heads links) refl)) }
  where
    go : (hs : List ℕ) → heads links ≡ hs → hs ≡ []
    go [] e = refl
    go (h ∷ hs) e = let (k, out) = head_e links {v = h} (rw e (Memᴰ.head refl)) in absurd (out (entered h k))
