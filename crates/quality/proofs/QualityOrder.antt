-- The order of qualities is a strict weak order, and the worse and the better of two bound both.
-- "No better than" is reflexive and, through a fraction, transitive; the rest follows from that.
use Prim.Native.Nat.{◌<◌}
use mathlib.Core.Bool.{Bool, true, false, cond, not}
use mathlib.Core.List.{[], ◌∷◌}
use mathlib.Core.Logic.{◌⊎◌, inl, inr}
use mathlib.Core.Path.{◌≡◌, refl}
use lib.Dec.{T, T_not, not_T}
use lib.IntN.{ℤ, pos, ◌*ℤ◌}
use lib.Signed.{◌≤ℤ◌, ◌<ℤ◌, lt_z, lt_z_yes, lt_z_no, ≤ℤ_refl, clash_ℤ}
use Rattle.algebra.proofs.Normal.{var, norm}
use Rattle.algebra.proofs.Order.{◌⊞◌, gap<, number, le_by}
use Rattle.exact.proofs.CrossProducts as Cross
use Rattle.lists.proofs.Tests.{and_l, and_r, and_i, either, is_yes, is_no}
use Rattle.quality.specs.declared.Quality.{Quality}
use Rattle.quality.specs.Quality.{signed, worse, as_good, worse_of, better_of}

-- a quality is a fraction: its denominator is over 0
pub record Fraction (q : Quality) : Type 0 where
  pub over : 0 < q.den

infix 50 ◌⊏◌ ◌⊑◌
-- q is worse than r
pub record ◌⊏◌ (q r : Quality) : Type 0 where
  pub worse : T (worse q r)

-- q is no better than r
pub record ◌⊑◌ (q r : Quality) : Type 0 where
  pub not_worse : T (not (worse r q))

-- ---- no better than

-- by cross products
cross : {q r : Quality} → q ⊑ r → (signed q *ℤ pos r.den) ≤ℤ (signed r *ℤ pos q.den)
unfolding worse
cross h = lt_z_no h.not_worse

from_cross : (q r : Quality) → (signed q *ℤ pos r.den) ≤ℤ (signed r *ℤ pos q.den) → q ⊑ r
unfolding worse
from_cross q r h =
    record {
      not_worse = not_T (lt_z (signed r *ℤ pos q.den) (signed q *ℤ pos r.den)) (λ t. clash_ℤ (lt_z_yes t) h);
    }

pub at_most_self : (q : Quality) → q ⊑ q
at_most_self q = from_cross q q (≤ℤ_refl (signed q *ℤ pos q.den))

pub at_most_trans : {x y z : Quality} → Fraction y → x ⊑ y → y ⊑ z → x ⊑ z
at_most_trans {x} {y} {z} fy h k =
    from_cross x z
    (Cross.at_most_trans (signed x) x.den (signed y) y.den (signed z) z.den fy.over (cross h) (cross k))

-- ---- worse than

pub compare : (q r : Quality) → (q ⊏ r) ⊎ (r ⊑ q)
compare q r = go (either (worse q r))
  where
    go : T (worse q r) ⊎ T (not (worse q r)) → (q ⊏ r) ⊎ (r ⊑ q)
    go (inl t) = inl (record { worse = t })
    go (inr t) = inr (record { not_worse = t })

pub clash : {q r : Quality} → q ⊏ r → r ⊑ q → ⊥
clash {q} {r} h k = T_not (worse q r) k.not_worse h.worse

less_is_at_most : (a b : ℤ) → a <ℤ b → a ≤ℤ b
unfolding norm
less_is_at_most a b h = le_by (a ∷ b ∷ []) (var 0) (var 1) (gap< (var 0) (var 1) h ⊞ number 1) refl

pub worse_is_at_most : {q r : Quality} → q ⊏ r → q ⊑ r
unfolding worse
worse_is_at_most {q} {r} h =
    from_cross q r (less_is_at_most (signed q *ℤ pos r.den) (signed r *ℤ pos q.den) (lt_z_yes h.worse))

pub worse_at_most_trans : {x y z : Quality} → Fraction z → x ⊏ y → y ⊑ z → x ⊏ z
worse_at_most_trans {x} {y} {z} fz h k = go (compare x z)
  where
    go : (x ⊏ z) ⊎ (z ⊑ x) → x ⊏ z
    go (inl l) = l
    go (inr l) = absurd (clash h (at_most_trans fz k l))

pub at_most_worse_trans : {x y z : Quality} → Fraction x → x ⊑ y → y ⊏ z → x ⊏ z
at_most_worse_trans {x} {y} {z} fx h k = go (compare x z)
  where
    go : (x ⊏ z) ⊎ (z ⊑ x) → x ⊏ z
    go (inl l) = l
    go (inr l) = absurd (clash k (at_most_trans fx l h))

-- ---- one fraction

infix 50 ◌≈◌
-- q and r are one fraction
pub record ◌≈◌ (q r : Quality) : Type 0 where
  pub up : q ⊑ r
  pub down : r ⊑ q

pub one_fraction : (q : Quality) → q ≈ q
one_fraction q = record { up = at_most_self q; down = at_most_self q }

pub as_good_lem : {q r : Quality} → q ≈ r → T (as_good q r)
as_good_lem {q} {r} h = and_i (not (worse q r)) (not (worse r q)) h.down.not_worse h.up.not_worse

pub from_as_good : (q r : Quality) → T (as_good q r) → q ≈ r
from_as_good q r h =
    record {
      up = record { not_worse = and_r (not (worse q r)) (not (worse r q)) h };
      down = record { not_worse = and_l (not (worse q r)) (not (worse r q)) h };
    }

-- ---- the laws of the order, by its tests

pub worse_never_self : (q : Quality) → T (not (worse q q))
worse_never_self q = (at_most_self q).not_worse

pub worse_goes_on : (x y z : Quality) → Fraction z → T (worse x y) → T (worse y z) → T (worse x z)
worse_goes_on x y z fz h k =
    let first : x ⊏ y = record { worse = h } in
    let second : y ⊏ z = record { worse = k } in
    (worse_at_most_trans fz first (worse_is_at_most second)).worse

pub not_worse_goes_on : (x y z : Quality) → Fraction y → T (not (worse x y)) → T (not (worse y z)) → T (not (worse x z))
not_worse_goes_on x y z fy h k =
    let first : y ⊑ x = record { not_worse = h } in
    let second : z ⊑ y = record { not_worse = k } in
    (at_most_trans fy second first).not_worse

pub as_good_self : (q : Quality) → T (as_good q q)
as_good_self q = as_good_lem (one_fraction q)

pub as_good_back : (q r : Quality) → T (as_good q r) → T (as_good r q)
as_good_back q r h = let e = from_as_good q r h in as_good_lem (record { up = e.down; down = e.up })

pub as_good_goes_on : (x y z : Quality) → Fraction y → T (as_good x y) → T (as_good y z) → T (as_good x z)
as_good_goes_on x y z fy h k =
    let e = from_as_good x y h in
    let f = from_as_good y z k in
    as_good_lem (record { up = at_most_trans fy e.up f.up; down = at_most_trans fy f.down e.down })

-- ---- the worse and the better of two

pub worse_of_left : (q r : Quality) → worse_of q r ⊑ q
worse_of_left q r = go (worse r q) refl
  where
    go : (b : Bool) → worse r q ≡ b → cond b r q ⊑ q
    go true e = worse_is_at_most (record { worse = is_yes (worse r q) e })
    go false e = at_most_self q

pub worse_of_right : (q r : Quality) → worse_of q r ⊑ r
worse_of_right q r = go (worse r q) refl
  where
    go : (b : Bool) → worse r q ≡ b → cond b r q ⊑ r
    go true e = at_most_self r
    go false e = record { not_worse = is_no (worse r q) e }

pub better_of_left : (q r : Quality) → q ⊑ better_of q r
better_of_left q r = go (worse q r) refl
  where
    go : (b : Bool) → worse q r ≡ b → q ⊑ cond b r q
    go true e = worse_is_at_most (record { worse = is_yes (worse q r) e })
    go false e = at_most_self q

pub better_of_right : (q r : Quality) → r ⊑ better_of q r
better_of_right q r = go (worse q r) refl
  where
    go : (b : Bool) → worse q r ≡ b → r ⊑ cond b r q
    go true e = at_most_self r
    go false e = record { not_worse = is_no (worse q r) e }

-- what both have, one of the two has
pub either_of : (P : Quality → Type 0) (b : Bool) (q r : Quality) → P q → P r → P (cond b r q)
either_of P true q r h k = k
either_of P false q r h k = h

pub worse_of_has : (P : Quality → Type 0) (q r : Quality) → P q → P r → P (worse_of q r)
worse_of_has P q r = either_of P (worse r q) q r
