-- The order of signed fractions by two orders of sizes: q is worse than r where it is less far over 0, or farther below.
-- Of each product only the sign matters; the nine pairs of kinds are then the sides of 0.
use Prim.Native.Nat.{ℕ, zero, suc, ◌*◌, ◌≤◌}
use mathlib.Core.Bool.{false, cond, not, ◌||◌}
use mathlib.Core.Path.{◌≡◌, refl, sym, subst}
use native.Mathlib.Nat.{le_antisymm, zero-mul}
use native.Mathlib.Omega.{arith}
use lib.Dec.{T, ltb, leb-suc-suc, nltb→le}
use lib.IntN.{pos, neg_ℤ, ◌*ℤ◌}
use lib.Signed.{lt_z}
use borrow.Author.Tests.{lt-ltb, le-ltb}
use Rattle.algebra.proofs.IntegerRing.{neg_mul}
use Rattle.lists.proofs.Tests.{neither_l, neither_r, or_false, or_true}
use Rattle.exact.specs.Fractions.{is_less}
use Rattle.quality.specs.declared.Kind.{Kind}
use Rattle.quality.specs.declared.Kind.TheVariants.{Upright, Flat, Inverted}
use Rattle.quality.specs.declared.Quality.{Quality}
use Rattle.quality.specs.Quality.{is_upright, is_inverted, signed, worse}
use Rattle.quality.proofs.QualityOrder.{◌⊑◌, ◌≈◌}

-- the numerator over 0, and the numerator's size below 0
abbrev pub over : Quality → ℕ
over q = cond (is_upright q) q.num 0

abbrev pub under : Quality → ℕ
under q = cond (is_inverted q) q.num 0

-- nothing is less than 0 of something
nothing : (a b d : ℕ) → is_less a b 0 d ≡ false
nothing a b d = le-ltb (a * d) (0 * b) (omega arith)

-- ---- signs

below_below : (x y : ℕ) → lt_z (neg_ℤ (pos x)) (neg_ℤ (pos y)) ≡ ltb y x
below_below zero zero = refl
below_below zero (suc y) = sym (le-ltb (suc y) 0 (omega arith))
below_below (suc x) zero = sym (lt-ltb 0 (suc x) (omega arith))
below_below (suc x) (suc y) = sym (leb-suc-suc (suc y) x)

over_below : (x y : ℕ) → lt_z (pos x) (neg_ℤ (pos y)) ≡ false
over_below x zero = le-ltb x 0 (omega arith)
over_below x (suc y) = refl

below_over : (x y : ℕ) → lt_z (neg_ℤ (pos x)) (pos y) ≡ ltb 0 y || ltb 0 x
below_over zero y = sym (or_false (ltb 0 y))
below_over (suc x) y = rw (lt-ltb 0 (suc x) (omega arith), or_true (ltb 0 y))

-- ---- the nine pairs of kinds

-- a / b of the kind k against c / d of the kind l
sides :
    (k l : Kind) (a b c d : ℕ)
    → let q : Quality = record { kind = k; num = a; den = b } in
    let r : Quality = record { kind = l; num = c; den = d } in
    lt_z (signed q *ℤ pos d) (signed r *ℤ pos b) ≡ is_less (over q) b (over r) d || is_less (under r) d (under q) b
sides Upright Upright a b c d = rw (nothing 0 d b, or_false (is_less a b c d))
sides Upright Flat a b c d = rw (nothing 0 d b, or_false (is_less a b 0 d))
sides Upright Inverted a b c d = simp (neg_mul, over_below, nothing a b d, nothing c d b)
sides Flat Upright a b c d = rw (nothing 0 d b, or_false (is_less 0 b c d))
sides Flat Flat a b c d = rw (nothing 0 d b, or_false (is_less 0 b 0 d))
sides Flat Inverted a b c d = simp (neg_mul, over_below, nothing 0 b d, nothing c d b)
sides Inverted Upright a b c d = simp (neg_mul, below_over, zero-mul)
sides Inverted Flat a b c d = simp (neg_mul, below_over, zero-mul)
sides Inverted Inverted a b c d = simp (neg_mul, below_below, zero-mul)

pub worse_is :
    (q r : Quality)
    → worse q r ≡ is_less (over q) q.den (over r) r.den || is_less (under r) r.den (under q) q.den
unfolding worse
worse_is q r = sides q.kind r.kind q.num q.den r.num r.den

-- ---- the order of the sizes

pub at_most_sides : {q r : Quality} → q ⊑ r → (over q * r.den ≤ over r * q.den) × (under r * q.den ≤ under q * r.den)
at_most_sides {q} {r} h =
    let o = is_less (over r) r.den (over q) q.den in
    let u = is_less (under q) q.den (under r) r.den in
    let t : T (not (o || u)) = subst (λ c. T (not c)) (worse_is r q) h.not_worse in
    (nltb→le (over r * q.den) (over q * r.den) (neither_l o u t), nltb→le (under q * r.den) (under r * q.den) (neither_r o u t))

-- one fraction: the same sizes on both sides
pub same_sides : {q r : Quality} → q ≈ r → (over q * r.den ≡ over r * q.den) × (under q * r.den ≡ under r * q.den)
same_sides h =
    let u = at_most_sides h.up in
    let d = at_most_sides h.down in
    (le_antisymm u.0 d.0, le_antisymm d.1 u.1)
