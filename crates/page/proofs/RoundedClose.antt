-- How far `round` is from the fraction that it rounds: in the normal range it is off by one part in 2^prec at most.
-- Idea: the nearest multiple of a unit is off by half a unit, and 2^(prec - 1) units are at most the fraction.
use Rattle.std.proofs.Common.{◌≡◌, ℕ, ◌+◌, ◌-◌, ◌*◌, ◌/◌, ◌%◌, ◌^◌, ◌<◌, ◌≤◌, not, T, eqb, sym, ap, ◌∙◌, subst, le_trans, le_of_eq, mul-le-mul_right, mod-lt, mul-le-mul_left, mul-pos, div-add-mod', arith, eqb→eq, leb→le, pow_pos, pow-add}
use Prim.Native.Nat.{compare, Ordering}
use lib.Dec.{is_le, compare_is_eq, nleb→lt, eqb_refl}
use lib.Arith.{lt_of_le-ne}
use lib.Ieee.{Format, prec, low, size, nearest}
use lib.Ieee.Digits.{size_reaches}
use lib.Ieee.Fits.{two, two-le_pos}
use lib.Ieee.Nearest.{closest}
use lib.Ieee.Order.{drop, kept}
use lib.Ieee.Scale.{grid, normal_of_fraction}

-- G is n, off by one part in q at most
abbrev pub Within : ℕ → ℕ → ℕ → Type 0
Within q G n = (q * G ≤ (q + 1) * n) × (q * n ≤ q * G + n)

-- ---- the nearest multiple

-- what an ordering says of two numbers
abbrev Ordered : Ordering → ℕ → ℕ → Type 0
Ordered Ordering.lt a b = a < b
Ordered Ordering.eq a b = a ≡ b
Ordered Ordering.gt a b = b < a

ordered : (a b : ℕ) → Ordered (compare a b) a b
ordered a b = go (compare a b) (leb→le a b) (nleb→lt a b) (eqb→eq a b) (λ (e : a ≡ b). subst (λ (x : ℕ). T (eqb a x)) e (eqb_refl a))
  where
    go : (o : Ordering) → (T (is_le o) → a ≤ b) → (T (not (is_le o)) → b < a) → (T (compare_is_eq o) → a ≡ b) → (a ≡ b → T (compare_is_eq o)) → Ordered o a b
    go Ordering.lt h k e n = lt_of_le-ne (h tt) n
    go Ordering.eq h k e n = e tt
    go Ordering.gt h k e n = k tt

-- it is off by half of u at most
half_off : (n u : ℕ) → 0 < u → (closest n u * u * 2 ≤ n * 2 + u) × (n * 2 ≤ closest n u * u * 2 + u)
half_off n u h = go (compare (n % u * 2) u) (ordered (n % u * 2) u)
  where
    whole : n / u * u + n % u ≡ n
    whole = div-add-mod' n u

    rest : n % u < u
    rest = mod-lt n h

    bit : n / u % 2 * u ≤ 1 * u
    bit = mul-le-mul_right u (omega arith)

    go : (o : Ordering) → Ordered o (n % u * 2) u → (nearest (n / u) o * u * 2 ≤ n * 2 + u) × (n * 2 ≤ nearest (n / u) o * u * 2 + u)
    go Ordering.lt c = omega (arith, whole, rest)
    go Ordering.eq c = omega (arith, whole, rest, bit)
    go Ordering.gt c = omega (arith, whole, rest)

-- ---- units beside the fraction

doubled : (p : ℕ) → 0 < p → 2 ^ p ≡ 2 * 2 ^ (p - 1)
doubled p h = ap (λ (k : ℕ). 2 ^ k) back ∙ pow-add 2 1 (p - 1)
  where
    back : p ≡ 1 + (p - 1)
    back = omega arith

units_most : (p n c : ℕ) → 0 < p → p ≤ size (n / c) → 2 ^ (p - 1) * (c * 2 ^ drop p n c) ≤ n
units_most p n c P N =
    let k = drop p n c in
    let a : 2 ^ (p - 1) * 2 ^ k ≤ n / c = le_trans (le_of_eq (sym (pow-add 2 (p - 1) k))) (size_reaches (n / c) (p - 1 + k) (omega arith)) in
    let b : 2 ^ (p - 1) * 2 ^ k * c ≤ n / c * c = mul-le-mul_right c a in
    omega (arith, div-add-mod' n c)

from_half : (q u G n : ℕ) → q * u ≤ n → (G * 2 ≤ n * 2 + u) × (n * 2 ≤ G * 2 + u) → Within (2 * q) G n
from_half q u G n h k = omega (arith, mul-le-mul_left q k.0, mul-le-mul_left q k.1)

regrouped : (x y c : ℕ) → x * y * c ≡ x * (c * y)
regrouped x y c = omega arith

kept_close : (p n c : ℕ) → 0 < p → 0 < c → p ≤ size (n / c) → Within (2 ^ p) (kept p n c * 2 ^ drop p n c * c) n
kept_close p n c P C N =
    let u = c * 2 ^ drop p n c in
    let s = from_half (2 ^ (p - 1)) u (closest n u * u) n (units_most p n c P N) (half_off n u (mul-pos C (pow_pos (drop p n c)))) in
    subst (λ (q : ℕ). Within q (kept p n c * 2 ^ drop p n c * c) n) (sym (doubled p P))
    (subst (λ (g : ℕ). Within (2 * 2 ^ (p - 1)) g n) (sym (regrouped (closest n u) (2 ^ drop p n c) c)) s)

-- a / c, and what it is rounded to, in units of 2^-low
pub round_close : (f : Format) (a c : ℕ) → 0 < c → 2 ^ (prec f - 1) * c ≤ a * 2 ^ low f → Within (2 ^ prec f) (grid f a c * c) (a * 2 ^ low f)
round_close f a c C h = kept_close (prec f) (a * 2 ^ low f) c (two-le_pos (prec f) (two f)) C (normal_of_fraction f a c C h)
