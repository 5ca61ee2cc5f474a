-- The quotient of two whole numbers below 2^64, each carried over to f64 and then divided, is near the exact one; so what is shown of a
-- quality is near it.
use Rattle.std.proofs.Common.{◌≡◌, ℕ, zero, suc, ◌*◌, ◌^◌, ◌<◌, ◌≤◌, true, false, not, pos, sym, refl, ap, ◌∙◌, subst, le_trans, mul-le-mul_right, mul-lt-mul_of_pos_right, mul-pos, mul-one, le_of_mul-le-mul_right, arith, lit<, lit≤, pow_pos, ne_eqb}
use lib.Ieee.{Float, nan, inf, fin, binary64, low, up, down, round, of_int, div, neg}
use lib.Ieee.Back.{round_whole}
use lib.Ieee.Exact.{HasValue}
use lib.Ieee.Fits.{down_pos}
use lib.Ieee.Positive.{first_pos}
use lib.Ieee.Scale.{round_same, round_val, grid, overflow}
use Rattle.quality.specs.declared.Kind.{Kind}
use Rattle.quality.specs.declared.Kind.TheVariants.{Upright, Flat, Inverted}
use Rattle.quality.specs.declared.Quality.{Quality}
use Rattle.quality.proofs.ConsistentQualities.{of_kind}
use Rattle.page.specs.declared.Shown.{Shown}
use Rattle.page.specs.Near.{distance, Near, ShownNear}
use Rattle.page.specs.Page.{quotient, shown, signed_size}
use Rattle.page.proofs.RoundedClose.{Within, round_close}
use Rattle.page.proofs.ThreeRoundings.{three}

-- the units of an f64: 1/L
abbrev L : ℕ
L = 2 ^ low binary64

L_pos : 0 < L
L_pos = pow_pos (low binary64)

-- the quotient of two floats with the values a / c and b / d, rounded once
divided : (x y : Float) (a c b d : ℕ) → 0 < b → 0 < c → HasValue x false a c → HasValue y false b d
    → div binary64 x y ≡ round binary64 false (a * d) (b * c)
unfolding div
divided nan y a c b d B C h k = absurd h
divided (inf s) y a c b d B C h k = absurd h
divided (fin s m e) nan a c b d B C h k = absurd k
divided (fin s m e) (inf t) a c b d B C h k = absurd k
divided (fin s m e) (fin t n f) a c b d B C h k =
    let over : 0 < n * up f * d = subst (λ (z : ℕ). 0 < z) (sym k.1) (mul-pos B (down_pos f)) in
    let some : 0 < n * up f = first_pos (n * up f) d over in
    simp
    (h.0, k.0, ne_eqb n 0 (λ z. omega (arith, first_pos n (up f) some)))
    (round_same binary64 false (m * up e * down f) (n * up f * down e) (a * d) (b * c) (mul-pos some (down_pos e)) (mul-pos B C)
    (omega (arith, ap (λ (z : ℕ). z * (b * down f)) h.1, ap (λ (z : ℕ). a * down e * z) k.1)))

-- ---- sizes, with the unit left open

twice_most : (G Z : ℕ) → Within (2 ^ 53) G Z → G ≤ 2 * Z
twice_most G Z h = omega (arith, h.0)

half_least : (G Z : ℕ) → Within (2 ^ 53) G Z → Z ≤ 2 * G
half_least G Z h = omega (arith, h.1)

below : (G Z M O : ℕ) → G ≤ 2 * Z → Z < M → 2 * M ≤ O → G < O
below G Z M O h k l = omega arith

half_over : (l g : ℕ) → 0 < l → l ≤ 2 * g → 0 < g
half_over l g p h = omega arith

own : (n l : ℕ) → 0 < n → l ≤ n * l
own n l p = omega (arith, mul-le-mul_right l p)

-- the quotient is in the normal range
normal : (G H l d : ℕ) → l ≤ 2 * G → H ≤ 2 * (d * l) → d < 2 ^ 64 → 2 ^ 118 ≤ l → 2 ^ 52 * (H * l) ≤ G * l * l
normal G H l d h k s b =
    let e : H ≤ 2 ^ 65 * l = omega (arith, mul-le-mul_right l s) in
    let f : 2 ^ 52 * H ≤ G * l = omega (arith, mul-le-mul_right G b) in
    omega (arith, mul-le-mul_right l f)

-- and does not overflow
quotient_most : (Q H G l : ℕ) → 0 < l → l ≤ 2 * H → Within (2 ^ 53) (Q * H) (G * l) → Q ≤ 4 * G
quotient_most Q H G l p h w =
    let e : Q * H ≤ 2 * (G * l) = twice_most (Q * H) (G * l) w in
    let f : Q * l ≤ 4 * G * l = omega (arith, mul-le-mul_right Q h) in
    le_of_mul-le-mul_right f p

under : (Q G Z M O : ℕ) → Q ≤ 4 * G → G ≤ 2 * Z → Z < M → 8 * M ≤ O → Q < O
under Q G Z M O h k l m = omega arith

cancelled : (Q H G l : ℕ) → 0 < l → Within (2 ^ 53) (Q * (H * l)) (G * l * l) → Within (2 ^ 53) (Q * H) (G * l)
cancelled Q H G l p w = (le_of_mul-le-mul_right {k = l} (omega (arith, w.0)) p, le_of_mul-le-mul_right {k = l} (omega (arith, w.1)) p)

-- ---- one whole number, carried over

record Carried (n : ℕ) : Type 0 where
  G : ℕ
  value : HasValue (of_int binary64 (pos n)) false G L
  close : Within (2 ^ 53) G (n * L)
  least : L ≤ 2 * G
  over : 0 < G

carried : (n : ℕ) → 0 < n → n < 2 ^ 64 → Carried n
unfolding of_int
carried n p h =
    let g = grid binary64 n 1 in
    let close : Within (2 ^ 53) g (n * L) =
    subst (λ (z : ℕ). Within (2 ^ 53) z (n * L)) (mul-one g)
    (round_close binary64 n 1 (lit< tt) (le_trans (lit≤ tt) (mul-le-mul_right L p))) in
    let fits = below g (n * L) (2 ^ 64 * L) (overflow binary64) (twice_most g (n * L) close) (mul-lt-mul_of_pos_right h L_pos) (lit≤ tt) in
    let least : L ≤ 2 * g = le_trans (own n L p) (half_least g (n * L) close) in
    record { G = g; value = round_val binary64 n 1 fits; close = close; least = least; over = half_over L g L_pos least }

-- ---- the quotient

from_within : (A B : ℕ) → Within (2 ^ 51) A B → distance A B * 2 ^ 51 ≤ B
from_within A B h = omega (arith, h.0, h.1)

no_product : (l g : ℕ) → 0 * l * 1 ≡ 0 * (g * 1)
no_product l g = omega arith

-- 0 over d is +0.0
nothing_near : (d : ℕ) → 0 < d → d < 2 ^ 64 → Near (quotient 0 d) false 0 d
unfolding quotient of_int
nothing_near d r s =
    let b = carried d r s in
    let zero-value = round_whole binary64 false 0 (omega arith) in
    let at : quotient 0 d ≡ round binary64 false 0 1 =
    divided (of_int binary64 (pos 0)) (of_int binary64 (pos d)) 0 1 b.G L b.over (lit< tt) zero-value b.value
    ∙ round_same binary64 false (0 * L) (b.G * 1) 0 1 (mul-pos b.over (lit< tt)) (lit< tt) (no_product L b.G) in
    record { n = 0; k = 0; value = subst (λ (x : Float). HasValue x false 0 1) (sym at) zero-value; near = omega arith }

something_near : (n d : ℕ) → 0 < n → n < 2 ^ 64 → 0 < d → d < 2 ^ 64 → Near (quotient n d) false n d
unfolding quotient
something_near n d p h r s =
    let f = binary64 in
    let a = carried n p h in
    let b = carried d r s in
    let Q = grid f (a.G * L) (b.G * L) in
    let at = divided (of_int f (pos n)) (of_int f (pos d)) a.G L b.G L b.over L_pos a.value b.value in
    let close : Within (2 ^ 53) (Q * b.G) (a.G * L) =
    cancelled Q b.G a.G L L_pos
    (round_close f (a.G * L) (b.G * L) (mul-pos b.over L_pos)
    (normal a.G b.G L d a.least (twice_most b.G (d * L) b.close) s (lit≤ tt))) in
    let fits =
    under Q a.G (n * L) (2 ^ 64 * L) (overflow f) (quotient_most Q b.G a.G L L_pos b.least close)
    (twice_most a.G (n * L) a.close) (mul-lt-mul_of_pos_right h L_pos) (lit≤ tt) in
    record {
      n = Q;
      k = low f;
      value = subst (λ (x : Float). HasValue x false Q L) (sym at) (round_val f (a.G * L) (b.G * L) fits);
      near = from_within (Q * d) (n * L) (three n d L a.G b.G Q L_pos a.close b.close close);
    }

quotient_near : (n d : ℕ) → n < 2 ^ 64 → d < 2 ^ 64 → 0 < d → Near (quotient n d) false n d
quotient_near zero d h s r = nothing_near d r s
quotient_near (suc n) d h s r = something_near (suc n) d (omega arith) h r s

-- ---- with its sign

negated : (x : Float) (a c : ℕ) → HasValue x false a c → HasValue (neg x) true a c
unfolding neg
negated nan a c h = absurd h
negated (inf s) a c h = absurd h
negated (fin s m e) a c h = (ap not h.0, h.1)

minus_near : (x : Float) (t u : ℕ) → Near x false t u → Near (neg x) true t u
minus_near x t u h = record { n = h.n; k = h.k; value = negated x h.n (2 ^ h.k) h.value; near = h.near }

-- what is shown of a quality is near it
pub shown_near : (q : Quality) → q.num < 2 ^ 64 → q.den < 2 ^ 64 → 0 < q.den → ShownNear q (signed_size (shown q))
unfolding shown
shown_near q h s r = go q.kind
  where
    size : Near (quotient q.num q.den) false q.num q.den
    size = quotient_near q.num q.den h s r

    go : (k : Kind) → ShownNear (of_kind k q) (signed_size (shown (of_kind k q)))
    go Upright = size
    go Flat = refl
    go Inverted = minus_near (quotient q.num q.den) q.num q.den size

-- what the code has is what is shown, and so near: it read both numbers, and each fits 64 bits
pub is_near : (q : Quality) (s : Shown) {n d : ℕ} → n ≡ q.num → n < 2 ^ 64 → d ≡ q.den → d < 2 ^ 64 → s ≡ shown q
    → 0 < q.den → ShownNear q (signed_size s)
is_near q s en hn ed hd e over = subst (λ x. ShownNear q (signed_size x)) (sym e) (shown_near q (rw en at hn) (rw ed at hd) over)
