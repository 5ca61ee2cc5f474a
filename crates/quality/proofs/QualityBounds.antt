-- How large the numerator and the denominator of a quality get, from the bounds of D and S: with coordinates of 0 to 255 both are at most
-- 1728·255⁶. And how small: where a row is not flat, its numerator is 432 at least.
use Prim.Native.Nat.{ℕ, zero, suc, ◌*◌, ◌^◌, ◌≤◌, ◌<◌}
use mathlib.Core.Bool.{not}
use native.Mathlib.Nat.{lt_of_le_of_lt, mul-le-mul_left, pow-le-pow_left}
use native.Mathlib.Omega.{arith}
use lib.Dec.{T, lit<}
use lib.IntN.{ℤ, pos, negsuc, nat_abs}
use Rattle.volume.specs.declared.Point.{Point}
use Rattle.volume.specs.Steps.{largest_byte}
use Rattle.volume.specs.Volume.{D, S}
use Rattle.volume.proofs.PointPolynomials.{square_is}
use Rattle.volume.proofs.VolumeBounds.{CoordinatesTo, D_of_bytes, S_of_bytes}
use Rattle.quality.specs.declared.Quality.{Quality}
use Rattle.quality.specs.Quality.{quality, quality_of, quality_factor, zero_quality, is_flat}

-- the bound of numerators and denominators, below 2^59
abbrev pub part_limit : ℕ
part_limit = 1728 * largest_byte ^ 6

-- A numerator and a denominator within the bound; the numerator is 432 at least, but for a flat row.
pub record Small (q : Quality) : Type 0 where
  pub num_most : q.num ≤ part_limit
  pub den_most : q.den ≤ part_limit
  pub num_least : T (not (is_flat q)) → quality_factor ≤ q.num

pub num_below_59 : (q : Quality) → Small q → q.num < 2 ^ 59
num_below_59 q small = lt_of_le_of_lt small.num_most (lit< tt)

pub den_below_59 : (q : Quality) → Small q → q.den < 2 ^ 59
den_below_59 q small = lt_of_le_of_lt small.den_most (lit< tt)

pub zero_small : Small zero_quality
zero_small = record { num_most = omega arith; den_most = omega arith; num_least = λ t. absurd t }

-- 432·d² for d over 0
least : (d : ℕ) → quality_factor ≤ quality_factor * suc d ^ 2
least d = rw (square_is (suc d)) (omega arith)

of_small : (z : ℤ) (s : ℕ) → quality_factor * nat_abs z ^ 2 ≤ part_limit → s ^ 3 ≤ part_limit → Small (quality_of z s)
unfolding quality_of
of_small (pos zero) s h k = zero_small
of_small (pos (suc d)) s h k = record { num_most = h; den_most = k; num_least = λ t. least d }
of_small (negsuc d) s h k = record { num_most = h; den_most = k; num_least = λ t. least d }

-- 432·(2·255³)² and (12·255²)³ are both the bound
pub quality_small :
    (p q r s : Point)
    → CoordinatesTo largest_byte p → CoordinatesTo largest_byte q → CoordinatesTo largest_byte r → CoordinatesTo largest_byte s
    → Small (quality p q r s)
unfolding quality
quality_small p q r s hp hq hr hs =
    of_small
    (D p q r s)
    (S p q r s)
    (mul-le-mul_left quality_factor (pow-le-pow_left (D_of_bytes p q r s hp hq hr hs) 2))
    (pow-le-pow_left (S_of_bytes p q r s hp hq hr hs) 3)
