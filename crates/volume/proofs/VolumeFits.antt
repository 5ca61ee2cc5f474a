-- What fits an i64 on the way to D: entries of at most 255 in size, their minors, and the sums of products with them.
use Prim.Native.Nat.{◌^◌, ◌≤◌}
use mathlib.Core.Path.{◌≡◌, sym, ap}
use native.Mathlib.Nat.{lt_of_le_of_lt}
use lib.Dec.{T, lit<}
use lib.IntN.{ℤ, pos, negsuc, nat_abs, ◌+ℤ◌, ◌-ℤ◌, ◌*ℤ◌}
use lib.Signed.{non_neg}
use mir.Syntax.{w64}
use mir.Val.{Fits, SFits, to_z, of_z}
use mir.Facts.{to_z-of_z}
use Rattle.algebra.proofs.Size.{Size, size_add, size_sub, size_mul, fits_size}
use Rattle.volume.specs.Steps.{largest_byte, minor_limit, volume_limit}
use Rattle.volume.proofs.PointPolynomials.{pos_square}

-- ---- entries

entry : (z : ℤ) → nat_abs z ≤ largest_byte → Size largest_byte z
entry z h = record { size = h }

-- an entry, read back from its bits
pub entry_read : (a : ℤ) → nat_abs a ≤ largest_byte → to_z w64 (of_z w64 a) ≡ a
entry_read a h = to_z-of_z {w = w64} (fits_size (entry a h) tt)

-- ---- minors

pub product_fits : (a b : ℤ) → nat_abs a ≤ largest_byte → nat_abs b ≤ largest_byte → SFits w64 (a *ℤ b)
product_fits a b ha hb = fits_size (size_mul (entry a ha) (entry b hb)) tt

minor_size :
    (a b c d : ℤ) → nat_abs a ≤ largest_byte → nat_abs b ≤ largest_byte → nat_abs c ≤ largest_byte → nat_abs d ≤ largest_byte
    → Size minor_limit (a *ℤ d -ℤ b *ℤ c)
minor_size a b c d ha hb hc hd = size_sub (size_mul (entry a ha) (entry d hd)) (size_mul (entry b hb) (entry c hc))

pub minor_fits :
    (a b c d : ℤ) → nat_abs a ≤ largest_byte → nat_abs b ≤ largest_byte → nat_abs c ≤ largest_byte → nat_abs d ≤ largest_byte
    → SFits w64 (a *ℤ d -ℤ b *ℤ c)
minor_fits a b c d ha hb hc hd = fits_size (minor_size a b c d ha hb hc hd) tt

pub minor_most :
    (a b c d : ℤ) → nat_abs a ≤ largest_byte → nat_abs b ≤ largest_byte → nat_abs c ≤ largest_byte → nat_abs d ≤ largest_byte
    → nat_abs (a *ℤ d -ℤ b *ℤ c) ≤ minor_limit
minor_most a b c d ha hb hc hd = (minor_size a b c d ha hb hc hd).size

-- ---- the sum of products

minor_entry : (z : ℤ) → nat_abs z ≤ minor_limit → Size minor_limit z
minor_entry z h = record { size = h }

pub term_fits : (a x : ℤ) → nat_abs a ≤ largest_byte → nat_abs x ≤ minor_limit → SFits w64 (a *ℤ x)
term_fits a x ha hx = fits_size (size_mul (entry a ha) (minor_entry x hx)) tt

pub two_fit :
    (a x b y : ℤ) → nat_abs a ≤ largest_byte → nat_abs x ≤ minor_limit → nat_abs b ≤ largest_byte → nat_abs y ≤ minor_limit
    → SFits w64 (a *ℤ x -ℤ b *ℤ y)
two_fit a x b y ha hx hb hy =
    fits_size (size_sub (size_mul (entry a ha) (minor_entry x hx)) (size_mul (entry b hb) (minor_entry y hy))) tt

pub three_fit :
    (a x b y c z : ℤ)
    → nat_abs a ≤ largest_byte → nat_abs x ≤ minor_limit → nat_abs b ≤ largest_byte → nat_abs y ≤ minor_limit
    → nat_abs c ≤ largest_byte → nat_abs z ≤ minor_limit
    → SFits w64 (a *ℤ x -ℤ b *ℤ y +ℤ c *ℤ z)
three_fit a x b y c z ha hx hb hy hc hz =
    fits_size
    (size_add
    (size_sub (size_mul (entry a ha) (minor_entry x hx)) (size_mul (entry b hb) (minor_entry y hy)))
    (size_mul (entry c hc) (minor_entry z hz)))
    tt

-- ---- squares

large : (z : ℤ) → nat_abs z ≤ volume_limit → Size volume_limit z
large z h = record { size = h }

pub square_fits : (z : ℤ) → nat_abs z ≤ volume_limit → SFits w64 (z *ℤ z)
square_fits z h = fits_size (size_mul (large z h) (large z h)) tt

pub square_size : (z : ℤ) → nat_abs (z *ℤ z) ≡ nat_abs z ^ 2
square_size z = ap nat_abs (sym (pos_square z))

non_neg_square : (z : ℤ) → T (non_neg (z *ℤ z))
non_neg_square (pos n) = tt
non_neg_square (negsuc n) = tt

pub square_cast : (z : ℤ) → nat_abs z ≤ volume_limit → T (non_neg (z *ℤ z)) × Fits w64 (nat_abs (z *ℤ z))
square_cast z h =
    (non_neg_square z, record { fits = lt_of_le_of_lt (size_mul (large z h) (large z h)).size (lit< tt) })
