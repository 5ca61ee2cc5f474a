-- The determinant, put together from the values that the code computes on the way.
use mathlib.Core.Path.{◌≡◌, ◌∙◌}
use Prim.Native.Nat.{◌^◌, ◌<◌}
use lib.IntN.{ℤ, ◌+ℤ◌, ◌-ℤ◌, ◌*ℤ◌}
use lib.Signed.{mag}
use borrow.Author.Rules.{sfits_of}
use mir.Syntax.{w64}
use mir.Val.{to_z, of_z}
use mir.Facts.{to_z-of_z}
use Rattle.volume.specs.Volume.{Arrow, determinant}

-- a call's signed result, read back from its bits
pub read : {z v : ℤ} → mag z < 2 ^ 63 → z ≡ v → to_z w64 (of_z w64 z) ≡ v
read ok e = to_z-of_z {w = w64} (sfits_of ok) ∙ e

-- a determinant, from its rows and three minors
pub determinant_from :
    {u v w : Arrow} {a b c d e f g h i x y z : ℤ}
    → (a, b, c) ≡ u → (d, e, f) ≡ v → (g, h, i) ≡ w
    → x ≡ e *ℤ i -ℤ f *ℤ h → y ≡ d *ℤ i -ℤ f *ℤ g → z ≡ d *ℤ h -ℤ e *ℤ g
    → a *ℤ x -ℤ b *ℤ y +ℤ c *ℤ z ≡ determinant u v w
unfolding determinant
determinant_from u v w x y z = rw (x, y, z, ← u, ← v, ← w)
