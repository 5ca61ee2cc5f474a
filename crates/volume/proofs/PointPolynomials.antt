-- D and S as polynomials in the coordinates of the points, for the normaliser of `algebra`: point k of a list of points
-- has the variables 3 k, 3 k + 1 and 3 k + 2, and the value of the polynomial at the coordinates is D, or S.
use Prim.Native.Nat.{ℕ, suc, ◌+◌, ◌*◌, ◌^◌}
use mathlib.Core.List.{List, [], ◌∷◌}
use mathlib.Core.Path.{◌≡◌, ap, ◌∙◌}
use native.Mathlib.Nat.{pow-zero, pow-suc, one-mul}
use lib.IntN.{ℤ, pos, negsuc, nat_abs, ◌+ℤ◌, ◌*ℤ◌}
use Rattle.algebra.proofs.Normal.{Expr, var, ◌:+◌, ◌:-◌, ◌:*◌}
use Rattle.volume.specs.declared.Point.{Point}
use Rattle.volume.specs.Volume.{S, arrow, squared_length}

-- ---- expressions

-- three expressions: a point's coordinates, or an arrow's
pub record Three : Type 0 where
  pub x : Expr
  pub y : Expr
  pub z : Expr

-- the variables of point k
unfoldable pub point : ℕ → Three
point k = record { x = var (3 * k); y = var (3 * k + 1); z = var (3 * k + 2) }

abbrev pub arrow' : Three → Three → Three
arrow' p s = record { x = p.x :- s.x; y = p.y :- s.y; z = p.z :- s.z }

abbrev pub determinant' : Three → Three → Three → Expr
determinant' u v w =
    u.x :* (v.y :* w.z :- v.z :* w.y)
    :- u.y :* (v.x :* w.z :- v.z :* w.x)
    :+ u.z :* (v.x :* w.y :- v.y :* w.x)

abbrev pub D' : Three → Three → Three → Three → Expr
D' p q r s = determinant' (arrow' p s) (arrow' q s) (arrow' r s)

abbrev pub dot' : Three → Three → Expr
dot' u v = u.x :* v.x :+ u.y :* v.y :+ u.z :* v.z

abbrev pub squared_length' : Three → Three → Expr
squared_length' p q = dot' (arrow' p q) (arrow' p q)

abbrev pub S' : Three → Three → Three → Three → Expr
S' p q r s =
    squared_length' p q :+ squared_length' p r :+ squared_length' p s
    :+ squared_length' q r :+ squared_length' q s :+ squared_length' r s

-- ---- their values

pub square_is : (n : ℕ) → n ^ 2 ≡ n * n
square_is n = pow-suc n 1 ∙ ap (λ m. m * n) (pow-suc n 0 ∙ ap (λ m. m * n) (pow-zero n) ∙ one-mul n)

pub cube_is : (n : ℕ) → n ^ 3 ≡ n * n * n
cube_is n = pow-suc n 2 ∙ ap (λ m. m * n) (square_is n)

-- the coordinates of some points
abbrev pub coordinates : List Point → List ℤ
coordinates [] = []
coordinates (p ∷ ps) = pos p.x ∷ pos p.y ∷ pos p.z ∷ coordinates ps

-- a square by size
pub pos_square : (a : ℤ) → pos (nat_abs a ^ 2) ≡ a *ℤ a
pos_square (pos n) = ap pos (square_is n)
pos_square (negsuc n) = ap pos (square_is (suc n))

-- the squared length of p q, and S, as whole numbers
abbrev length_z : Point → Point → ℤ
length_z p q = let u = arrow p q in u.0 *ℤ u.0 +ℤ u.1 *ℤ u.1 +ℤ u.2 *ℤ u.2

abbrev pub SZ : Point → Point → Point → Point → ℤ
SZ p q r s = length_z p q +ℤ length_z p r +ℤ length_z p s +ℤ length_z q r +ℤ length_z q s +ℤ length_z r s

pos_length : (p q : Point) → pos (squared_length p q) ≡ length_z p q
unfolding squared_length
pos_length p q = let u = arrow p q in (λ k. pos_square u.0 k +ℤ pos_square u.1 k +ℤ pos_square u.2 k)

pub pos_S : (p q r s : Point) → pos (S p q r s) ≡ SZ p q r s
unfolding S
pos_S p q r s =
    λ k.
    pos_length p q k +ℤ pos_length p r k +ℤ pos_length p s k
    +ℤ pos_length q r k +ℤ pos_length q s k +ℤ pos_length r s k
