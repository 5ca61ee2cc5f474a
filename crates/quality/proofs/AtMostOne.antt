-- A quality is at most 1: 432·D² ≤ S³. With u, v, w the arrows of D put A = v + w - u, B = u + w - v, C = u + v - w.
-- Then S = |A|² + |B|² + |C|² and det(A, B, C) = 4·D; det² ≤ |A|²·|B|²·|C|² (Hadamard), and 27 times that product is at
-- most the cube of the sum (the two means). So S is over 0 where D is not 0, and every denominator is over 0.
use Prim.Native.Nat.{ℕ, zero, suc, ◌*◌, ◌^◌, ◌≤◌, ◌<◌}
use mathlib.Core.List.{List, [], ◌∷◌}
use mathlib.Core.Path.{◌≡◌, refl, sym, ap, ◌∙◌, subst, subst₂}
use native.Mathlib.Nat.{lt_of_lt_of_le}
use native.Mathlib.Omega.{arith}
use mathlib.Core.Bool.{not}
use lib.Dec.{T, leb→le}
use lib.IntN.{ℤ, pos, negsuc, nat_abs, ◌+ℤ◌, ◌-ℤ◌, ◌*ℤ◌}
use lib.Signed.{◌≤ℤ◌, lt_z_yes}
use Rattle.algebra.proofs.Normal.{var, con, ◌:+◌, ◌:-◌, ◌:*◌, norm, ring}
use Rattle.algebra.proofs.Order.{NonNeg, ◌⊞◌, ◌⊠◌, square, number, given, gap, le_by, le_by_times, nn_by}
use Rattle.volume.specs.declared.Point.{Point}
use Rattle.volume.specs.Volume.{Arrow, D, S, determinant, arrow}
use Rattle.quality.specs.Quality.{quality, quality_of, quality_factor, is_flat}
use Rattle.volume.proofs.PointPolynomials.{Three, point, arrow', determinant', dot', D', S', SZ, coordinates, pos_square, square_is}
use Rattle.volume.proofs.PointPolynomials.{cube_is, pos_S}

-- ---- the two inequalities

abbrev dot : Arrow → Arrow → ℤ
dot u v = u.0 *ℤ v.0 +ℤ u.1 *ℤ v.1 +ℤ u.2 *ℤ v.2

abbrev cross' : Three → Three → Three
cross' u v =
    record {
      x = u.y :* v.z :- u.z :* v.y;
      y = u.z :* v.x :- u.x :* v.z;
      z = u.x :* v.y :- u.y :* v.x;
    }

dot_nn : {ρ : List ℤ} (u : Three) → NonNeg ρ (dot' u u)
dot_nn u = square u.x ⊞ square u.y ⊞ square u.z

-- |A|²·|B|²·|C|² - det² = |A|²·(B-as-C)² + |A × (B × C)|²
hadamard : (a b c : Arrow) → (determinant a b c *ℤ determinant a b c) ≤ℤ (dot a a *ℤ dot b b *ℤ dot c c)
unfolding norm determinant point
hadamard a b c =
    let u = point 0 in
    let v = point 1 in
    let w = point 2 in
    le_by
    (a.0 ∷ a.1 ∷ a.2 ∷ b.0 ∷ b.1 ∷ b.2 ∷ c.0 ∷ c.1 ∷ c.2 ∷ [])
    (determinant' u v w :* determinant' u v w)
    (dot' u u :* dot' v v :* dot' w w)
    (dot_nn u ⊠ square (dot' v w) ⊞ dot_nn (cross' u (cross' v w)))
    refl

-- 2·((x + y + z)³ - 27·x·y·z) = (x + y + z)·((x - y)² + (y - z)² + (z - x)²) + 6·(x·(y - z)² + y·(z - x)² + z·(x - y)²)
means :
    (x y z : ℤ)
    → pos 0 ≤ℤ x → pos 0 ≤ℤ y → pos 0 ≤ℤ z
    → (pos 27 *ℤ (x *ℤ y *ℤ z)) ≤ℤ ((x +ℤ y +ℤ z) *ℤ (x +ℤ y +ℤ z) *ℤ (x +ℤ y +ℤ z))
unfolding norm
means x y z hx hy hz =
    let X = var 0 in
    let Y = var 1 in
    let Z = var 2 in
    let nx = given X hx in
    let ny = given Y hy in
    let nz = given Z hz in
    le_by_times
    (x ∷ y ∷ z ∷ [])
    (con (pos 2))
    (con (pos 27) :* (X :* Y :* Z))
    ((X :+ Y :+ Z) :* (X :+ Y :+ Z) :* (X :+ Y :+ Z))
    (lt_z_yes tt)
    ((nx ⊞ ny ⊞ nz) ⊠ (square (X :- Y) ⊞ square (Y :- Z) ⊞ square (Z :- X))
    ⊞ number 6 ⊠ (nx ⊠ square (Y :- Z) ⊞ ny ⊠ square (Z :- X) ⊞ nz ⊠ square (X :- Y)))
    refl

-- ---- the change of arrows

-- v + w - u
abbrev corner : Arrow → Arrow → Arrow → Arrow
corner u v w = (v.0 +ℤ w.0 -ℤ u.0, v.1 +ℤ w.1 -ℤ u.1, v.2 +ℤ w.2 -ℤ u.2)

abbrev corner' : Three → Three → Three → Three
corner' u v w = record { x = v.x :+ w.x :- u.x; y = v.y :+ w.y :- u.y; z = v.z :+ w.z :- u.z }

abbrev A' : Three
A' = corner' (arrow' (point 0) (point 3)) (arrow' (point 1) (point 3)) (arrow' (point 2) (point 3))

abbrev B' : Three
B' = corner' (arrow' (point 1) (point 3)) (arrow' (point 0) (point 3)) (arrow' (point 2) (point 3))

abbrev C' : Three
C' = corner' (arrow' (point 2) (point 3)) (arrow' (point 0) (point 3)) (arrow' (point 1) (point 3))

-- ---- put together

-- from 16·d² ≤ x·y·z and 27·x·y·z ≤ (x + y + z)³
together :
    (d x y z : ℤ)
    → ((pos 4 *ℤ d) *ℤ (pos 4 *ℤ d)) ≤ℤ (x *ℤ y *ℤ z)
    → (pos 27 *ℤ (x *ℤ y *ℤ z)) ≤ℤ ((x +ℤ y +ℤ z) *ℤ (x +ℤ y +ℤ z) *ℤ (x +ℤ y +ℤ z))
    → (pos 432 *ℤ (d *ℤ d)) ≤ℤ ((x +ℤ y +ℤ z) *ℤ (x +ℤ y +ℤ z) *ℤ (x +ℤ y +ℤ z))
unfolding norm
together d x y z h m =
    let F = con (pos 4) :* var 0 in
    let P = var 1 :* var 2 :* var 3 in
    let sum = var 1 :+ var 2 :+ var 3 in
    le_by
    (d ∷ x ∷ y ∷ z ∷ [])
    (con (pos 432) :* (var 0 :* var 0))
    (sum :* sum :* sum)
    (number 27 ⊠ gap (F :* F) P h ⊞ gap (con (pos 27) :* P) (sum :* sum :* sum) m)
    refl

dot_≥0 : (a : Arrow) → pos 0 ≤ℤ dot a a
unfolding norm point
dot_≥0 a = nn_by (a.0 ∷ a.1 ∷ a.2 ∷ []) (dot' (point 0) (point 0)) (dot_nn (point 0)) refl

module _ (p q r s : Point) where
  abbrev A : Arrow
  A = corner (arrow p s) (arrow q s) (arrow r s)

  abbrev B : Arrow
  B = corner (arrow q s) (arrow p s) (arrow r s)

  abbrev C : Arrow
  C = corner (arrow r s) (arrow p s) (arrow q s)

  four_times : determinant A B C ≡ pos 4 *ℤ D p q r s
  unfolding norm D determinant point
  four_times =
      ring
      (coordinates (p ∷ q ∷ r ∷ s ∷ []))
      (determinant' A' B' C')
      (con (pos 4) :* D' (point 0) (point 1) (point 2) (point 3))
      refl

  S_sum : dot A A +ℤ dot B B +ℤ dot C C ≡ SZ p q r s
  unfolding norm point
  S_sum =
      ring
      (coordinates (p ∷ q ∷ r ∷ s ∷ []))
      (dot' A' A' :+ dot' B' B' :+ dot' C' C')
      (S' (point 0) (point 1) (point 2) (point 3))
      refl

  over_ℤ : (pos 432 *ℤ (D p q r s *ℤ D p q r s)) ≤ℤ (pos (S p q r s) *ℤ pos (S p q r s) *ℤ pos (S p q r s))
  over_ℤ =
      let x = dot A A in
      let y = dot B B in
      let z = dot C C in
      subst
      (λ t. (pos 432 *ℤ (D p q r s *ℤ D p q r s)) ≤ℤ (t *ℤ t *ℤ t))
      (S_sum ∙ sym (pos_S p q r s))
      (together
      (D p q r s)
      x
      y
      z
      (subst (λ t. (t *ℤ t) ≤ℤ (x *ℤ y *ℤ z)) four_times (hadamard A B C))
      (means x y z (dot_≥0 A) (dot_≥0 B) (dot_≥0 C)))

  -- 432·D² ≤ S³
  pub at_most_one : quality_factor * nat_abs (D p q r s) ^ 2 ≤ S p q r s ^ 3
  at_most_one =
      leb→le
      (432 * nat_abs (D p q r s) ^ 2)
      (S p q r s ^ 3)
      (subst₂
      ◌≤ℤ◌
      (ap (λ t. pos 432 *ℤ t) (sym (pos_square (D p q r s))))
      (ap pos (sym (cube_is (S p q r s))))
      over_ℤ).le

-- ---- of qualities

-- 0 < 432·d² for d over 0
num_over_0 : (d : ℕ) → 0 < quality_factor * suc d ^ 2
num_over_0 d = rw (square_is (suc d)) (omega arith)

of_num≤den : (z : ℤ) (s : ℕ) → quality_factor * nat_abs z ^ 2 ≤ s ^ 3 → (quality_of z s).num ≤ (quality_of z s).den
unfolding quality_of
of_num≤den (pos zero) s h = omega arith
of_num≤den (pos (suc d)) s h = h
of_num≤den (negsuc d) s h = h

of_den>0 : (z : ℤ) (s : ℕ) → quality_factor * nat_abs z ^ 2 ≤ s ^ 3 → 0 < (quality_of z s).den
unfolding quality_of
of_den>0 (pos zero) s h = omega arith
of_den>0 (pos (suc d)) s h = lt_of_lt_of_le (num_over_0 d) h
of_den>0 (negsuc d) s h = lt_of_lt_of_le (num_over_0 d) h

-- a quality is at most 1 in size
pub numerator : (p q r s : Point) → (quality p q r s).num ≤ (quality p q r s).den
unfolding quality
numerator p q r s = of_num≤den (D p q r s) (S p q r s) (at_most_one p q r s)

-- no denominator is 0
pub denominator : (p q r s : Point) → 0 < (quality p q r s).den
unfolding quality
denominator p q r s = of_den>0 (D p q r s) (S p q r s) (at_most_one p q r s)

of_num>0 : (z : ℤ) (s : ℕ) → T (not (is_flat (quality_of z s))) → 0 < (quality_of z s).num
unfolding quality_of
of_num>0 (pos zero) s h = absurd h
of_num>0 (pos (suc d)) s h = num_over_0 d
of_num>0 (negsuc d) s h = num_over_0 d

-- a numerator is 0 only where the row is flat
pub not_flat_lem : (p q r s : Point) → T (not (is_flat (quality p q r s))) → 0 < (quality p q r s).num
unfolding quality
not_flat_lem p q r s = of_num>0 (D p q r s) (S p q r s)

-- points that are not flat are not all in one place
pub apart : (p q r s : Point) → 0 < nat_abs (D p q r s) → 0 < S p q r s
apart p q r s h = go (nat_abs (D p q r s)) (S p q r s) h (at_most_one p q r s)
  where
    go : (d t : ℕ) → 0 < d → quality_factor * d ^ 2 ≤ t ^ 3 → 0 < t
    go zero t h l = absurd (omega arith)
    go (suc d) zero h l = absurd (omega (arith, num_over_0 d))
    go (suc d) (suc t) h l = omega arith
