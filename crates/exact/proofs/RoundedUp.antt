-- `rounded_up n d`, for d over 0, is the least whole number b with n ≤ b d. So it grows with the fraction, and equal
-- fractions have the same.
use Prim.Native.Nat.{ℕ, ◌+◌, ◌*◌, ◌/◌, ◌%◌, ◌<◌, ◌≤◌}
use mathlib.Core.Bool.{Bool, true, false, cond}
use mathlib.Core.Path.{◌≡◌, refl, sym}
use native.Mathlib.Nat.{le_of_eq, le_antisymm, mod-lt, div-add-mod', le_of_mul-le-mul_right, lt_of_mul-lt-mul_right}
use native.Mathlib.Omega.{arith}
use lib.Dec.{eqb}
use borrow.Author.Tests.{ne_eqb, eqb-true, eqb-false}
use Rattle.exact.specs.Fractions.{rounded_up}
use Rattle.exact.proofs.CrossProducts.{at_most_trans_ℕ}

module _ (n d : ℕ) (p : 0 < d) where
  -- it is enough
  pub enough : n ≤ rounded_up n d * d
  unfolding rounded_up
  enough = simp (ne_eqb d 0 (λ z. omega arith)) (go (eqb (n % d) 0) (eqb-true (n % d) 0))
    where
      go : (x : Bool) → (x ≡ true → n % d ≡ 0) → n ≤ (n / d + cond x 0 1) * d
      go true h = omega (arith, div-add-mod' n d, h refl)
      go false h = omega (arith, div-add-mod' n d, mod-lt n p)

  -- and nothing less is
  pub least : (b : ℕ) → n ≤ b * d → rounded_up n d ≤ b
  unfolding rounded_up
  least b h = simp (ne_eqb d 0 (λ z. omega arith)) (go (eqb (n % d) 0) (eqb-false (n % d) 0))
    where
      go : (x : Bool) → (x ≡ false → n % d ≡ 0 → ⊥) → n / d + cond x 0 1 ≤ b
      go true k =
          let part : n / d * d ≤ b * d = omega (arith, div-add-mod' n d) in
          omega (arith, le_of_mul-le-mul_right part p)
      go false k =
          let left : n % d ≡ 0 → ⊥ = k refl in
          let part : n / d * d < b * d = omega (arith, div-add-mod' n d) in
          omega (arith, lt_of_mul-lt-mul_right d part)

-- the larger fraction has no smaller one
pub grows : (n1 d1 n2 d2 : ℕ) → 0 < d1 → 0 < d2 → n1 * d2 ≤ n2 * d1 → rounded_up n1 d1 ≤ rounded_up n2 d2
grows n1 d1 n2 d2 p1 p2 h = least n1 d1 p1 b (omega (arith, at_most_trans_ℕ n1 d1 n2 d2 b 1 p2 h under))
  where
    b : ℕ
    b = rounded_up n2 d2

    under : n2 * 1 ≤ b * d2
    under = omega (arith, enough n2 d2 p2)

pub of_equals : (n1 d1 n2 d2 : ℕ) → 0 < d1 → 0 < d2 → n1 * d2 ≡ n2 * d1 → rounded_up n1 d1 ≡ rounded_up n2 d2
of_equals n1 d1 n2 d2 p1 p2 e =
    le_antisymm (grows n1 d1 n2 d2 p1 p2 (le_of_eq e)) (grows n2 d2 n1 d1 p2 p1 (le_of_eq (sym e)))
