-- The steps of the order by whole parts and remainders, each held to the cross products n1 d2 and n2 d1.
use Prim.Native.Nat.{ℕ, ◌*◌, ◌/◌, ◌%◌, ◌<◌, ◌≤◌}
use mathlib.Core.Bool.{Bool, true, false, not}
use mathlib.Core.Path.{◌≡◌, sym, ap, ap₂}
use native.Mathlib.Nat.{le_of_lt, mul_comm, mul-pos, mod-lt, div-add-mod', mul-le-mul_right, mul-lt-mul_of_pos_right}
use native.Mathlib.Omega.{arith}
use lib.Dec.{T, ltb, ltb→lt, nltb→le}
use borrow.Author.Tests.{lt-ltb, le-ltb}
use Rattle.exact.specs.Fractions.{is_less}

-- two tests agree where the one leads to the other, and its failing to the other's failing
pub as_test : (a b c d : ℕ) → (a < b → c < d) → (b ≤ a → d ≤ c) → ltb a b ≡ ltb c d
as_test a b c d f g = go (ltb a b) (ltb→lt a b) (nltb→le a b)
  where
    go : (x : Bool) → (T x → a < b) → (T (not x) → b ≤ a) → x ≡ ltb c d
    go true h k = sym (lt-ltb c d (f (h tt)))
    go false h k = sym (le-ltb c d (g (k tt)))

module _ (n1 d1 n2 d2 : ℕ) where
  -- nothing is over n1 / 0
  pub none_over : d1 ≡ 0 → n2 * d1 ≤ n1 * d2
  none_over p = omega (arith, ap (λ (x : ℕ). n2 * x) p)

  -- n2 / 0 is over every fraction, 0 / 0 over none
  pub over_all : 0 < d1 → d2 ≡ 0 → ltb 0 n2 ≡ is_less n1 d1 n2 d2
  over_all p q =
      let e = ap (λ (x : ℕ). n1 * x) q in
      as_test 0 n2 (n1 * d2) (n2 * d1)
      (λ h. omega (arith, mul-pos h p))
      (λ h. let none : n2 ≡ 0 = omega arith in omega (arith, ap (λ (x : ℕ). x * d1) none))

  -- below 1, and not below 1
  pub below_one : n1 < d1 → d2 ≤ n2 → 0 < d2 → n1 * d2 < n2 * d1
  below_one h k p = omega (arith, mul-lt-mul_of_pos_right h p, mul-le-mul_right d1 k)

  -- the smaller whole part
  pub smaller_part : 0 < d1 → 0 < d2 → n1 / d1 < n2 / d2 → n1 * d2 < n2 * d1
  smaller_part p1 p2 h =
      let e1 = ap (λ (x : ℕ). x * d2) (div-add-mod' n1 d1) in
      let e2 = ap (λ (x : ℕ). x * d1) (div-add-mod' n2 d2) in
      let m = mul-le-mul_right (d1 * d2) h in
      let r = mul-lt-mul_of_pos_right (mod-lt n1 p1) p2 in
      omega arith

  -- both turned over, and exchanged
  pub turned_over : is_less d2 n2 d1 n1 ≡ is_less n1 d1 n2 d2
  turned_over = ap₂ ltb (mul_comm d2 n1) (mul_comm d1 n2)

  -- one whole part: the remainders decide
  pub same_part : n1 / d1 ≡ n2 / d2 → is_less d2 (n2 % d2) d1 (n1 % d1) ≡ is_less n1 d1 n2 d2
  same_part e =
      let left = ap (λ (x : ℕ). x * d2) (div-add-mod' n1 d1) in
      let right = ap (λ (x : ℕ). x * d1) (div-add-mod' n2 d2) in
      let parts = ap (λ (x : ℕ). x * (d1 * d2)) e in
      as_test (d2 * (n1 % d1)) (d1 * (n2 % d2)) (n1 * d2) (n2 * d1) (λ h. omega arith) (λ h. omega arith)

-- whole parts that differ decide
pub other_part : (n1 d1 n2 d2 : ℕ) → 0 < d1 → 0 < d2 → (n1 / d1 ≡ n2 / d2 → ⊥) → ltb (n1 / d1) (n2 / d2) ≡ is_less n1 d1 n2 d2
other_part n1 d1 n2 d2 p1 p2 other =
    as_test (n1 / d1) (n2 / d2) (n1 * d2) (n2 * d1)
    (smaller_part n1 d1 n2 d2 p1 p2)
    (λ h. le_of_lt (smaller_part n2 d2 n1 d1 p2 p1 (omega (arith, h, other))))
