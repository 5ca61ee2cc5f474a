-- Numbers as they are printed: the number of digits allowed for never binds, the digits give the number back, and a number
-- below 1000 or 10000 has at most three or four of them.
use Prim.Native.Nat.{ℕ, zero, suc, ◌+◌, ◌-◌, ◌*◌, ◌/◌, ◌%◌, ◌≤◌, ◌<◌}
use mathlib.Core.Bool.{Bool, true, false, cond, not}
use mathlib.Core.List.{List, [], ◌∷◌, ◌++◌}
use mathlib.Core.Path.{◌≡◌, refl, ap, ◌∙◌}
use native.Mathlib.Nat.{div-add-mod'}
use native.Mathlib.Omega.{arith}
use borrow.Author.Tests.{lt-ltb, le-ltb, ltb-true, ltb-false}
use lib.Dec.{T, ltb, nltb→le}
use lib.ListN.{length, length-append}
use Rattle.text.specs.Decimal.{digit, decimal_within, decimal}

-- a tenth of a number of two digits or more is smaller
pub tenth : (n : ℕ) → 10 ≤ n → n / 10 < n
tenth n h = omega (arith, div-add-mod' n 10)

-- any two numbers of digits over n print n alike
alike : (d e n : ℕ) → n < d → n < e → decimal_within d n ≡ decimal_within e n
unfolding decimal_within
alike zero e n h k = absurd (omega arith)
alike (suc d) zero n h k = absurd (omega arith)
alike (suc d) (suc e) n h k = go (ltb n 10) (nltb→le n 10) (alike d e (n / 10))
  where
    go : (b : Bool) → (T (not b) → 10 ≤ n) → (n / 10 < d → n / 10 < e → decimal_within d (n / 10) ≡ decimal_within e (n / 10))
        → cond b (digit n ∷ []) (decimal_within d (n / 10) ++ (digit (n % 10) ∷ []))
        ≡ cond b (digit n ∷ []) (decimal_within e (n / 10) ++ (digit (n % 10) ∷ []))
    go true f g = refl
    go false f g =
        let t = tenth n (f tt) in
        ap (λ (s : List ℕ). s ++ (digit (n % 10) ∷ [])) (g (omega arith) (omega arith))

-- n has at most n + 1 digits
pub digits_enough : (d n : ℕ) → n < d → decimal_within d n ≡ decimal n
digits_enough d n h = alike d (suc n) n h (omega arith)

-- a number below 10 is its digit
pub decimal_digit : (n : ℕ) → n < 10 → decimal n ≡ digit n ∷ []
unfolding decimal_within
decimal_digit n h = rw (lt-ltb n 10 h)

-- any other is its tenth, and the last digit behind it
pub decimal_more : (n : ℕ) → 10 ≤ n → decimal n ≡ decimal (n / 10) ++ (digit (n % 10) ∷ [])
unfolding decimal_within
decimal_more n h = rw (le-ltb n 10 h) (ap (λ (s : List ℕ). s ++ (digit (n % 10) ∷ [])) (digits_enough n (n / 10) (tenth n h)))

-- the number that some digits stand for, after those already read
unfoldable pub read_onto : ℕ → List ℕ → ℕ
read_onto v [] = v
read_onto v (c ∷ cs) = read_onto (10 * v + (c - 48)) cs

read_append : (v : ℕ) (s : List ℕ) (c : ℕ) → read_onto v (s ++ (c ∷ [])) ≡ 10 * read_onto v s + (c - 48)
unfolding read_onto
read_append v [] c = refl
read_append v (x ∷ s) c = read_append (10 * v + (x - 48)) s c

-- what is printed of a number reads as the number
pub read_decimal : (d n : ℕ) → n < d → read_onto 0 (decimal_within d n) ≡ n
unfolding decimal_within read_onto
read_decimal zero n h = absurd (omega arith)
read_decimal (suc d) n h = go (ltb n 10) (nltb→le n 10) (read_decimal d (n / 10))
  where
    go : (b : Bool) → (T (not b) → 10 ≤ n) → (n / 10 < d → read_onto 0 (decimal_within d (n / 10)) ≡ n / 10)
        → read_onto 0 (cond b (digit n ∷ []) (decimal_within d (n / 10) ++ (digit (n % 10) ∷ []))) ≡ n
    go true f g = omega arith
    go false f g =
        let t = tenth n (f tt) in
        let r = g (omega arith) in
        read_append 0 (decimal_within d (n / 10)) (digit (n % 10)) ∙ omega (arith, div-add-mod' n 10)

-- ---- how many digits

module _ (top d : ℕ) (one : 1 ≤ d) (short : (n : ℕ) → n < top → length (decimal n) ≤ d) where
  -- ten times as much has one digit more
  ten_times : (n : ℕ) → n < 10 * top → length (decimal n) ≤ suc d
  ten_times n h = go (ltb n 10) refl
    where
      go : (b : Bool) → ltb n 10 ≡ b → length (decimal n) ≤ suc d
      go true e = rw (decimal_digit n (ltb-true n 10 e)) (omega arith)
      go false e =
          let rest = short (n / 10) (omega (arith, div-add-mod' n 10)) in
          rw (decimal_more n (ltb-false n 10 e)) (omega (arith, length-append (decimal (n / 10)) (digit (n % 10) ∷ [])))

one_digit : (n : ℕ) → n < 10 → length (decimal n) ≤ 1
one_digit n h = rw (decimal_digit n h) (omega arith)

two_digits : (n : ℕ) → n < 100 → length (decimal n) ≤ 2
two_digits = ten_times 10 1 (omega arith) one_digit

pub three_digits : (n : ℕ) → n < 1000 → length (decimal n) ≤ 3
three_digits = ten_times 100 2 (omega arith) two_digits

pub four_digits : (n : ℕ) → n < 10000 → length (decimal n) ≤ 4
four_digits = ten_times 1000 3 (omega arith) three_digits

-- a number of at most three digits
abbrev pub small : ℕ → Bool
small n = ltb n 1000
