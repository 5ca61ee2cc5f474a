-- The two running sums are the plain sums modulo 65,536; and a sum is two bytes.
-- The sums are carried from any start a, b: each step takes the modulus of a sum whose terms may be taken so themselves.
use Rattle.std.proofs.Common.{◌≡◌, ℕ, suc, ◌+◌, ◌/◌, ◌%◌, ◌<◌, Bool, true, false, not, ◌&&◌, ◌||◌, T, eqb, List, [], ◌∷◌, ◌++◌, map, length, get_or, take, drop, set, refl, ap, ◌∙◌, append-nil, add-zero, mod-lt, div-lt_iff_lt-mul, zero-add, arith, lit<, drop_of_length-le, drop-cons, lt-ltb}
use native.Mathlib.Nat.{mod-add-mod, add-mod-mod}
use lib.Seq.{sets-eq}
use Rattle.lists.specs.Lists.{every, same, sum, numbers_from}
use Rattle.lists.proofs.Numbers.{map_next}
use Rattle.layout.specs.declared.Sums.{Sums}
use Rattle.layout.specs.Layout.{block_bytes, body_bytes, wrap, byte, sums_onto, sums_of, sum_bytes, sealed, sum_wrong}
use Rattle.layout.specs.PlainSums.{plain_first, plain_second}
use Rattle.layout.specs.Within.{is_byte}

-- the sum of what a first sum that starts at a is after 1, 2 and so on up to all bytes
abbrev second_from : ℕ → List ℕ → ℕ
second_from a xs = sum (map (λ n. a + sum (take n xs)) (numbers_from 1 (length xs)))

second_step : (a x : ℕ) (xs : List ℕ) → second_from a (x ∷ xs) ≡ a + x + second_from (a + x) xs
unfolding numbers_from
second_step a x xs =
    let e = map_next (λ n. a + sum (take n (x ∷ xs))) (λ n. a + x + sum (take n xs)) (λ n. omega arith) 1 (length xs) in
    rw e (omega arith)

-- the running sums from any start
sums_from : (a b : ℕ) (xs : List ℕ) → sums_onto (record { first = a % wrap; second = b % wrap }) xs
    ≡ record { first = (a + sum xs) % wrap; second = (b + second_from a xs) % wrap }
unfolding sums_onto numbers_from
sums_from a b [] = simp add-zero
sums_from a b (x ∷ xs) =
    let first = mod-add-mod a wrap x in
    let second : (b % wrap + (a + x) % wrap) % wrap ≡ (b + (a + x)) % wrap =
    mod-add-mod b wrap ((a + x) % wrap) ∙ add-mod-mod b (a + x) wrap in
    let p : a + x + sum xs ≡ a + sum (x ∷ xs) = omega arith in
    let q : b + (a + x) + second_from (a + x) xs ≡ b + second_from a (x ∷ xs) = omega (arith, second_step a x xs) in
    rw (first, second) (sums_from (a + x) (b + (a + x)) xs ∙ rw (p, q))

-- the two running sums are the plain sums modulo 65,536
pub sums_plain : (body : List ℕ) → sums_of body ≡ record { first = plain_first body % wrap; second = plain_second body % wrap }
sums_plain body = simp zero-add at (sums_from 0 0 body)

-- both sums are below 65,536
pub first_below : (body : List ℕ) → (sums_of body).first < wrap
first_below body = rw (sums_plain body) (mod-lt (plain_first body) (lit< tt))

second_below : (body : List ℕ) → (sums_of body).second < wrap
second_below body = rw (sums_plain body) (mod-lt (plain_second body) (lit< tt))

-- a number below 65,536 is two bytes, low byte first
low_byte : (n : ℕ) → n % 256 < 256
low_byte n = mod-lt n (lit< tt)

high_byte : (n : ℕ) → n < wrap → n / 256 < 256
high_byte n h = (div-lt_iff_lt-mul {k = 256} (lit< tt)).1 h

pub sum_bytes_length : (body : List ℕ) → length (sum_bytes body) ≡ 4
unfolding sum_bytes
sum_bytes_length body = refl

-- the four bytes behind a body are bytes
pub sum_bytes_lem : (body : List ℕ) → T (every is_byte (sum_bytes body))
unfolding sum_bytes every
sum_bytes_lem body =
    let a = (sums_of body).first in
    let b = (sums_of body).second in
    rw (lt-ltb (a % 256) 256 (low_byte a), lt-ltb (a / 256) 256 (high_byte a (first_below body)))
    (rw (lt-ltb (b % 256) 256 (low_byte b), lt-ltb (b / 256) 256 (high_byte b (second_below body))) tt)

-- the last four of a list's elements
four_at_lem : (i : ℕ) (xs : List ℕ) → length xs ≡ i + 4
    → drop i xs ≡ get_or xs i 0 ∷ get_or xs (suc i) 0 ∷ get_or xs (suc (suc i)) 0 ∷ get_or xs (suc (suc (suc i))) 0 ∷ []
four_at_lem i xs h =
    let a = drop-cons xs i 0 (omega arith) in
    let b = drop-cons xs (suc i) 0 (omega arith) in
    let c = drop-cons xs (suc (suc i)) 0 (omega arith) in
    let d = drop-cons xs (suc (suc (suc i))) 0 (omega arith) in
    let e = drop_of_length-le xs {i = suc (suc (suc (suc i)))} (omega arith) in
    cc

-- the two bytes at a place are a sum, low byte first
abbrev sum_at : List ℕ → ℕ → ℕ → Bool
sum_at block i n = eqb (byte block i) (n % 256) && eqb (byte block (i + 1)) (n / 256)

-- the sums are wrong where one of them differs from its two bytes
sum_wrong_at : (block : List ℕ) → length block ≡ block_bytes
    → let sums = sums_of (take body_bytes block) in
    sum_wrong block ≡ not (sum_at block 508 sums.first) || not (sum_at block 510 sums.second)
unfolding sum_wrong sum_bytes same
sum_wrong_at block h =
    let a = (sums_of (take body_bytes block)).first in
    let b = (sums_of (take body_bytes block)).second in
    ap (λ xs. not (same eqb xs (sum_bytes (take body_bytes block)))) (four_at_lem 508 block h)
    ∙ tests (eqb (byte block 508) (a % 256)) (eqb (byte block 509) (a / 256)) (eqb (byte block 510) (b % 256))
    (eqb (byte block 511) (b / 256))
  where
    tests : (p q r s : Bool) → not (p && (q && (r && (s && true)))) ≡ not (p && q) || not (r && s)
    tests true true true true = refl
    tests true true true false = refl
    tests true true false s = refl
    tests true false r s = refl
    tests false q r s = refl

module _ (block : List ℕ) (sums : Sums) (h : length block ≡ block_bytes) (e : sums ≡ sums_of (take body_bytes block)) (first : Bool)
    (first_is : first ≡ not (sum_at block 508 sums.first)) where
  -- the first sum differs
  pub first_differs : first ≡ true → true ≡ sum_wrong block
  first_differs a = rw (sum_wrong_at block h, ← e, ← first_is, a)

  -- the first sum does not: the second decides
  pub second_decides : first ≡ false → (second : Bool) → second ≡ not (sum_at block 510 sums.second) → second ≡ sum_wrong block
  second_decides a second second_is = rw (sum_wrong_at block h, ← e, ← first_is, a) second_is

-- the first sum and then the second, written behind the first 508 bytes
pub stamped : (block one two : List ℕ) (sums : Sums) → length block ≡ block_bytes → sums ≡ sums_of (take body_bytes block)
    → one ≡ set (set block 508 (sums.first % 256)) 509 (sums.first / 256)
    → two ≡ set (set one 510 (sums.second % 256)) 511 (sums.second / 256)
    → two ≡ sealed (take body_bytes block)
unfolding sum_bytes
stamped block one two sums h e p q =
    let body = take body_bytes block in
    let bytes = sum_bytes body in
    rw (q, p, e)
    (sets-eq bytes block 508 (omega arith)
    ∙ (ap (λ xs. body ++ bytes ++ xs) (drop_of_length-le block {i = 512} (omega arith)) ∙ append-nil (body ++ bytes)))
