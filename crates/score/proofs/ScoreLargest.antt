-- The score of an upright quality is the largest n from 0 to 1000 with n³/10^9 at most the quality. So it grows with the
-- quality, equal fractions have the same, and the score of the worst of a list is the smallest score.
use Prim.Native.Nat.{ℕ, zero, suc, ◌*◌, ◌^◌, ◌≤◌, ◌<◌}
use mathlib.Core.Bool.{Bool, true, false, cond, not}
use mathlib.Core.List.{List, Memᴰ}
use mathlib.Core.Option.{some}
use mathlib.Core.Path.{◌≡◌, refl, sym, ap}
use native.Mathlib.Decide.{dec_le}
use native.Mathlib.Nat.{le_trans, le_antisymm, mul-le-mul_right, pow-le-pow_left, mul-pos, one-le-pow}
use native.Mathlib.Omega.{arith}
use lib.Dec.{T, leb, leb→le, le→leb}
use Rattle.std.specs.Prelude.{Some}
use Rattle.exact.proofs.CrossProducts.{at_most_trans_ℕ}
use Rattle.lists.specs.Lists.{largest}
use Rattle.lists.proofs.Tests.{yes_is, no_is}
use Rattle.lists.proofs.Numbers.{largest_within, largest_passes, largest_above}
use Rattle.quality.specs.declared.Quality.{Quality}
use Rattle.quality.specs.Quality.{is_upright, worst, as_good}
use Rattle.score.specs.Score.{lowest_score, highest_score, score_factor, score_of, score, worst_score}
use Rattle.quality.proofs.QualityOrder.{Fraction, ◌⊑◌, from_as_good}
use Rattle.quality.proofs.WorstAndBest.{Fractions, worst_is_lem}
use Rattle.quality.proofs.SidesOfZero.{over, at_most_sides}

-- ---- the score of a size num / den

-- n³/10^9 is at most num / den
abbrev pub Reaches : ℕ → ℕ → ℕ → Type 0
Reaches num den n = n ^ 3 * den ≤ score_factor * num

abbrev pub reaches : ℕ → ℕ → ℕ → Bool
reaches num den n = leb (n ^ 3 * den) (score_factor * num)

abbrev pub score_of_size : ℕ → ℕ → ℕ
score_of_size num den = largest (reaches num den) highest_score

module _ (num den : ℕ) where
  pub size_score_within : score_of_size num den ≤ highest_score
  size_score_within = largest_within (reaches num den) highest_score

  -- it is reached
  pub size_score_reached : Reaches num den (score_of_size num den)
  size_score_reached =
      let s = score_of_size num den in
      leb→le (s ^ 3 * den) (score_factor * num)
      (largest_passes (reaches num den) highest_score (le→leb (0 ^ 3 * den) (score_factor * num) (omega arith)))

  -- and nothing larger is
  pub size_score_largest : (n : ℕ) → n ≤ highest_score → Reaches num den n → n ≤ score_of_size num den
  size_score_largest n l h =
      largest_above (reaches num den) highest_score n l (le→leb (n ^ 3 * den) (score_factor * num) h)

  -- what is smaller is reached too
  pub reaches_less : (m n : ℕ) → m ≤ n → Reaches num den n → Reaches num den m
  reaches_less m n l h = le_trans (mul-le-mul_right den (pow-le-pow_left l 3)) h

  -- so what is not reached is above
  pub size_score_below : (n : ℕ) → score_factor * num < n ^ 3 * den → score_of_size num den < n
  size_score_below n b = go (dec_le n (score_of_size num den))
    where
      go : Dec (n ≤ score_of_size num den) → score_of_size num den < n
      go (yes l) = absurd (omega (arith, reaches_less n (score_of_size num den) l size_score_reached))
      go (no l) = omega arith

-- the larger size has no smaller one
size_score_grows : (n1 d1 n2 d2 : ℕ) → 0 < d1 → n1 * d2 ≤ n2 * d1 → score_of_size n1 d1 ≤ score_of_size n2 d2
size_score_grows n1 d1 n2 d2 p h = size_score_largest n2 d2 s (size_score_within n1 d1) (omega (arith, on))
  where
    s : ℕ
    s = score_of_size n1 d1

    on : s ^ 3 * d2 ≤ n2 * score_factor
    on = at_most_trans_ℕ (s ^ 3) score_factor n1 d1 n2 d2 p (omega (arith, size_score_reached n1 d1)) h

-- of nothing it is the lowest
no_size_score : (den : ℕ) → 0 < den → score_of_size 0 den ≡ lowest_score
no_size_score den p = go (score_of_size 0 den) (size_score_reached 0 den)
  where
    go : (s : ℕ) → Reaches 0 den s → s ≡ 0
    go zero h = refl
    go (suc s) h = absurd (omega (arith, mul-pos (one-le-pow 3 (suc s) (omega arith)) p))

-- ---- the score of a quality

-- it is that of the size over 0
sized : (q : Quality) → Fraction q → score_of q ≡ score_of_size (over q) q.den
unfolding score_of
sized q f = go (is_upright q)
  where
    go : (b : Bool) → cond b (score_of_size q.num q.den) lowest_score ≡ score_of_size (cond b q.num 0) q.den
    go true = refl
    go false = sym (no_size_score q.den f.over)

module _ (q : Quality) where
  pub score_within : score_of q ≤ highest_score
  unfolding score_of
  score_within = go (is_upright q)
    where
      go : (b : Bool) → cond b (score_of_size q.num q.den) lowest_score ≤ highest_score
      go true = size_score_within q.num q.den
      go false = omega arith

  pub score_reached : T (is_upright q) → Reaches q.num q.den (score_of q)
  unfolding score_of
  score_reached u = rw (yes_is (is_upright q) u) (size_score_reached q.num q.den)

  pub score_largest : T (is_upright q) → (n : ℕ) → n ≤ highest_score → Reaches q.num q.den n → n ≤ score_of q
  unfolding score_of
  score_largest u n l h = rw (yes_is (is_upright q) u) (size_score_largest q.num q.den n l h)

  pub score_lowest : T (not (is_upright q)) → score_of q ≡ lowest_score
  unfolding score_of
  score_lowest u = rw (no_is (is_upright q) u)

-- the better quality has no lower score
pub score_grows : {q r : Quality} → Fraction q → Fraction r → q ⊑ r → score_of q ≤ score_of r
score_grows {q} {r} f g h =
    rw (sized q f, sized r g) (size_score_grows (over q) q.den (over r) r.den f.over (at_most_sides h).0)

pub score_same : (q r : Quality) → Fraction q → Fraction r → T (as_good q r) → score q ≡ score r
score_same q r f g h =
    let e = from_as_good q r h in
    ap (λ n. record { value = n }) (le_antisymm (score_grows f g e.up) (score_grows g f e.down))

-- the score of the worst of a list is the smallest score
pub worst_score_smallest :
    (qs : List Quality) {q : Quality}
    → Fractions qs
    → worst qs ≡ some q
    → (worst_score qs ≡ Some (score q)) × ((r : Quality) → Memᴰ r qs → score_of q ≤ score_of r)
unfolding worst_score
worst_score_smallest qs {q} f e =
    let w = worst_is_lem qs f e in
    (rw (e, worst_score), λ r m. score_grows (f q w.inside) (f r m) (w.bounds r m))
