-- For 1 ≤ n ≤ total the octave e is the one number with 2^e·n ≤ total < 2^(e+1)·n, as long as total is below 2^64·n: the
-- limit of the search does not bind. It never does for upright rows with a badness of 1 to 2^63.
use Prim.Native.Nat.{ℕ, suc, ◌+◌, ◌*◌, ◌^◌, ◌≤◌, ◌<◌}
use mathlib.Core.Bool.{Bool, true, false, cond}
use mathlib.Core.List.{List, [], ◌∷◌, Memᴰ}
use mathlib.Core.Path.{◌≡◌, refl, ap}
use native.Mathlib.Decide.{dec_le}
use native.Mathlib.Nat.{le_trans, mul-le-mul_left, mul-le-mul_right, pow-le-pow_right}
use native.Mathlib.Omega.{arith}
use lib.Dec.{T, leb, leb→le, le→leb}
use borrow.Author.Tests.{eq-eqb, ne_eqb}
use lib.ListN.{length}
use Rattle.std.specs.Prelude.{None, Some}
use Rattle.lists.specs.Lists.{count, those}
use Rattle.lists.proofs.Tests.{is_yes, is_no}
use Rattle.lists.proofs.Numbers.{largest_within, largest_passes, largest_above, largest_over}
use Rattle.quality.specs.declared.Quality.{Quality}
use Rattle.quality.specs.Quality.{is_upright}
use Rattle.score.specs.Score.{badness, added, total_badness, octave_limit, octave_of, octave}
use Rattle.quality.proofs.ConsistentQualities.{Consistent, upright_size}
use Rattle.score.proofs.BadnessLeast.{badness_other, badness_over}

-- 2^e·n is at most the total
abbrev pub doubles : ℕ → ℕ → ℕ → Bool
doubles n total e = leb (2 ^ e * n) total

module _ (n total : ℕ) where
  pub octave_within : octave_of n total ≤ octave_limit
  unfolding octave_of
  octave_within = largest_within (doubles n total) octave_limit

  pub octave_reached : n ≤ total → 2 ^ octave_of n total * n ≤ total
  unfolding octave_of
  octave_reached h =
      leb→le (2 ^ octave_of n total * n) total
      (largest_passes (doubles n total) octave_limit (le→leb (2 ^ 0 * n) total (omega arith)))

  pub octave_largest : (e : ℕ) → e ≤ octave_limit → 2 ^ e * n ≤ total → e ≤ octave_of n total
  unfolding octave_of
  octave_largest e l h = largest_above (doubles n total) octave_limit e l (le→leb (2 ^ e * n) total h)

  -- a smaller e is reached too
  pub doubled_less : {d e : ℕ} → d ≤ e → 2 ^ e * n ≤ total → 2 ^ d * n ≤ total
  doubled_less l h = le_trans (mul-le-mul_right n (pow-le-pow_right (omega arith) l)) h

  -- what is not reached is above
  pub octave_below : (e : ℕ) → total < 2 ^ suc e * n → octave_of n total ≤ e
  unfolding octave_of
  octave_below e b = go (dec_le o e)
    where
      o : ℕ
      o = octave_of n total

      go : Dec (o ≤ e) → o ≤ e
      go (yes l) = l
      go (no l) =
          let over : 0 < o = omega arith in
          let reached = leb→le (2 ^ o * n) total (largest_over (doubles n total) octave_limit over) in
          absurd (omega (arith, doubled_less {d = suc e} {e = o} (omega arith) reached))

  -- the limit does not bind: of all e the octave is the largest
  pub octave_largest_of_all : total < 2 ^ suc octave_limit * n → (e : ℕ) → 2 ^ e * n ≤ total → e ≤ octave_of n total
  octave_largest_of_all b e h = go (dec_le e octave_limit)
    where
      go : Dec (e ≤ octave_limit) → e ≤ octave_of n total
      go (yes l) = octave_largest e l h
      go (no l) = absurd (omega (arith, doubled_less {d = suc octave_limit} (omega arith) h))

  pub octave_next : total < 2 ^ suc octave_limit * n → total < 2 ^ suc (octave_of n total) * n
  octave_next b = go (dec_le (2 ^ suc e * n) total)
    where
      e : ℕ
      e = octave_of n total

      go : Dec (2 ^ suc e * n ≤ total) → total < 2 ^ suc e * n
      go (yes h) = absurd (omega (arith, octave_largest_of_all b (suc e) h))
      go (no h) = omega arith

-- ---- the octave of some rows

-- each is consistent, and adds the bound at most
pub record Rows (bound : ℕ) (qs : List Quality) : Type 0 where
  pub consistent : (q : Quality) → Memᴰ q qs → Consistent q
  pub bounded : (q : Quality) → Memᴰ q qs → added (badness q) ≤ bound

rest : {bound : ℕ} {q : Quality} {qs : List Quality} → Rows bound (q ∷ qs) → Rows bound qs
rest rows = record { consistent = λ r m. rows.consistent r (Memᴰ.tail m); bounded = λ r m. rows.bounded r (Memᴰ.tail m) }

-- the upright rows add 1 each at least, and the bound at most
pub total_bounds :
    (bound : ℕ) (qs : List Quality)
    → Rows bound qs
    → (count is_upright qs ≤ total_badness qs) × (total_badness qs ≤ count is_upright qs * bound)
unfolding total_badness those
total_bounds bound [] rows = (omega arith, omega arith)
total_bounds bound (q ∷ qs) rows = go (is_upright q) refl (total_bounds bound qs (rest rows))
  where
    n : ℕ
    n = count is_upright qs

    total : ℕ
    total = total_badness qs

    p : Consistent q
    p = rows.consistent q (Memᴰ.head refl)

    go :
        (b : Bool)
        → is_upright q ≡ b
        → (n ≤ total) × (total ≤ n * bound)
        → (length (cond b (q ∷ those is_upright qs) (those is_upright qs)) ≤ added (badness q) + total)
        × (added (badness q) + total ≤ length (cond b (q ∷ those is_upright qs) (those is_upright qs)) * bound)
    go true e bounds =
        let u : T (is_upright q) = is_yes (is_upright q) e in
        let size : 0 < q.num = upright_size q p u in
        let low = badness_over q u size p.fraction.over in
        let high = rows.bounded q (Memᴰ.head refl) in
        (omega arith, omega arith)
    go false e bounds =
        let none : added (badness q) ≡ 0 = ap added (badness_other q (is_no (is_upright q) e)) in
        (omega arith, omega arith)

-- e is the octave of some rows: the largest e at all with 2^e·n ≤ the sum
pub record OctaveIs (qs : List Quality) (e : ℕ) : Type 0 where
  pub mark : octave qs ≡ Some e
  pub reached : 2 ^ e * count is_upright qs ≤ total_badness qs
  pub next : total_badness qs < 2 ^ suc e * count is_upright qs
  pub largest : (k : ℕ) → 2 ^ k * count is_upright qs ≤ total_badness qs → k ≤ e

pub octave_of_rows :
    (bound : ℕ) (qs : List Quality)
    → bound ≤ 2 ^ octave_limit
    → Rows bound qs
    → 0 < count is_upright qs
    → OctaveIs qs (octave_of (count is_upright qs) (total_badness qs))
unfolding octave
octave_of_rows bound qs small rows some-upright =
    record {
      mark = simp (ne_eqb n 0 (λ z. omega arith));
      reached = octave_reached n total bounds.0;
      next = octave_next n total under;
      largest = octave_largest_of_all n total under;
    }
  where
    n : ℕ
    n = count is_upright qs

    total : ℕ
    total = total_badness qs

    bounds : (n ≤ total) × (total ≤ n * bound)
    bounds = total_bounds bound qs rows

    under : total < 2 ^ suc octave_limit * n
    under = omega (arith, bounds.1, mul-le-mul_left n small)

-- with no upright row there is a mark
pub octave_of_none : (qs : List Quality) → count is_upright qs ≡ 0 → octave qs ≡ None
unfolding octave
octave_of_none qs z = simp (eq-eqb (count is_upright qs) 0 z)
