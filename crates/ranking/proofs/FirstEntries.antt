-- Growth by first entries: they decide, or they are one fraction and the rest grows. So no list grows to itself, growth goes on from patch to
-- patch, and of two patches with the same qualities in another order neither list grows to the other.
use Prim.Native.Nat.{ℕ, zero, suc, ◌≤◌, ◌<◌}
use mathlib.Core.Bool.{Bool}
use mathlib.Core.List.Memᴰ
use mathlib.Core.List.{List, [], ◌∷◌}
use mathlib.Core.Path.{◌≡◌, refl, ap}
use native.Mathlib.Omega.{arith}
use lib.Dec.{T, T_not}
use lib.ListN.{length}
use Rattle.lists.specs.Lists.{count}
use Rattle.lists.proofs.Tests.{same_test}
use Rattle.lists.proofs.Places.{in_cases}
use Rattle.lists.proofs.Counts.{ind, count_cons}
use Rattle.quality.specs.declared.Quality.{Quality}
use Rattle.quality.specs.Quality.{worse, as_good}
use Rattle.quality.proofs.QualityOrder.{Fraction, ◌⊏◌, ◌≈◌, at_most_self, at_most_trans, worse_is_at_most, worse_at_most_trans}
use Rattle.quality.proofs.QualityOrder.{at_most_worse_trans, as_good_lem, from_as_good, worse_never_self}
use Rattle.quality.proofs.WorstAndBest.{Fractions}
use Rattle.layout.specs.Layout.{Patch}
use Rattle.tally.specs.Tally.{qualities}
use Rattle.ranking.specs.Ranking.{worst_first, sorted, entry, Grows}
use Rattle.ranking.proofs.WorstToBest.{ranked_count, sorted_head, sorted_tail, no_better_than, up_to}
use Rattle.ranking.proofs.WorstToBest.{behind_first, self_up_to, none_up_to, list_fractions, patch_sorted}

pub never_grows_self : (xs : List Quality) → Grows xs xs → ⊥
never_grows_self xs g =
    let x = entry xs g.place in
    T_not (worse x x) (worse_never_self x) g.better

-- ---- by first entries

-- the first entries decide, or they are one fraction and the rest grows
pub data Climbs : List Quality → List Quality → Type 0 where
  here : {x y : Quality} {xs ys : List Quality} → x ⊏ y → Climbs (x ∷ xs) (y ∷ ys)
  later : {x y : Quality} {xs ys : List Quality} → x ≈ y → Climbs xs ys → Climbs (x ∷ xs) (y ∷ ys)

pub grows : {xs ys : List Quality} → Climbs xs ys → Grows xs ys
grows (here h) = record {
  place = 0;
  in_old = omega arith;
  in_new = omega arith;
  before = λ i l. absurd (omega arith);
  better = h.worse;
}
grows (later {x} {y} {xs} {ys} h c) =
    let g = grows c in
    record {
      place = suc g.place;
      in_old = omega (arith, g.in_old);
      in_new = omega (arith, g.in_new);
      before = at g;
      better = g.better;
    }
  where
    at : (g : Grows xs ys) (i : ℕ) → i < suc g.place → T (as_good (entry (x ∷ xs) i) (entry (y ∷ ys) i))
    at g zero l = as_good_lem h
    at g (suc i) l = g.before i (omega arith)

pub climbs : (xs ys : List Quality) → Grows xs ys → Climbs xs ys
climbs xs ys g = go xs ys g.place g.in_old g.in_new g.before g.better
  where
    go : (xs ys : List Quality) (n : ℕ) → n < length xs → n < length ys
        → ((i : ℕ) → i < n → T (as_good (entry xs i) (entry ys i))) → T (worse (entry xs n) (entry ys n)) → Climbs xs ys
    go [] ys n a b h k = absurd (omega arith)
    go (x ∷ xs) [] n a b h k = absurd (omega arith)
    go (x ∷ xs) (y ∷ ys) zero a b h k = here (record { worse = k })
    go (x ∷ xs) (y ∷ ys) (suc n) a b h k =
        later (from_as_good x y (h 0 (omega arith))) (go xs ys n (omega arith) (omega arith) (λ i l. h (suc i) (omega arith)) k)

-- ---- growth goes on

climbs_on : {xs ys zs : List Quality} → Fractions xs → Fractions ys → Fractions zs → Climbs xs ys → Climbs ys zs → Climbs xs zs
climbs_on fx fy fz (here h) (here {y = z} k) = here (worse_at_most_trans (fz z (Memᴰ.head refl)) h (worse_is_at_most k))
climbs_on fx fy fz (here h) (later {y = z} k d) = here (worse_at_most_trans (fz z (Memᴰ.head refl)) h k.up)
climbs_on fx fy fz (later {x = x} h c) (here k) = here (at_most_worse_trans (fx x (Memᴰ.head refl)) h.up k)
climbs_on fx fy fz (later {y = y} h c) (later k d) =
    let mid = fy y (Memᴰ.head refl) in
    later (record { up = at_most_trans mid h.up k.up; down = at_most_trans mid k.down h.down })
    (climbs_on (behind_first fx) (behind_first fy) (behind_first fz) c d)

-- from a patch to a second, and from that to a third
pub grows_on : (a b c : Patch) → Grows (worst_first a) (worst_first b) → Grows (worst_first b) (worst_first c) → Grows (worst_first a) (worst_first c)
grows_on a b c g h =
    grows
    (climbs_on (list_fractions a) (list_fractions b) (list_fractions c)
    (climbs (worst_first a) (worst_first b) g) (climbs (worst_first b) (worst_first c) h))

-- ---- other qualities

-- of two that are one fraction, both are no better than q or none is
pub one_count : {x y : Quality} → Fraction x → Fraction y → x ≈ y → (q : Quality) → ind (no_better_than q x) ≡ ind (no_better_than q y)
one_count {x} {y} fx fy e q =
    ap ind (same_test (no_better_than q x) (no_better_than q y)
    (λ k. (at_most_trans fx e.down (record { not_worse = k })).not_worse)
    (λ k. (at_most_trans fy e.up (record { not_worse = k })).not_worse))

-- where a sorted list grows, there is a quality that fewer of the new ones are no better than
fewer : {xs ys : List Quality} → Fractions xs → Fractions ys → T (sorted xs) → T (sorted ys) → Climbs xs ys
    → (q : Quality) × (up_to q ys < up_to q xs)
fewer fx fy sx sy (here {x = x} {y = y} {xs = xs} {ys = ys} h) =
    let over : up_to x (y ∷ ys) ≡ 0 = none_up_to x (y ∷ ys) (λ r m.
    worse_at_most_trans (fy r m) h (in_cases m (λ e. rw e (at_most_self y)) (sorted_head y ys sy r))) in
    let own : 1 ≤ up_to x (x ∷ xs) = self_up_to x (x ∷ xs) (Memᴰ.head refl) in
    (x, omega (arith, over, own))
fewer fx fy sx sy (later {x = x} {y = y} {xs = xs} {ys = ys} h c) =
    let (q, less) = fewer (behind_first fx) (behind_first fy) (sorted_tail x xs sx) (sorted_tail y ys sy) c in
    let both = one_count (fx x (Memᴰ.head refl)) (fy y (Memᴰ.head refl)) h q in
    (q, omega (arith, less, both, count_cons (no_better_than q) x xs, count_cons (no_better_than q) y ys))

-- of patches with the same qualities, in whatever order of the rows, neither list grows to the other
pub same_never_grow : (old new : Patch) → ((p : Quality → Bool) → count p (qualities old) ≡ count p (qualities new))
    → Grows (worst_first old) (worst_first new) → ⊥
same_never_grow old new same g =
    let (q, less) = fewer (list_fractions old) (list_fractions new) (patch_sorted old) (patch_sorted new)
    (climbs (worst_first old) (worst_first new) g) in
    let p = no_better_than q in
    omega (arith, less, ranked_count p (qualities old), ranked_count p (qualities new), same p)
