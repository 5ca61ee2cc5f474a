-- The list from worst to best has the qualities it was made of, each as often, and none is worse than one before it: by the step that puts
-- one more in. So where some quality of it is no better than q, its first is.
use Prim.Native.Nat.{ℕ, ◌+◌, ◌≤◌}
use mathlib.Core.Bool.{Bool, true, false, cond, not}
use mathlib.Core.List.Memᴰ
use mathlib.Core.List.{List, [], ◌∷◌, Memᴰ}
use mathlib.Core.Path.{◌≡◌, refl, ap, ◌∙◌}
use native.Mathlib.Omega.{arith}
use lib.Dec.{T}
use lib.ListN.{length}
use Rattle.lists.specs.Lists.{every, count}
use Rattle.lists.proofs.Tests.{and_l, and_r, and_i, is_yes, is_no}
use Rattle.lists.proofs.Places.{in_cases}
use Rattle.lists.proofs.Lists.{every_at, every_i, any_e, not_any, those_all}
use Rattle.lists.proofs.Counts.{ind, count_cons, count_map, count_member, count_none, some_counted}
use Rattle.quality.specs.declared.Quality.{Quality}
use Rattle.quality.specs.Quality.{worse}
use Rattle.quality.proofs.QualityOrder.{◌⊏◌, ◌⊑◌, at_most_self, at_most_trans, worse_is_at_most, worse_never_self}
use Rattle.quality.proofs.WorstAndBest.{Fractions}
use Rattle.rows.specs.RowMeasure.{row_quality}
use Rattle.rows.proofs.ProperRows.{rows_fractions}
use Rattle.layout.specs.Layout.{Patch}
use Rattle.tally.specs.Tally.{qualities}
use Rattle.ranking.specs.Ranking.{behind, put, from_worst, worst_first, sorted}

-- behind the first
pub behind_first : {q : Quality} {qs : List Quality} → Fractions (q ∷ qs) → Fractions qs
behind_first f r m = f r (Memᴰ.tail m)

-- ---- the same qualities

put_count : (p : Quality → Bool) (q : Quality) (rs : List Quality) → count p (put q rs) ≡ ind (p q) + count p rs
unfolding put
put_count p q [] = count_cons p q []
put_count p q (r ∷ rs) = go (behind q r) (put_count p q rs)
  where
    go : (b : Bool) → count p (put q rs) ≡ ind (p q) + count p rs
        → count p (cond b (r ∷ put q rs) (q ∷ r ∷ rs)) ≡ ind (p q) + count p (r ∷ rs)
    go true e = omega (arith, count_cons p r (put q rs), count_cons p r rs)
    go false e = count_cons p q (r ∷ rs)

-- whatever is counted, there are as many
pub ranked_count : (p : Quality → Bool) (qs : List Quality) → count p (from_worst qs) ≡ count p qs
unfolding from_worst
ranked_count p [] = refl
ranked_count p (q ∷ qs) = omega (arith, put_count p q (from_worst qs), count_cons p q qs, ranked_count p qs)

pub ranked_length : (qs : List Quality) → length (from_worst qs) ≡ length qs
ranked_length qs = omega (arith, all (from_worst qs), all qs, ranked_count (λ q. true) qs)
  where
    all : (xs : List Quality) → count (λ q. true) xs ≡ length xs
    all xs = ap length (those_all (λ q. true) xs (every_i (λ q. true) xs (λ x m. tt)))

-- a quality of the list with q put in is q or one of the list
put_e : {P : Type 0} (q : Quality) (rs : List Quality) {x : Quality} → Memᴰ x (put q rs) → (x ≡ q → P) → (Memᴰ x rs → P) → P
unfolding put
put_e q [] m f g = in_cases m f g
put_e {P} q (r ∷ rs) {x} m f g = go (behind q r) (λ k. put_e q rs k f (λ n. g (Memᴰ.tail n))) m
  where
    go : (b : Bool) → (Memᴰ x (put q rs) → P) → Memᴰ x (cond b (r ∷ put q rs) (q ∷ r ∷ rs)) → P
    go true below m = in_cases m (λ e. g (Memᴰ.head e)) below
    go false below m = in_cases m f g

pub ranked_in : (qs : List Quality) {x : Quality} → Memᴰ x (from_worst qs) → Memᴰ x qs
unfolding from_worst
ranked_in [] m = m
ranked_in (q ∷ qs) m = put_e q (from_worst qs) m Memᴰ.head (λ k. Memᴰ.tail (ranked_in qs k))

pub ranked_fractions : (qs : List Quality) → Fractions qs → Fractions (from_worst qs)
ranked_fractions qs f q m = f q (ranked_in qs m)

-- ---- sorted

sorted_i : (q : Quality) (qs : List Quality) → ((r : Quality) → Memᴰ r qs → q ⊑ r) → T (sorted qs) → T (sorted (q ∷ qs))
unfolding sorted
sorted_i q qs h k = and_i (every (λ r. not (worse r q)) qs) (sorted qs) (every_i (λ r. not (worse r q)) qs (λ r m. (h r m).not_worse)) k

pub sorted_head : (q : Quality) (qs : List Quality) → T (sorted (q ∷ qs)) → (r : Quality) → Memᴰ r qs → q ⊑ r
unfolding sorted
sorted_head q qs h r m =
    record { not_worse = every_at (λ r. not (worse r q)) qs (and_l (every (λ r. not (worse r q)) qs) (sorted qs) h) m }

pub sorted_tail : (q : Quality) (qs : List Quality) → T (sorted (q ∷ qs)) → T (sorted qs)
unfolding sorted
sorted_tail q qs h = and_r (every (λ r. not (worse r q)) qs) (sorted qs) h

put_sorted : (q : Quality) (rs : List Quality) → Fractions rs → T (sorted rs) → T (sorted (put q rs))
unfolding put
put_sorted q [] f h = sorted_i q [] (λ r m. absurd (Memᴰ.not-nil m)) h
put_sorted q (r ∷ rs) f h = go (behind q r) refl (put_sorted q rs (behind_first f) (sorted_tail r rs h))
  where
    go : (b : Bool) → behind q r ≡ b → T (sorted (put q rs)) → T (sorted (cond b (r ∷ put q rs) (q ∷ r ∷ rs)))
    go true e k =
        let low : r ⊑ q = worse_is_at_most (record { worse = is_yes (behind q r) e }) in
        sorted_i r (put q rs) (λ x m. put_e q rs m (λ s. rw s low) (sorted_head r rs h x)) k
    go false e k =
        let low : q ⊑ r = record { not_worse = is_no (behind q r) e } in
        sorted_i q (r ∷ rs)
        (λ x m. in_cases m (λ s. rw s low) (λ n. at_most_trans (f r (Memᴰ.head refl)) low (sorted_head r rs h x n))) h

pub ranked_sorted : (qs : List Quality) → Fractions qs → T (sorted (from_worst qs))
unfolding from_worst sorted
ranked_sorted [] f = tt
ranked_sorted (q ∷ qs) f = put_sorted q (from_worst qs) (ranked_fractions qs (behind_first f)) (ranked_sorted qs (behind_first f))

-- ---- the first of a sorted list

-- r is no better than q
abbrev pub no_better_than : Quality → Quality → Bool
no_better_than q r = not (worse q r)

-- how many are
abbrev pub up_to : Quality → List Quality → ℕ
up_to q qs = count (no_better_than q) qs

-- q itself is
pub self_up_to : (q : Quality) (qs : List Quality) → Memᴰ q qs → 1 ≤ up_to q qs
self_up_to q qs m = count_member (no_better_than q) qs m (worse_never_self q)

-- none, where each is better
pub none_up_to : (q : Quality) (qs : List Quality) → ((r : Quality) → Memᴰ r qs → q ⊏ r) → up_to q qs ≡ 0
none_up_to q qs over =
    count_none (no_better_than q) qs
    (not_any (no_better_than q) qs (every_i (λ r. not (not (worse q r))) qs (λ r m. twice (worse q r) (over r m).worse)))
  where
    twice : (b : Bool) → T b → T (not (not b))
    twice true h = tt
    twice false h = absurd h

-- where some is no better than q, the first is
pub lowest : (q x : Quality) (xs : List Quality) → Fractions (x ∷ xs) → T (sorted (x ∷ xs)) → 1 ≤ up_to q (x ∷ xs) → x ⊑ q
lowest q x xs f h some =
    let (r, m, low) = any_e (no_better_than q) (x ∷ xs) (some_counted (no_better_than q) (x ∷ xs) some) in
    let below : r ⊑ q = record { not_worse = low } in
    at_most_trans (f r m) (in_cases m (λ e. rw e (at_most_self x)) (sorted_head x xs h r)) below

-- ---- the list of a patch

module _ (patch : Patch) where
  pub patch_fractions : Fractions (qualities patch)
  patch_fractions = rows_fractions patch.points patch.rows

  pub list_fractions : Fractions (worst_first patch)
  list_fractions = ranked_fractions (qualities patch) patch_fractions

  pub patch_sorted : T (sorted (worst_first patch))
  patch_sorted = ranked_sorted (qualities patch) patch_fractions

  -- each quality stands there as often as rows have it
  pub patch_count : (p : Quality → Bool) → count p (worst_first patch) ≡ count (λ row. p (row_quality patch.points row)) patch.rows
  patch_count p = ranked_count p (qualities patch) ∙ count_map p (row_quality patch.points) patch.rows
