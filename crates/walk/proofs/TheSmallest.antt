-- The smallest of some numbers: it is one of them, none is below it, and it depends on what stands among them alone.
use Prim.Native.Nat.{ℕ, ◌≤◌, ◌<◌, min}
use mathlib.Core.List.Memᴰ
use mathlib.Core.List.{List, [], ◌∷◌, foldr, Memᴰ}
use mathlib.Core.Path.{◌≡◌, refl, sym, ◌∙◌}
use native.Mathlib.Decide.{dec_le}
use native.Mathlib.Omega.{arith}
use lib.ListN.{length}
use Rattle.lists.proofs.Places.{in_cases, in_length}
use Rattle.std.specs.List.{fold, reduce}
use Rattle.std.proofs.Common.{Some}
use Rattle.walk.specs.Walk.{smallest}

least_in : (n : ℕ) (ns : List ℕ) → Memᴰ (foldr min n ns) (n ∷ ns)
least_in n [] = Memᴰ.head refl
least_in n (k ∷ ks) = go (dec_le k (foldr min n ks)) (least_in n ks)
  where
    go : Dec (k ≤ foldr min n ks) → Memᴰ (foldr min n ks) (n ∷ ks) → Memᴰ (min k (foldr min n ks)) (n ∷ k ∷ ks)
    go (yes h) m = let e : min k (foldr min n ks) ≡ k = omega arith in Memᴰ.tail (Memᴰ.head e)
    go (no h) m =
        let e : min k (foldr min n ks) ≡ foldr min n ks = omega arith in
        rw e (in_cases m (λ q. Memᴰ.head q) (λ m. Memᴰ.tail (Memᴰ.tail m)))

least_le : (n : ℕ) (ns : List ℕ) {x : ℕ} → Memᴰ x (n ∷ ns) → foldr min n ns ≤ x
least_le n [] m = in_cases m (λ e. omega arith) (λ k. absurd (Memᴰ.not-nil k))
least_le n (k ∷ ks) {x} m =
    in_cases m (λ e. let r = least_le n ks (Memᴰ.head e) in omega arith)
    λ m. in_cases m (λ e. omega arith) (λ m. let r = least_le n ks (Memᴰ.tail m) in omega arith)

-- it is one of them, if there are any
pub smallest_in : (ns : List ℕ) → 0 < length ns → Memᴰ (smallest ns) ns
unfolding smallest
smallest_in [] h = absurd (omega arith)
smallest_in (n ∷ ns) h = least_in n ns

pub smallest_le : (ns : List ℕ) {n : ℕ} → Memᴰ n ns → smallest ns ≤ n
unfolding smallest
smallest_le [] m = absurd (Memᴰ.not-nil m)
smallest_le (n ∷ ns) m = least_le n ns m

-- the one of them that none is below
pub smallest_is : (ns : List ℕ) (n : ℕ) → Memᴰ n ns → ((k : ℕ) → Memᴰ k ns → n ≤ k) → n ≡ smallest ns
smallest_is ns n m f =
    let low = smallest_le ns m in
    let high = f (smallest ns) (smallest_in ns (in_length ns m)) in
    omega arith

smallest_none : (ns : List ℕ) → ((n : ℕ) → Memᴰ n ns → Memᴰ n []) → smallest ns ≡ smallest []
smallest_none [] nothing = refl
smallest_none (n ∷ ns) nothing = absurd (Memᴰ.not-nil (nothing n (Memᴰ.head refl)))

-- it depends on what stands among them alone
pub smallest_same : (ns ms : List ℕ) → ((n : ℕ) → Memᴰ n ns → Memᴰ n ms) → ((n : ℕ) → Memᴰ n ms → Memᴰ n ns)
    → smallest ns ≡ smallest ms
smallest_same [] ms to from = sym (smallest_none ms from)
smallest_same (n ∷ ns) ms to from =
    smallest_is ms (smallest (n ∷ ns)) (to _ (smallest_in (n ∷ ns) (omega arith))) (λ k i. smallest_le (n ∷ ns) (from k i))

-- std's word for it goes from the front
fold_least : (n : ℕ) (ns : List ℕ) → fold min n ns ≡ foldr min n ns
fold_least n [] = refl
fold_least n (k ∷ ks) = fold_least (min n k) ks ∙ into n k ks
  where
    into : (n k : ℕ) (ks : List ℕ) → foldr min (min n k) ks ≡ min k (foldr min n ks)
    into n k [] = omega arith
    into n k (j ∷ js) = rw (into n k js) (omega arith)

pub smallest_reduced : (ns : List ℕ) (n : ℕ) → Some n ≡ reduce min ns → n ≡ smallest ns
unfolding smallest
smallest_reduced [] n e = cc
smallest_reduced (k ∷ ks) n e = let first : n ≡ fold min k ks = cc in first ∙ fold_least k ks
