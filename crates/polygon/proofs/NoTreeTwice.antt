-- The list of all trees of a span has each of them once. A cut tree is found where the list cuts at the span of its left part, and
-- nowhere else; there it stands as often as its left part among the left parts times its right part among the right ones.
use Prim.Native.Nat.{ℕ, zero, suc, ◌+◌, ◌-◌, ◌*◌, ◌≤◌, ◌<◌}
use mathlib.Core.Bool.{Bool, true, false, cond, ◌&&◌}
use mathlib.Core.List.{List, [], ◌∷◌, map, flat_map, Memᴰ}
use mathlib.Core.Path.{◌≡◌, refl, sym, ap, ap₂, ◌∙◌}
use native.Mathlib.Decide.{ℕ_discrete}
use native.Mathlib.Nat.{zero-mul, one-mul, add-mul}
use native.Mathlib.Omega.{arith}
use lib.Dec.{T, leb, leb→le, eqb, eqb→eq, eqb_refl}
use lib.ListN.{length, get_or}
use Rattle.lists.specs.Lists.{those, count, numbers_from}
use Rattle.triangulation.specs.Triangulation.{Tri, side, cut, span, ways_within, ways}
use Rattle.lists.proofs.Tests.{and_l, and_r, and_i, is_yes, eq_test}
use Rattle.lists.proofs.Numbers.{numbers_e}
use Rattle.lists.proofs.Counts.{ind, ind_yes, ind_no, count_cons, count_append, count_map, count_two}
use Rattle.triangulation.proofs.AllWays.{cuts_at, span_over, ways_span, ways_within_lem}
use Rattle.polygon.proofs.SameTriangles.{nothing, none}
use Rattle.polygon.proofs.Apart.{by_order}

-- ---- counting

-- among the lists of all elements, where each element that passes brings n and each other brings none
count_flat_map : {A B : Type 0} (p : B → Bool) (f : A → List B) (q : A → Bool) (n : ℕ) (xs : List A)
    → ((x : A) → Memᴰ x xs → count p (f x) ≡ ind (q x) * n)
    → count p (flat_map f xs) ≡ count q xs * n
unfolding those flat_map
count_flat_map p f q n [] h = sym (zero-mul n)
count_flat_map p f q n (x ∷ xs) h =
    count_append p (f x) (flat_map f xs)
    ∙ ap₂ ◌+◌ (h x (Memᴰ.head refl)) (count_flat_map p f q n xs (λ y m. h y (Memᴰ.tail m)))
    ∙ sym (add-mul (ind (q x)) (count q xs) n)
    ∙ ap (λ c. c * n) (sym (count_cons q x xs))

-- with a test beside it that does not look at the element
count_beside : {A : Type 0} (b : Bool) (q : A → Bool) (xs : List A) → count (λ x. b && q x) xs ≡ ind b * count q xs
count_beside true q xs = sym (one-mul (count q xs))
count_beside false q xs = none (λ x. false) xs (λ x m h. h) ∙ sym (zero-mul (count q xs))

-- a number stands once among the numbers from i on
number_once : (i n k : ℕ) → i ≤ k → k < i + n → count (eqb k) (numbers_from i n) ≡ 1
unfolding numbers_from
number_once i zero k h l = absurd (omega arith)
number_once i (suc n) k h l = count_cons (eqb k) i (numbers_from (suc i) n) ∙ go (ℕ_discrete k i) (number_once (suc i) n k)
  where
    go : Dec (k ≡ i) → (suc i ≤ k → k < suc i + n → count (eqb k) (numbers_from (suc i) n) ≡ 1)
        → ind (eqb k i) + count (eqb k) (numbers_from (suc i) n) ≡ 1
    go (yes e) below =
        let later = none (eqb k) (numbers_from (suc i) n) (λ x m t. omega (arith, numbers_e (suc i) n m, eqb→eq k x t)) in
        omega (arith, ind_yes (eqb k i) (eq_test k i e))
    go (no c) below = omega (arith, ind_no (eqb k i) (λ t. c (eqb→eq k i t)), below (omega arith) (omega arith))

-- ---- the same tree, as a test

unfoldable pub same_tree : Tri → Tri → Bool
same_tree side side = true
same_tree side (cut l r) = false
same_tree (cut l r) side = false
same_tree (cut l r) (cut s t) = same_tree l s && same_tree r t

pub same_tree_i : (t : Tri) → T (same_tree t t)
unfolding same_tree
same_tree_i side = tt
same_tree_i (cut l r) = and_i (same_tree l l) (same_tree r r) (same_tree_i l) (same_tree_i r)

pub same_tree_e : (t u : Tri) → T (same_tree t u) → t ≡ u
unfolding same_tree
same_tree_e side side h = refl
same_tree_e side (cut l r) h = absurd h
same_tree_e (cut l r) side h = absurd h
same_tree_e (cut l r) (cut s t) h =
    ap₂ cut (same_tree_e l s (and_l (same_tree l s) (same_tree r t) h)) (same_tree_e r t (and_r (same_tree l s) (same_tree r t) h))

-- ---- each tree once

-- a tree does not stand in the list of another span
elsewhere : (t : Tri) (n : ℕ) → (span t ≡ n → ⊥) → count (same_tree t) (ways n) ≡ 0
unfolding ways_within
elsewhere t zero f = nothing (same_tree t)
elsewhere t (suc n) f =
    none (same_tree t) (ways (suc n)) (λ u m s. f (ap span (same_tree_e t u s) ∙ ways_span (suc n) (omega arith) m))

-- a cut tree among the trees put together of some left and some right parts
put_together : (l r : Tri) (ls rs : List Tri)
    → count (same_tree (cut l r)) (flat_map (λ s. map (cut s) rs) ls) ≡ count (same_tree l) ls * count (same_tree r) rs
unfolding same_tree
put_together l r ls rs =
    count_flat_map (same_tree (cut l r)) (λ s. map (cut s) rs) (same_tree l) (count (same_tree r) rs) ls
    (λ s m. count_map (same_tree (cut l r)) (cut s) rs ∙ count_beside (same_tree l s) (same_tree r) rs)

-- a cut tree whose parts stand once among those ways
module _ (depth : ℕ) (l r : Tri) (within : span l + span r ≤ suc depth)
    (left : count (same_tree l) (ways_within depth (span l)) ≡ 1) (right : count (same_tree r) (ways_within depth (span r)) ≡ 1) where
  -- it stands among the trees with its left span, and among no others
  at : (k : ℕ) → 1 ≤ k → k < span l + span r → count (same_tree (cut l r)) (cuts_at depth (span l + span r) k) ≡ ind (eqb (span l) k) * 1
  at k low high =
      put_together l r (ways_within depth k) (ways_within depth (span l + span r - k)) ∙ go (ℕ_discrete (span l) k)
    where
      go : Dec (span l ≡ k)
          → count (same_tree l) (ways_within depth k) * count (same_tree r) (ways_within depth (span l + span r - k))
          ≡ ind (eqb (span l) k) * 1
      go (yes e) =
          let rest : span l + span r - k ≡ span r = omega arith in
          rw (rest, ← e, left, right, ind_yes (eqb (span l) (span l)) (eqb_refl (span l)))
      go (no c) =
          rw (ways_within_lem depth k low (omega arith), elsewhere l k c, ind_no (eqb (span l) k) (λ t. c (eqb→eq (span l) k t)))
          (zero-mul _)

  cut_once : count (same_tree (cut l r)) (flat_map (cuts_at depth (span l + span r)) (numbers_from 1 (span l + span r - 1))) ≡ 1
  cut_once =
      let n = span l + span r in
      count_flat_map (same_tree (cut l r)) (cuts_at depth n) (eqb (span l)) 1 (numbers_from 1 (n - 1))
      (λ k m. let range = numbers_e 1 (n - 1) m in at k range.0 (omega (arith, range.1)))
      ∙ ap (λ c. c * 1) (number_once 1 (n - 1) (span l) (span_over l) (omega (arith, span_over r)))

-- by the depth
once_within : (depth : ℕ) (t : Tri) → span t ≤ depth → count (same_tree t) (ways_within depth (span t)) ≡ 1
unfolding ways_within span same_tree those
once_within zero t h = absurd (omega (arith, span_over t))
once_within (suc depth) side h = refl
once_within (suc depth) (cut l r) h =
    let over_left = span_over l in
    let over_right = span_over r in
    go (leb (span l + span r) 1) refl (once_within depth l (omega arith)) (once_within depth r (omega arith))
  where
    go : (b : Bool)
        → leb (span l + span r) 1 ≡ b
        → count (same_tree l) (ways_within depth (span l)) ≡ 1
        → count (same_tree r) (ways_within depth (span r)) ≡ 1
        → count (same_tree (cut l r))
        (cond b (side ∷ []) (flat_map (cuts_at depth (span l + span r)) (numbers_from 1 (span l + span r - 1)))) ≡ 1
    go true e left right =
        let small = leb→le (span l + span r) 1 (is_yes (leb (span l + span r) 1) e) in
        absurd (omega (arith, span_over l, span_over r))
    go false e left right = cut_once depth l r h left right

-- a tree stands once in the list of its span
pub once : (t : Tri) → count (same_tree t) (ways (span t)) ≡ 1
once t = once_within (span t) t (omega arith)

-- no tree stands twice in any list
pub once_at_most : (n : ℕ) (t : Tri) → count (same_tree t) (ways n) ≤ 1
once_at_most n t = go (ℕ_discrete (span t) n)
  where
    go : Dec (span t ≡ n) → count (same_tree t) (ways n) ≤ 1
    go (yes e) = rw (← e) (omega (arith, once t))
    go (no c) = omega (arith, elsewhere t n c)

-- places that hold one tree are one place
pub no_tree_twice : (n : ℕ) (d : Tri) (i j : ℕ) → i < length (ways n) → j < length (ways n)
    → get_or (ways n) i d ≡ get_or (ways n) j d → i ≡ j
no_tree_twice n d i j a b e =
    by_order i j (λ h. by_order j i (λ k. omega arith) (λ k. absurd (twice i j k b e))) (λ k. absurd (twice j i k a (sym e)))
  where
    twice : (i j : ℕ) → i < j → j < length (ways n) → get_or (ways n) i d ≡ get_or (ways n) j d → ⊥
    twice i j k b e =
        let t = get_or (ways n) i d in
        let again : T (same_tree t (get_or (ways n) j d)) = rw (← e) (same_tree_i t) in
        omega (arith, once_at_most n t, count_two (same_tree t) (ways n) d i j k b (same_tree_i t) again)
