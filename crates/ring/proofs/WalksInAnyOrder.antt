-- Where a point starts at most one link, the order of the links plays no part: neither in a walk, nor in the circle, nor in the chain.
use Prim.Native.Nat.{ℕ, zero, suc}
use mathlib.Core.Bool.{Bool, true, false, cond}
use mathlib.Core.List.Memᴰ
use mathlib.Core.List.{List, [], ◌∷◌, Memᴰ}
use mathlib.Core.Option.{Option, none, some, get_or}
use mathlib.Core.Path.{◌≡◌, refl, sym, ap, ◌∙◌, subst}
use native.Mathlib.Omega.{arith}
use lib.Dec.{T, eqb}
use lib.ListN.{length, length-map}
use Rattle.lists.specs.Lists.{every, has, different}
use Rattle.lists.proofs.Tests.{same_test}
use Rattle.lists.proofs.Lists.{every_at, every_i}
use Rattle.lists.proofs.Numbers.{no_more}
use Rattle.links.specs.Links.{Link, next, starts, ends}
use Rattle.walk.specs.Walk.{walk, circle, closes, smallest}
use Rattle.walk.specs.Walk.{all_close, circle_of, heads, follow, chain_of}
use Rattle.walk.proofs.ClosedWalks.{back_or_on, stepped}
use Rattle.links.proofs.NextLink.{next_in, next_is}
use Rattle.walk.proofs.TheSmallest.{smallest_same}
use Rattle.walk.proofs.FirstPoint.{head_e, head_i}

module _ (ls ks : List Link) (once : T (different (starts ls))) (once' : T (different (starts ks)))
    (to : (l : Link) → Memᴰ l ls → Memᴰ l ks) (from : (l : Link) → Memᴰ l ks → Memᴰ l ls) where
  next_same : (v : ℕ) → next ls v ≡ next ks v
  next_same v = go (next ls v) refl (next ks v) refl
    where
      go : (o : Option ℕ) → next ls v ≡ o → (p : Option ℕ) → next ks v ≡ p → o ≡ p
      go (some w) e p f = sym (next_is ks once' (to (v, w) (next_in ls v e))) ∙ f
      go none e (some w) f = sym e ∙ next_is ls once (from (v, w) (next_in ks v f))
      go none e none f = refl

  walk_same : (n start here : ℕ) → walk n ls start here ≡ walk n ks start here
  unfolding walk
  walk_same zero start here = refl
  walk_same (suc n) start here = ap (stepped start here (walk n ls start)) (next_same here) ∙ go (next ks here) (walk_same n start)
    where
      go : (o : Option ℕ) → ((there : ℕ) → walk n ls start there ≡ walk n ks start there)
          → stepped start here (walk n ls start) o ≡ stepped start here (walk n ks start) o
      go none f = refl
      go (some there) f = ap (λ o. back_or_on here o (eqb there start)) (f there)

  to_start : (n : ℕ) → Memᴰ n (starts ls) → Memᴰ n (starts ks)
  to_start n m = let (l, k, e) = Memᴰ.of_map (λ (l : Link). l.0) ls m in rw (← e) (Memᴰ.map (λ (l : Link). l.0) (to l k))

  from_start : (n : ℕ) → Memᴰ n (starts ks) → Memᴰ n (starts ls)
  from_start n m = let (l, k, e) = Memᴰ.of_map (λ (l : Link). l.0) ks m in rw (← e) (Memᴰ.map (λ (l : Link). l.0) (from l k))

  pub length_same : length ls ≡ length ks
  length_same =
      let low = no_more (starts ls) (starts ks) once to_start in
      let high = no_more (starts ks) (starts ls) once' from_start in
      omega (arith, length-map ls (λ (l : Link). l.0), length-map ks (λ (l : Link). l.0))

  circle_same : (v : ℕ) → circle ls v ≡ circle ks v
  circle_same v = rw length_same (walk_same (length ks) v v)

  to_end : (n : ℕ) → Memᴰ n (ends ls) → Memᴰ n (ends ks)
  to_end n m = let (l, k, e) = Memᴰ.of_map (λ (l : Link). l.1) ls m in rw (← e) (Memᴰ.map (λ (l : Link). l.1) (to l k))

  from_end : (n : ℕ) → Memᴰ n (ends ks) → Memᴰ n (ends ls)
  from_end n m = let (l, k, e) = Memᴰ.of_map (λ (l : Link). l.1) ks m in rw (← e) (Memᴰ.map (λ (l : Link). l.1) (from l k))

  -- a test of each start
  each_same : (p q : ℕ → Bool) → ((n : ℕ) → p n ≡ q n) → every p (starts ls) ≡ every q (starts ks)
  each_same p q e =
      same_test (every p (starts ls)) (every q (starts ks))
      (λ h. every_i q (starts ks) (λ n m. subst T (e n) (every_at p (starts ls) h (from_start n m))))
      (λ h. every_i p (starts ls) (λ n m. subst T (sym (e n)) (every_at q (starts ks) h (to_start n m))))

  pub close_same : all_close ls ≡ all_close ks
  unfolding all_close
  close_same =
      each_same (closes ls) (closes ks) (λ v. ap (λ (o : Option (List ℕ)). elim o [ none ↦ false | some points ↦ true ]) (circle_same v))

  circle_of_same : circle_of ls ≡ circle_of ks
  unfolding circle_of
  circle_of_same = ap (λ o. get_or o []) (ap (circle ls) (smallest_same (starts ls) (starts ks) to_start from_start)
      ∙ circle_same (smallest (starts ks)))

  follow_same : (n here : ℕ) → follow n ls here ≡ follow n ks here
  unfolding follow
  follow_same zero here = refl
  follow_same (suc n) here = ap (λ o. onward here (follow n ls) o) (next_same here) ∙ go (next ks here) (follow_same n)
    where
      onward : ℕ → (ℕ → List ℕ) → Option ℕ → List ℕ
      onward here rest o = elim o [ none ↦ here ∷ [] | some there ↦ here ∷ rest there ]

      go : (o : Option ℕ) → ((there : ℕ) → follow n ls there ≡ follow n ks there)
          → onward here (follow n ls) o ≡ onward here (follow n ks) o
      go none f = refl
      go (some there) f = ap (λ ps. here ∷ ps) (f there)

  heads_least : smallest (heads ls) ≡ smallest (heads ks)
  heads_least =
      smallest_same (heads ls) (heads ks)
      (λ n m. let (k, out) = head_e ls m in head_i ks (to_start n k) (λ i. out (from_end n i)))
      (λ n m. let (k, out) = head_e ks m in head_i ls (from_start n k) (λ i. out (to_end n i)))

  chain_of_same : chain_of ls ≡ chain_of ks
  unfolding chain_of
  chain_of_same = rw (heads_least, length_same) (follow_same (length ks) (smallest (heads ks)))

  pub ring_same : cond (all_close ls) (circle_of ls) (chain_of ls) ≡ cond (all_close ks) (circle_of ks) (chain_of ks)
  ring_same = rw (close_same, circle_of_same, chain_of_same)

  pub whole_same : every (has (cond (all_close ls) (circle_of ls) (chain_of ls))) (starts ls)
      ≡ every (has (cond (all_close ks) (circle_of ks) (chain_of ks))) (starts ks)
  whole_same = each_same _ _ (λ n. ap (λ ring. has ring n) ring_same)
