-- Links that all close, in one circle, are the links of the ring, and links in one open chain are those of the chain:
-- its points are different, each is linked to the next, and of a ring the last to the first.
use Prim.Native.Nat.{ℕ, zero, suc, ◌+◌, ◌<◌}
use mathlib.Core.Bool.{Bool, true, false, cond}
use mathlib.Core.List.Memᴰ
use mathlib.Core.List.{List, [], ◌∷◌, Memᴰ}
use mathlib.Core.Option
use mathlib.Core.Option.{Option, none, some}
use mathlib.Core.Path.{◌≡◌, refl, sym, ap, ◌∙◌, subst}
use native.Mathlib.Decide.{dec_lt}
use native.Mathlib.Omega.{arith}
use borrow.Author.Tests.{eq-eqb, ne_eqb}
use lib.Dec.{T}
use lib.ListN.{length, get_or, drop, length-map, drop_of_length-le}
use lib.Seq.{drop-cons}
use Rattle.lists.specs.Lists.{every, has, different}
use Rattle.lists.proofs.Lists.{every_at}
use Rattle.lists.proofs.Numbers.{has_e, different_places, no_more}
use Rattle.lists.proofs.Places.{in_at, in_length}
use Rattle.lists.proofs.Options.{pair_is, some_is, none_not}
use Rattle.links.specs.Links.{Link, next, starts, ends}
use Rattle.walk.specs.Walk.{circle, closes, all_close, smallest, circle_of, heads, chain_of}
use Rattle.walk.proofs.TheSmallest.{smallest_in}
use Rattle.walk.proofs.ClosedWalks as walking
use Rattle.walk.proofs.ClosedWalks.{Walks, walks_one, after, walk_walks}
use Rattle.walk.proofs.ClosedWalks.{walks_different, walks_start, walks_first, walks_after}
use Rattle.links.proofs.NextLink.{next_in, next_is}
use Rattle.ring.proofs.OneChain as chains
use Rattle.ring.proofs.OneChain.{Runs, runs_one, runs_first, runs_different, runs_onward, runs_last, runs_short}
use Rattle.ring.proofs.OneChain.{chain_runs, covers_more}

-- The ring, or the chain, goes by all the links from its own start and meets no point twice.
pub record GoesRound (links : List Link) (closed : Bool) (ring : List ℕ) : Type 0 where
  -- a ring has as many points as there are links, a chain one more
  pub size : length ring ≡ length links + cond closed 0 1
  pub apart : T (different ring)
  -- each point is linked to the one after it, the last one of a ring to the first
  pub linked : (i : ℕ) → i < length links → Memᴰ (get_or ring i 0, after ring i) links
  -- and there are no other links
  pub only : (l : Link) → Memᴰ l links → (i : ℕ) × (i < length links) × (l ≡ (get_or ring i 0, after ring i))
  -- v1 is the smallest point from which a link goes; that of a chain is entered by none
  pub first : get_or ring 0 0 ≡ cond closed (smallest (starts links)) (smallest (heads links))

-- ---- one closed circle

-- The links close from their smallest start, so `smallest` and `circle_of` do not stand in for anything.
module _ (links : List Link) (some_link : 0 < length links) (close : T (all_close links)) where
  first_start : Memᴰ (smallest (starts links)) (starts links)
  first_start = smallest_in (starts links) (omega (arith, length-map links (λ (l : Link). l.0)))

  pub ring_circle : circle links (smallest (starts links)) ≡ some (circle_of links)
  unfolding circle_of all_close
  ring_circle = go (circle links (smallest (starts links))) (every_at (closes links) (starts links) close first_start)
    where
      go : (o : Option (List ℕ)) → T (elim o [ none ↦ false | some points ↦ true ]) → o ≡ some (Option.get_or o [])
      go none h = absurd h
      go (some points) h = refl

  ring_walks : Walks links (smallest (starts links)) (smallest (starts links)) (circle_of links)
  ring_walks = walk_walks links (smallest (starts links)) (length links) (smallest (starts links)) ring_circle

  module _ (single : T (different (starts links))) (whole : T (every (has (circle_of links)) (starts links))) where
    pub circle_round : GoesRound links true (circle_of links)
    circle_round =
        let ring = circle_of links in
        let v1 = smallest (starts links) in
        let count = length-map links (λ (l : Link). l.0) in
        let few = no_more ring (starts links) (walks_different links v1 ring_walks) (λ n m. walks_start links v1 ring_walks m) in
        let on : (n : ℕ) → Memᴰ n (starts links) → Memᴰ n ring =
        λ n m. has_e ring n (every_at (has ring) (starts links) whole m) in
        let many = no_more (starts links) ring single on in
        record {
          size = omega arith;
          apart = walks_different links v1 ring_walks;
          linked = λ i h. next_in links (get_or ring i 0) (walks_after links v1 i ring_walks (omega arith));
          only = λ l m.
              let (i, h, e) = in_at ring 0 (on l.0 (Memᴰ.map (λ (l : Link). l.0) m)) in
              let f = next_is links single m in
              let g = walks_after links v1 i ring_walks h in
              (i, omega arith, pair_is l e (some_is (sym g ∙ ap (next links) e ∙ f)));
          first = (walks_first links v1 ring_walks).1;
        }

-- ---- one open chain

module _ (links : List Link) (single : T (different (starts links))) (single_end : T (different (ends links)))
    {v : ℕ} (at_head : Memᴰ v (heads links)) (whole : T (every (has (chain_of links)) (starts links))) where
  abbrev chain : List ℕ
  chain = chain_of links

  run : Runs links (smallest (heads links)) chain
  run = chain_runs links single single_end at_head

  size_is : length chain ≡ suc (length links)
  size_is =
      let least = smallest_in (heads links) (in_length (heads links) at_head) in
      omega (arith, runs_short links run, covers_more links single single_end least run whole)

  -- the place of a point from which a link goes
  at_place : (l : Link) (i : ℕ) → get_or chain i 0 ≡ l.0 → next links l.0 ≡ some l.1 → i < length chain
      → (i : ℕ) × (i < length links) × (l ≡ (get_or chain i 0, after chain i))
  at_place l i e f h = go (dec_lt (suc i) (length chain))
    where
      go : Dec (suc i < length chain) → (i : ℕ) × (i < length links) × (l ≡ (get_or chain i 0, after chain i))
      go (yes s) =
          let g = runs_onward links i run s in
          let on : after chain i ≡ get_or chain (suc i) 0 = rw (ne_eqb (suc i) (length chain) (λ q. omega arith)) in
          (i, omega (arith, size_is), rw on (pair_is l e (some_is (sym g ∙ ap (next links) e ∙ f))))
      go (no s) = absurd (none_not (sym (runs_last links i run (omega arith)) ∙ ap (next links) e ∙ f))

  pub chain_round : GoesRound links false chain
  chain_round = record {
    size = omega (arith, size_is);
    apart = runs_different links run;
    linked = λ i h.
        let on : after chain i ≡ get_or chain (suc i) 0 = rw (ne_eqb (suc i) (length chain) (λ q. omega (arith, size_is))) in
        rw on (next_in links (get_or chain i 0) (runs_onward links i run (omega (arith, size_is))));
    only = λ l m.
        let on = has_e chain l.0 (every_at (has chain) (starts links) whole (Memᴰ.map (λ (l : Link). l.0) m)) in
        let (i, h, e) = in_at chain 0 on in
        at_place l i e (next_is links single m) h;
    first = runs_first links run;
  }

-- ---- there is one such ring, and one such chain

module _ (links : List Link) (single : T (different (starts links))) {ring : List ℕ} where
  from_place : GoesRound links true ring → (k i : ℕ) → i + suc k ≡ length ring
      → Walks links (smallest (starts links)) (get_or ring i 0) (drop i ring)
  from_place round zero i e =
      let split : drop i ring ≡ get_or ring i 0 ∷ [] =
      drop-cons ring i 0 (omega arith) ∙ ap (λ ps. get_or ring i 0 ∷ ps) (drop_of_length-le ring {i = suc i} (omega arith)) in
      let end : after ring i ≡ smallest (starts links) = rw (eq-eqb (suc i) (length ring) (omega arith)) round.first in
      rw split (walking.last (next_is links single (round.linked i (omega (arith, round.size))) ∙ ap some end))
  from_place round (suc k) i e =
      let on : after ring i ≡ get_or ring (suc i) 0 = rw (ne_eqb (suc i) (length ring) (λ q. omega arith)) in
      let new : get_or ring (suc i) 0 ≡ smallest (starts links) → ⊥ = λ q.
      let z = different_places ring 0 (suc i) 0 round.apart (omega arith) (omega arith) (q ∙ sym round.first) in omega arith
      in
      rw (drop-cons ring i 0 (omega arith))
      (walking.more (next_is links single (round.linked i (omega (arith, round.size))) ∙ ap some on) new
      (from_place round k (suc i) (omega arith)))

  from_head : GoesRound links false ring → (k i : ℕ) → i + suc k ≡ length ring → Runs links (get_or ring i 0) (drop i ring)
  from_head round zero i e =
      let split : drop i ring ≡ get_or ring i 0 ∷ [] =
      drop-cons ring i 0 (omega arith) ∙ ap (λ ps. get_or ring i 0 ∷ ps) (drop_of_length-le ring {i = suc i} (omega arith)) in
      rw split (chains.last (go (next links (get_or ring i 0)) refl))
    where
      go : (o : Option ℕ) → next links (get_or ring i 0) ≡ o → next links (get_or ring i 0) ≡ none
      go none f = f
      go (some w) f =
          let (j, h, q) = round.only (get_or ring i 0, w) (next_in links (get_or ring i 0) f) in
          let z = different_places ring 0 i j round.apart (omega arith) (omega (arith, round.size)) (ap (λ (l : Link). l.0) q) in
          absurd (omega (arith, round.size))
  from_head round (suc k) i e =
      let on : after ring i ≡ get_or ring (suc i) 0 = rw (ne_eqb (suc i) (length ring) (λ q. omega arith)) in
      rw (drop-cons ring i 0 (omega arith))
      (chains.more (next_is links single (round.linked i (omega (arith, round.size))) ∙ ap some on)
      (from_head round k (suc i) (omega arith)))

pub round_one : (links : List Link) {closed : Bool} {ring other : List ℕ} → T (different (starts links))
    → GoesRound links closed ring → GoesRound links closed other → ring ≡ other
round_one links {closed} {ring} {other} single p q = go closed ring other p q
  where
    go : (c : Bool) (r o : List ℕ) → GoesRound links c r → GoesRound links c o → r ≡ o
    go c [] [] p q = refl
    go c [] (n ∷ ns) p q = absurd (omega (arith, p.size, q.size))
    go c (n ∷ ns) [] p q = absurd (omega (arith, p.size, q.size))
    go true (n ∷ ns) (k ∷ ks) p q =
        let v1 = smallest (starts links) in
        let w = from_place links single p (length ns) 0 (omega arith) in
        let u = from_place links single q (length ks) 0 (omega arith) in
        walks_one links v1 w (subst (λ x. Walks links v1 x (k ∷ ks)) (q.first ∙ sym p.first) u)
    go false (n ∷ ns) (k ∷ ks) p q =
        let w = from_head links single p (length ns) 0 (omega arith) in
        let u = from_head links single q (length ks) 0 (omega arith) in
        runs_one links w (subst (λ x. Runs links x (k ∷ ks)) (q.first ∙ sym p.first) u)
