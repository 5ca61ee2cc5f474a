-- Where a point starts at most one link and ends at most one, the links all close exactly when a link comes to each start of one; and
-- no walk closes that begins where no link comes.
-- Idea: a walk that has not come back stands at a point not met before, and there are only so many points.
use Prim.Native.Nat.{ℕ, zero, suc, ◌+◌, ◌≤◌}
use mathlib.Core.Bool.{true, false}
use mathlib.Core.List.Memᴰ
use mathlib.Core.List.{List, [], ◌∷◌, Memᴰ}
use mathlib.Core.Option.{Option, none, some}
use mathlib.Core.Path.{◌≡◌, refl, sym, subst}
use native.Mathlib.Decide.{ℕ_discrete}
use native.Mathlib.Omega.{arith}
use lib.Dec.{T}
use lib.ListN.{length, length-map}
use Rattle.lists.specs.Lists.{different}
use Rattle.lists.proofs.Lists.{every_i}
use Rattle.lists.proofs.Numbers.{different_i, no_more, no_fewer}
use Rattle.lists.proofs.Places.{in_cases}
use Rattle.links.specs.Links.{Link, next, starts, ends}
use Rattle.walk.specs.Walk.{circle, closes, all_close}
use Rattle.walk.proofs.ClosedWalks.{Walks, last, more, walk_walks, walks_walk, walks_short}
use Rattle.links.proofs.NextLink.{next_in, next_some, one_before}

-- a walk that closes, as a test and as a walk

pub closes_e : (links : List Link) (v : ℕ) → T (closes links v) → (points : List ℕ) × Walks links v v points
closes_e links v h = go (circle links v) refl h
  where
    go : (o : Option (List ℕ)) → circle links v ≡ o → T (elim o [ none ↦ false | some points ↦ true ])
        → (points : List ℕ) × Walks links v v points
    go none e h = absurd h
    go (some points) e h = (points, walk_walks links v (length links) v e)

pub closes_i : (links : List Link) (v : ℕ) {points : List ℕ} → Walks links v v points → T (closes links v)
closes_i links v w =
    subst (λ (o : Option (List ℕ)). T (elim o [ none ↦ false | some points ↦ true ]))
    (sym (walks_walk links v (length links) w (walks_short links v w))) tt

-- a link comes to the start of a closed walk
walks_enter : (links : List Link) (start : ℕ) {here : ℕ} {points : List ℕ} → Walks links start here points
    → Memᴰ start (ends links)
walks_enter links start (last {here = here} e) = Memᴰ.map (λ (l : Link). l.1) (next_in links here e)
walks_enter links start (more e d w) = walks_enter links start w

pub closed_entered : (links : List Link) (v : ℕ) → T (closes links v) → Memᴰ v (ends links)
closed_entered links v h = let (points, w) = closes_e links v h in walks_enter links v w

module _ (links : List Link) (single : T (different (starts links))) (single_end : T (different (ends links))) where
  -- The walk from the start is here and has seen these points, each once; but for the start it came to each from one that it has seen.
  record Trail (start here : ℕ) (seen : List ℕ) : Type 0 where
    fresh : Memᴰ here seen → ⊥
    once : T (different seen)
    starting : (x : ℕ) → Memᴰ x (here ∷ seen) → Memᴰ x (starts links)
    came : (x : ℕ) → Memᴰ x (here ∷ seen) → (x ≡ start → ⊥) → (y : ℕ) × Memᴰ y seen × (next links y ≡ some x)

  module _ (led : (x : ℕ) → Memᴰ x (ends links) → Memᴰ x (starts links)) where
    trail_on : {start here there : ℕ} {seen : List ℕ} → Trail start here seen → next links here ≡ some there → (there ≡ start → ⊥)
        → Trail start there (here ∷ seen)
    trail_on {start} {here} {there} {seen} t e d =
        record {
          fresh = λ m.
              let (y, k, f) = t.came there m d in
              t.fresh (subst (λ n. Memᴰ n seen) (one_before links single_end (next_in links y f) (next_in links here e)) k);
          once = different_i here seen t.fresh t.once;
          starting = λ x m. in_cases m (λ i. rw i (led there (Memᴰ.map (λ (l : Link). l.1) (next_in links here e)))) (t.starting x);
          came = λ x m n.
              in_cases m (λ i. (here, Memᴰ.head refl, rw i e))
              (λ k. let (y, k, f) = t.came x k n in (y, Memᴰ.tail k, f));
        }

    trail_walks : (n : ℕ) {start here : ℕ} {seen : List ℕ} → Trail start here seen → length links ≤ length seen + n
        → (points : List ℕ) × Walks links start here points
    trail_walks zero {here = here} {seen = seen} t l =
        let r = no_more (here ∷ seen) (starts links) (different_i here seen t.fresh t.once) t.starting in
        absurd (omega (arith, length-map links (λ (l : Link). l.0)))
    trail_walks (suc n) {start} {here} {seen} t l =
        let (there, e) = next_some links (t.starting here (Memᴰ.head refl)) in
        go there e (ℕ_discrete there start) (λ u. trail_walks n u (omega arith))
      where
        go : (there : ℕ) → next links here ≡ some there → Dec (there ≡ start)
            → (Trail start there (here ∷ seen) → (points : List ℕ) × Walks links start there points)
            → (points : List ℕ) × Walks links start here points
        go there e (yes q) f = (here ∷ [], last (rw q at e))
        go there e (no d) f = let (points, w) = f (trail_on t e d) in (here ∷ points, more e d w)

    led_close : {v : ℕ} → Memᴰ v (starts links) → T (closes links v)
    led_close {v} m =
        let t : Trail v v [] = record {
          fresh = Memᴰ.not-nil;
          once = unfold different in tt;
          starting = λ x k. in_cases k (λ i. rw i m) (λ k. absurd (Memᴰ.not-nil k));
          came = λ x k n. in_cases k (λ i. absurd (n i)) (λ k. absurd (Memᴰ.not-nil k));
        } in
        let (points, w) = trail_walks (length links) t (omega arith) in
        closes_i links v w

  -- as many starts as ends: if a link comes to each start, a link goes from each end, so every walk goes on until it closes
  pub entered_close : ((x : ℕ) → Memᴰ x (starts links) → Memᴰ x (ends links)) → T (all_close links)
  unfolding all_close
  entered_close entered =
      let led : (x : ℕ) → Memᴰ x (ends links) → Memᴰ x (starts links) = λ x m.
      no_fewer (starts links) (ends links) single entered
      (omega (arith, length-map links (λ (l : Link). l.0), length-map links (λ (l : Link). l.1))) m in
      every_i (closes links) (starts links) (λ v m. led_close led m)
