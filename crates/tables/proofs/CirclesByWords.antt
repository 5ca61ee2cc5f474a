-- Closed circles of links, by the walk and by words: the links all close, there are two circles, there is one ring or one chain.
use Prim.Native.Nat.{ℕ, zero, suc, ◌-◌, ◌<◌}
use mathlib.Core.Bool.{Bool, true, false, ◌&&◌}
use mathlib.Core.List.Memᴰ
use mathlib.Core.List.{List, [], ◌∷◌, Memᴰ}
use mathlib.Core.Path.{◌≡◌, refl, sym, ap, ◌∙◌, subst}
use native.Mathlib.Omega.{arith}
use lib.Dec.{T}
use lib.ListN.{length, get_or}
use Rattle.lists.specs.Lists.{every, has, different}
use Rattle.lists.proofs.Tests.{yes_is, is_yes}
use Rattle.lists.proofs.Lists.{every_at}
use Rattle.lists.proofs.Numbers.{has_i, has_e}
use Rattle.lists.proofs.Places.{in_at, at_in}
use Rattle.lists.proofs.Options.{some_is}
use Rattle.rows.specs.declared.Row.{Row}
use Rattle.mesh.specs.Mesh.{keeps_mesh_rule}
use Rattle.links.specs.Links.{Link, next, starts, ends}
use Rattle.walk.specs.Walk.{closes, all_close, smallest, circle_of, chain_of}
use Rattle.ring.specs.Ring.{m}
use Rattle.links.specs.Links.{links_of}
use Rattle.links.proofs.LinksUnderRule.{starts_different, ends_different}
use Rattle.walk.proofs.ClosedWalks.{Walks, after, walk_walks, walks_here, walks_after, walks_first, walks_different}
use Rattle.links.proofs.NextLink.{next_in, next_is}
use Rattle.walk.proofs.LinksClose.{entered_close, closes_e}
use Rattle.ring.proofs.OneChain.{open_head}
use Rattle.ring.proofs.OneRing.{ring_circle, circle_round, chain_round}
use Rattle.tables.specs.RoundAnEdge.{linked, Round, Circle, AllClose, TwoCircles}
use Rattle.tables.proofs.RowsAndLinks.{read_linked, linked_read, after_in, after_on, after_last, around}
use Rattle.tables.proofs.RoundByWords.{walk_onward, round_of}

-- an element that does not pass
some_fails : {A : Type 0} (p : A → Bool) (xs : List A) → every p xs ≡ false → (x : A) × Memᴰ x xs × (p x ≡ false)
unfolding every
some_fails p [] e = absurd (subst T e tt)
some_fails p (x ∷ xs) e = go (p x) refl e (some_fails p xs)
  where
    go : (b : Bool) → p x ≡ b → b && every p xs ≡ false → (every p xs ≡ false → (y : _) × Memᴰ y xs × (p y ≡ false))
        → (y : _) × Memᴰ y (x ∷ xs) × (p y ≡ false)
    go false q e f = (x, Memᴰ.head refl, q)
    go true q e f = let (y, m, r) = f e in (y, Memᴰ.tail m, r)

-- ---- circles

module _ (a b points : ℕ) (rows : List Row) (rule : T (keeps_mesh_rule points rows)) (apart : a ≡ b → ⊥) where
  abbrev links : List Link
  links = links_of a b rows

  single : T (different (starts links))
  single = starts_different a b apart points rows rule

  single_end : T (different (ends links))
  single_end = ends_different a b apart points rows rule

  -- a closed walk is a circle
  walk_circle : (start : ℕ) {vs : List ℕ} → Walks links start start vs → Circle rows a b vs
  walk_circle start {vs} walk = record {
    some_point = (walks_first links start walk).0;
    apart = walks_different links start walk;
    round = λ i h. linked_read a b points rows rule apart (get_or vs i 0) (after vs i)
        (next_in links (get_or vs i 0) (walks_after links start i walk h));
  }

  circle_linked : {vs : List ℕ} → Circle rows a b vs → (i : ℕ) → i < length vs → Memᴰ (get_or vs i 0, after vs i) links
  circle_linked {vs} c i h = read_linked a b points rows rule (get_or vs i 0) (after vs i) (c.round i h)

  -- it is closed under the links
  circle_onward : {vs : List ℕ} → Circle rows a b vs → (v w : ℕ) → Memᴰ (v, w) links → Memᴰ v vs → Memᴰ w vs
  circle_onward {vs} c v w k m =
      let (j, h, e) = in_at vs 0 m in
      let there = some_is (sym (next_is links single k) ∙ ap (next links) (sym e) ∙ next_is links single (circle_linked c j h)) in
      rw there (after_in vs j h)

  -- so what is closed under the links and has one of its points has all
  circle_swept : {vs : List ℕ} → Circle rows a b vs → (P : ℕ → Type 0) → ((v w : ℕ) → Memᴰ (v, w) links → P v → P w)
      → (x y : ℕ) → Memᴰ x vs → Memᴰ y vs → P x → P y
  circle_swept {vs} c P on x y mx my p =
      around vs P (length vs) (omega arith) (λ i h q. on (get_or vs i 0) (after vs i) (circle_linked c i h) q) refl mx my p

  -- a link comes to each of its points
  circle_entered : {vs : List ℕ} → Circle rows a b vs → (x : ℕ) → Memᴰ x vs → Memᴰ x (ends links)
  circle_entered {vs} c x m =
      let (i, h, e) = in_at vs 0 m in
      go i h e
    where
      by : (i : ℕ) → i < length vs → Memᴰ (after vs i) (ends links)
      by i h = Memᴰ.map (λ (l : Link). l.1) (circle_linked c i h)

      go : (i : ℕ) → i < length vs → get_or vs i 0 ≡ x → Memᴰ x (ends links)
      go zero h e = let last = length vs - 1 in rw (← e, ← after_last vs last (omega arith)) (by last (omega arith))
      go (suc i) h e = rw (← e, ← after_on vs i (omega arith)) (by i (omega arith))

  circle_start : {vs : List ℕ} → Circle rows a b vs → (x : ℕ) → Memᴰ x vs → Memᴰ x (starts links)
  circle_start {vs} c x m =
      let (i, h, e) = in_at vs 0 m in
      subst (λ y. Memᴰ y (starts links)) e (Memᴰ.map (λ (l : Link). l.0) (circle_linked c i h))

  start_read : (x : ℕ) → Memᴰ x (starts links) → (w : ℕ) × T (linked rows a b x w)
  start_read x m =
      let (l, k, e) = Memᴰ.of_map (λ (l : Link). l.0) links m in
      (l.1, rw e at (linked_read a b points rows rule apart l.0 l.1 k))

  -- the links all close: as a test and in words

  pub close_words : all_close links ≡ true → AllClose rows a b
  unfolding all_close
  close_words e v w h =
      let at-start = Memᴰ.map (λ (l : Link). l.0) (read_linked a b points rows rule v w h) in
      let (vs, walk) = closes_e links v (every_at (closes links) (starts links) (is_yes _ e) at-start) in
      (vs, walk_circle v walk, walks_here links v walk)

  pub words_close : AllClose rows a b → all_close links ≡ true
  words_close all = yes_is (all_close links) (entered_close links single single_end (λ x m.
      let (w, h) = start_read x m in
      let (vs, c, on) = all x w h in
      circle_entered c x on))

  module _ (some_link : 0 < length links) where
    -- two circles: as a test and in words

    walk_of : all_close links ≡ true → Walks links (smallest (starts links)) (smallest (starts links)) (circle_of links)
    walk_of e =
        walk_walks links (smallest (starts links)) (length links) (smallest (starts links)) (ring_circle links some_link (is_yes _ e))

    pub two_words : all_close links ≡ true → every (has (circle_of links)) (starts links) ≡ false → TwoCircles rows a b
    two_words e missed =
        let ring = circle_of links in
        let walk = walk_of e in
        let (x, m, off) = some_fails (has ring) (starts links) missed in
        let (w, h) = start_read x m in
        let (other, c, on) = close_words e x w h in (
          ring,
          other,
          walk_circle (smallest (starts links)) walk,
          c,
          λ y in-ring in-other.
              let back = circle_swept c (λ z. Memᴰ z ring) (λ v w k p. walk_onward links (smallest (starts links)) single walk k p)
              y x in-other on in-ring in
              subst T off (has_i ring back),
        )

    pub words_two : all_close links ≡ true → TwoCircles rows a b → every (has (circle_of links)) (starts links) ≡ true → ⊥
    words_two e (vs, ws, c, d, no-common) all =
        let ring = circle_of links in
        let walk = walk_circle (smallest (starts links)) (walk_of e) in
        let on_ring : (x : ℕ) → Memᴰ x (starts links) → Memᴰ x ring =
        λ x m. has_e ring x (every_at (has ring) (starts links) (is_yes _ all) m) in
        let x = get_or vs 0 0 in
        let y = get_or ws 0 0 in
        let at_x = at_in vs 0 0 c.some_point in
        let at_y = at_in ws 0 0 d.some_point in
        let y-on = circle_swept walk (λ z. Memᴰ z vs) (circle_onward c) x y (on_ring x (circle_start c x at_x))
        (on_ring y (circle_start d y at_y)) at_x in
        no-common y y-on at_y

    -- one chain, and one ring
    pub chain_words : all_close links ≡ false → every (has (chain_of links)) (starts links) ≡ true → Round rows a b false (chain_of links)
    chain_words e all =
        let head = open_head links single single_end e in
        round_of a b points rows rule apart false (chain_of links) (chain_round links single single_end head.1 (is_yes _ all))

    pub ring_words : all_close links ≡ true → every (has (circle_of links)) (starts links) ≡ true → Round rows a b true (circle_of links)
    ring_words e all =
        round_of a b points rows rule apart true (circle_of links) (circle_round links some_link (is_yes _ e) single (is_yes _ all))
