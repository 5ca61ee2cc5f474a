-- The walk round the edge: the points of a closed walk are all different, each starts a link, and the number of steps never binds.
-- Idea: the walk goes on from a point in one way only, so a point met twice would give one walk two lengths.
use Prim.Native.Nat.{ℕ, zero, suc, ◌≤◌, ◌<◌}
use mathlib.Core.Bool.{Bool, true, false, cond}
use mathlib.Core.List.Memᴰ
use mathlib.Core.List.{List, [], ◌∷◌, Memᴰ}
use mathlib.Core.Option.{Option, none, some}
use mathlib.Core.Path.{◌≡◌, refl, sym, ap, ◌∙◌, subst}
use native.Mathlib.Omega.{arith}
use borrow.Author.Tests.{eqb-true, eqb-false, eq-eqb, ne_eqb}
use lib.Dec.{T, eqb}
use lib.ListN.{length, get_or, length-map}
use Rattle.lists.specs.Lists.{different}
use Rattle.lists.proofs.Numbers.{different_i, no_more}
use Rattle.lists.proofs.Options.{some_is, none_not}
use Rattle.lists.proofs.Places.{in_cases}
use Rattle.links.specs.Links.{Link, next, starts}
use Rattle.links.proofs.NextLink.{next_in}
use Rattle.walk.specs.Walk.{walk}

-- The links lead from a point along these points, and from the last of them to the start, which is met before nowhere but at the first.
pub data Walks (links : List Link) (start : ℕ) : ℕ → List ℕ → Type 0 where
  last : {here : ℕ} → next links here ≡ some start → Walks links start here (here ∷ [])
  more : {here there : ℕ} {points : List ℕ} → next links here ≡ some there → (there ≡ start → ⊥) → Walks links start there points
      → Walks links start here (here ∷ points)

-- a step, as the walk makes it: the point before the others, if the walk from the next point closes
abbrev pub before : ℕ → Option (List ℕ) → Option (List ℕ)
before here rest = elim rest [ none ↦ none | some others ↦ some (here ∷ others) ]

-- the point alone, if the walk is back at its start
abbrev pub back_or_on : ℕ → Option (List ℕ) → Bool → Option (List ℕ)
back_or_on here rest back = elim back [ true ↦ some (here ∷ []) | false ↦ before here rest ]

-- nothing, if no link goes on
abbrev pub stepped : ℕ → ℕ → (ℕ → Option (List ℕ)) → Option ℕ → Option (List ℕ)
stepped start here rest step = elim step [ none ↦ none | some there ↦ back_or_on here (rest there) (eqb there start) ]

-- the point after place i of a circle; after the last comes the first
abbrev pub after : List ℕ → ℕ → ℕ
after points i = cond (eqb (suc i) (length points)) (get_or points 0 0) (get_or points (suc i) 0)

module _ (links : List Link) (start : ℕ) where
  -- a walk that comes back goes by its points
  pub walk_walks : (n here : ℕ) {points : List ℕ} → walk n links start here ≡ some points → Walks links start here points
  unfolding walk
  walk_walks zero here e = absurd (none_not e)
  walk_walks (suc n) here {points} e = step (next links here) refl (λ there others q. walk_walks n there q) e
    where
      others_on : {there : ℕ} → next links here ≡ some there → (there ≡ start → ⊥) → (o : Option (List ℕ))
          → ((others : List ℕ) → o ≡ some others → Walks links start there others) → before here o ≡ some points
          → Walks links start here points
      others_on q d none f e = absurd (none_not e)
      others_on q d (some others) f e = subst (λ ps. Walks links start here ps) (some_is e) (more q d (f others refl))

      go : {there : ℕ} → next links here ≡ some there → (b : Bool) → eqb there start ≡ b
          → ((others : List ℕ) → walk n links start there ≡ some others → Walks links start there others)
          → back_or_on here (walk n links start there) b ≡ some points → Walks links start here points
      go {there} q true t f e = subst (λ ps. Walks links start here ps) (some_is e) (last (rw (eqb-true there start t) at q))
      go {there} q false t f e = others_on q (eqb-false there start t) (walk n links start there) f e

      step : (o : Option ℕ) → next links here ≡ o
          → ((there : ℕ) (others : List ℕ) → walk n links start there ≡ some others → Walks links start there others)
          → stepped start here (walk n links start) o ≡ some points → Walks links start here points
      step none q f e = absurd (none_not e)
      step (some there) q f e = go q (eqb there start) refl (f there) e

  -- and the other way round, given a step for each point
  pub walks_walk : (n : ℕ) {here : ℕ} {points : List ℕ} → Walks links start here points → length points ≤ n
      → walk n links start here ≡ some points
  unfolding walk
  walks_walk zero (last e) l = absurd (omega arith)
  walks_walk zero (more e d w) l = absurd (omega arith)
  walks_walk (suc n) (last e) l = rw (e, walk) (rw (eq-eqb start start refl))
  walks_walk (suc n) (more {there = there} e d w) l = rw (e, walk) (rw (ne_eqb there start d, walks_walk n w (omega arith)))

  -- there is one walk from a point
  pub walks_one : {here : ℕ} {ps qs : List ℕ} → Walks links start here ps → Walks links start here qs → ps ≡ qs
  walks_one (last e) (last f) = refl
  walks_one (last e) (more f d w) = absurd (d (some_is (sym f ∙ e)))
  walks_one (more e d w) (last f) = absurd (d (some_is (sym e ∙ f)))
  walks_one {here} (more {there = x} e d w) (more {there = y} {points = qs} f c u) =
      ap (λ ps. here ∷ ps) (walks_one w (subst (λ z. Walks links start z qs) (some_is (sym f ∙ e)) u))

  -- each point of a walk has its own walk, which is no longer
  pub walks_from : {here : ℕ} {points : List ℕ} {x : ℕ} → Walks links start here points → Memᴰ x points
      → (others : List ℕ) × Walks links start x others × (length others ≤ length points)
  walks_from {here} {x = x} (last e) m =
      in_cases m (λ q. (here ∷ [], subst (λ z. Walks links start z (here ∷ [])) (sym q) (last e), omega arith))
      (λ k. absurd (Memᴰ.not-nil k))
  walks_from {here} (more {points = ps} e d w) m =
      in_cases m (λ q. (here ∷ ps, subst (λ z. Walks links start z (here ∷ ps)) (sym q) (more e d w), omega arith))
      (λ k. let (others, u, l) = walks_from w k in (others, u, omega arith))

  -- the points of a walk are different
  pub walks_different : {here : ℕ} {points : List ℕ} → Walks links start here points → T (different points)
  unfolding different
  walks_different {here} (last e) = different_i here [] Memᴰ.not-nil tt
  walks_different {here} (more {points = ps} e d w) = different_i here ps (λ m.
      let (others, u, l) = walks_from w m in
      let q = ap length (walks_one (more e d w) u) in
      omega arith
      ) (walks_different w)

  pub walks_here : {here : ℕ} {points : List ℕ} → Walks links start here points → Memᴰ here points
  walks_here (last e) = Memᴰ.head refl
  walks_here (more e d w) = Memᴰ.head refl

  walks_next : {here : ℕ} {points : List ℕ} → Walks links start here points → (there : ℕ) × (next links here ≡ some there)
  walks_next (last e) = (start, e)
  walks_next (more {there = there} e d w) = (there, e)

  -- each point of a walk starts a link
  pub walks_start : {here : ℕ} {points : List ℕ} {x : ℕ} → Walks links start here points → Memᴰ x points → Memᴰ x (starts links)
  walks_start {here} {x = x} w m =
      let (others, u, l) = walks_from w m in
      let (there, e) = walks_next u in
      Memᴰ.map (λ (l : Link). l.0) (next_in links x e)

  -- so a walk that comes back has no more points than there are links
  pub walks_short : {here : ℕ} {points : List ℕ} → Walks links start here points → length points ≤ length links
  walks_short {points = points} w =
      let r = no_more points (starts links) (walks_different w) (λ x m. walks_start w m) in
      omega (arith, length-map links (λ (l : Link). l.0))

  -- the number of steps never binds
  pub walk_enough : (n here : ℕ) {points : List ℕ} → walk n links start here ≡ some points
      → walk (length links) links start here ≡ some points
  walk_enough n here e = let w = walk_walks n here e in walks_walk (length links) w (walks_short w)

  -- the places of a walk: it begins here, each point leads to the one after it, and the last to the start
  pub walks_first : {here : ℕ} {points : List ℕ} → Walks links start here points → (0 < length points) × (get_or points 0 0 ≡ here)
  walks_first (last e) = (omega arith, refl)
  walks_first (more e d w) = (omega arith, refl)

  pub walks_onward : {here : ℕ} {points : List ℕ} (i : ℕ) → Walks links start here points → suc i < length points
      → next links (get_or points i 0) ≡ some (get_or points (suc i) 0)
  walks_onward i (last e) l = absurd (omega arith)
  walks_onward zero (more {there = there} {points = ps} e d w) l = rw (walks_first w).1 e
  walks_onward (suc i) (more e d w) l = walks_onward i w (omega arith)

  pub walks_around : {here : ℕ} {points : List ℕ} (i : ℕ) → Walks links start here points → suc i ≡ length points
      → next links (get_or points i 0) ≡ some start
  walks_around zero (last e) l = e
  walks_around (suc i) (last e) l = absurd (omega arith)
  walks_around zero (more e d w) l = absurd (omega (arith, (walks_first w).0))
  walks_around (suc i) (more e d w) l = walks_around i w (omega arith)

  pub walks_after : {points : List ℕ} (i : ℕ) → Walks links start start points → i < length points
      → next links (get_or points i 0) ≡ some (after points i)
  walks_after {points} i w l = go (eqb (suc i) (length points)) refl
    where
      go : (b : Bool) → eqb (suc i) (length points) ≡ b
          → next links (get_or points i 0) ≡ some (cond b (get_or points 0 0) (get_or points (suc i) 0))
      go true e = rw (walks_first w).1 (walks_around i w (eqb-true (suc i) (length points) e))
      go false e =
          let d = eqb-false (suc i) (length points) e in
          walks_onward i w (omega arith)
