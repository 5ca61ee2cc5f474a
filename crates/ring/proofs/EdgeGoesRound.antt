-- An edge in its patch: answers 9 to 12 not given, the removed rows' links are those of the ring or chain, and its points fit.
use Prim.Native.Nat.{ℕ, zero, suc, ◌+◌, ◌≤◌, ◌<◌, min, max}
use mathlib.Core.Bool.{Bool, true, false, cond, not, ◌&&◌, ◌||◌}
use mathlib.Core.List.{List, [], ◌∷◌, Memᴰ}
use mathlib.Core.Path.{◌≡◌, refl, sym, ◌∙◌}
use native.Mathlib.Decide.{dec_lt}
use native.Mathlib.Omega.{arith}
use borrow.Author.Tests.{eqb-false, ne_eqb, ltb-true, not-false}
use lib.Dec.{T, eqb, ltb, ltb→lt}
use lib.ListN.{length, get_or, length-map}
use Rattle.lists.specs.Lists.{every, has, different}
use Rattle.lists.proofs.Tests.{and_l, and_r, is_yes}
use Rattle.lists.proofs.Lists.{every_at}
use Rattle.lists.proofs.Numbers.{different_head}
use Rattle.lists.proofs.Places.{in_at}
use Rattle.mesh.specs.Mesh.{keeps_mesh_rule}
use Rattle.layout.specs.Layout.{Patch}
use Rattle.answers.specs.Answers.{first_refusal}
use Rattle.answers.proofs.ByNumber.{test_of, passes}
use Rattle.links.specs.Links.{Link, link, starts, ends}
use Rattle.walk.specs.Walk.{all_close, circle_of, chain_of}
use Rattle.ring.specs.Ring.{min_ring, max_ring, Site, site_of, m}
use Rattle.ring.specs.Ring.{numbers_wrong, edge_missing, whole, rings_alone, or_chains, link_open, many_circles, length_wrong, edge_tests}
use Rattle.ring.specs.Ring.{ring_tests}
use Rattle.ring.specs.Steps.{found_of, edge_in}
use Rattle.links.proofs.LinksUnderRule.{LinkFits, links_fit, starts_different, ends_different}
use Rattle.walk.proofs.ClosedWalks.{after}
use Rattle.ring.proofs.OneChain.{open_head}
use Rattle.ring.proofs.OneRing.{GoesRound, circle_round, chain_round}

-- Answers 10, 11 and 12 of a call that takes chains too are not given.
pub record OneRound (site : Site) : Type 0 where
  pub held : edge_missing site ≡ false
  pub taken : link_open or_chains site ≡ false
  pub whole : many_circles site ≡ false

-- so it is where its answers 9 to 12 are not given
pub tests_passed : (site : Site) (e f : ℕ) → first_refusal (edge_tests or_chains site e f) ≡ 0
    → (numbers_wrong (length site.points) (e ∷ f ∷ []) ≡ false) × OneRound site
unfolding edge_tests test_of every
tests_passed site e f q =
    let tests = edge_tests or_chains site e f in
    (passes 9 tests tt q, record { held = passes 10 tests tt q; taken = passes 11 tests tt q; whole = passes 12 tests tt q })

-- where a call that takes rings alone does not give them, the links close, and one that takes chains too does not give them either
pub closed_passed : (site : Site) (e f : ℕ) → first_refusal (edge_tests rings_alone site e f) ≡ 0
    → (site.closed ≡ true) × (first_refusal (edge_tests or_chains site e f) ≡ 0)
unfolding edge_tests link_open first_refusal test_of every
closed_passed site e f q =
    let tests = edge_tests rings_alone site e f in
    let closed : site.closed ≡ true = not-false site.closed (not_true_and site.closed (passes 11 tests tt q)) in
    let none_open : link_open or_chains site ≡ false = rw closed in
    (closed, rw (passes 9 tests tt q, passes 10 tests tt q, none_open, passes 12 tests tt q))
  where
    not_true_and : (b : Bool) → not b && true ≡ false → not b ≡ false
    not_true_and true h = refl
    not_true_and false h = h

-- answer 9 not given: both numbers below the count, and different
pub numbers_right : (count e f : ℕ) → numbers_wrong count (e ∷ f ∷ []) ≡ false → (e < count) × (f < count) × (e ≡ f → ⊥)
unfolding numbers_wrong
numbers_right count e f q =
    let ns : List ℕ = e ∷ f ∷ [] in
    let h = is_yes _ (not-false (every (λ n. ltb n count) ns && different ns) q) in
    let low = and_l (every (λ n. ltb n count) ns) (different ns) h in
    let apart = and_r (every (λ n. ltb n count) ns) (different ns) h in (
      ltb→lt e count (every_at (λ n. ltb n count) ns low (Memᴰ.head refl)),
      ltb→lt f count (every_at (λ n. ltb n count) ns low (Memᴰ.tail (Memᴰ.head refl))),
      λ i. different_head e (f ∷ []) apart (Memᴰ.head refl) i,
    )

-- A point of the ring is below the count and neither a nor b.
pub record PointFits (count a b v : ℕ) : Type 0 where
  pub below : v < count
  pub not_a : a ≡ v → ⊥
  pub not_b : b ≡ v → ⊥

module _ (count : ℕ) (patch : Patch) (e f : ℕ) (apart : e ≡ f
    → ⊥) (rule : T (keeps_mesh_rule count patch.rows)) (one : OneRound (site_of patch e f)) where
  abbrev site : Site
  site = site_of patch e f

  ends_apart : min e f ≡ max e f → ⊥
  ends_apart i = apart (omega arith)

  some_link : 0 < length site.links
  unfolding site_of
  some_link =
      let d = eqb-false (length site.removed) 0 one.held in
      omega (arith, length-map site.removed (link (min e f) (max e f)))

  single : T (different (starts site.links))
  unfolding site_of
  single = starts_different (min e f) (max e f) ends_apart count patch.rows rule

  single_end : T (different (ends site.links))
  unfolding site_of
  single_end = ends_different (min e f) (max e f) ends_apart count patch.rows rule

  by_every : T (whole site)
  unfolding many_circles
  by_every = is_yes (whole site) (not-false (whole site) one.whole)

  pub site_goes_round : GoesRound site.links site.closed site.ring
  unfolding site_of whole
  site_goes_round = go (all_close site.links) refl by_every
    where
      go : (closed : Bool) → all_close site.links ≡ closed
          → T (every (has (cond closed (circle_of site.links) (chain_of site.links))) (starts site.links))
          → GoesRound site.links closed (cond closed (circle_of site.links) (chain_of site.links))
      go true c h = circle_round site.links some_link (is_yes _ c) single h
      go false c h = chain_round site.links single single_end (open_head site.links single single_end c).1 h

  link_points : {l : Link} → Memᴰ l site.links → LinkFits count (min e f) (max e f) l
  unfolding site_of
  link_points k = links_fit (min e f) (max e f) ends_apart count patch.rows rule k

  -- each point of the ring or chain is one of a link's
  pub site_point : {v : ℕ} → Memᴰ v site.ring → PointFits count (min e f) (max e f) v
  site_point {v} k =
      let (i, h, e) = in_at site.ring 0 k in
      go i h e (dec_lt i (length site.links))
    where
      round : GoesRound site.links site.closed site.ring
      round = site_goes_round

      few : length site.ring ≤ suc (length site.links)
      few = at_most_one_more site.closed round.size
        where
          at_most_one_more : (c : Bool) → length site.ring ≡ length site.links + cond c 0 1
              → length site.ring ≤ suc (length site.links)
          at_most_one_more true q = omega arith
          at_most_one_more false q = omega arith

      go : (i : ℕ) → i < length site.ring → get_or site.ring i 0 ≡ v → Dec (i < length site.links)
          → PointFits count (min e f) (max e f) v
      go i h q (yes s) =
          let fits = link_points (round.linked i s) in
          record { below = rw q at fits.below_v; not_a = λ j. fits.a_v (j ∙ sym q); not_b = λ j. fits.b_v (j ∙ sym q) }
      go zero h q (no s) = absurd (s some_link)
      go (suc i) h q (no s) =
          let on : after site.ring i ≡ v = rw (ne_eqb (suc i) (length site.ring) (λ q. omega arith)) q in
          let fits = link_points (round.linked i (omega (arith, few))) in
          record { below = rw on at fits.below_w; not_a = λ j. fits.a_w (j ∙ sym on); not_b = λ j. fits.b_w (j ∙ sym on) }

-- ---- what is found, for the calls that ask for it

-- it does not turn on where the points are
pub found_rows : (chains : Bool) (patch : Patch) (e f : ℕ)
    → found_of chains (site_of patch e f) ≡ found_of chains (edge_in patch.rows e f)
unfolding found_of ring_tests link_open many_circles whole site_of
found_rows chains patch e f = refl

-- a ring of a wrong length is no ring of three, so the 3-2 flip refuses it with the same number
pub wrong_not_three : (site : Site) → length_wrong site ≡ true → eqb (m site) min_ring ≡ false
wrong_not_three site q = go (ltb (m site) min_ring) refl q
  where
    go : (b : Bool) → ltb (m site) min_ring ≡ b → b || ltb max_ring (m site) ≡ true → eqb (m site) min_ring ≡ false
    go true e q = let h = ltb-true (m site) min_ring e in ne_eqb (m site) min_ring (λ i. omega arith)
    go false e q = let h = ltb-true max_ring (m site) q in ne_eqb (m site) min_ring (λ i. omega arith)
