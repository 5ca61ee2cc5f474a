-- Answers 11 and 13 of a removal, and 12 of every call on an edge, are given exactly when their words are true of the rows.
use Prim.Native.Nat.{ℕ, ◌<◌, min, max}
use mathlib.Core.Bool.{Bool, true, false, cond, not, ◌&&◌, ◌||◌}
use mathlib.Core.List.{List, ◌++◌, Memᴰ}
use mathlib.Core.Logic.{◌↔◌, ◌⊎◌, inl, inr}
use mathlib.Core.Path.{◌≡◌, refl, sym, ap, ◌∙◌, subst}
use native.Mathlib.Omega.{arith}
use borrow.Author.Tests.{lt-ltb, not-false, not-true}
use lib.Dec.{T, ltb, ltb→lt}
use lib.ListN.{length}
use Rattle.lists.specs.Lists.{every, has}
use Rattle.lists.proofs.Tests.{is_yes, or_e, or_true}
use Rattle.lists.proofs.Places.{in_length}
use Rattle.mesh.specs.Mesh.{keeps_mesh_rule}
use Rattle.layout.specs.Layout.{Patch, fields_of}
use Rattle.answers.specs.Answers.{Tests, first_refusal}
use Rattle.answers.proofs.ByNumber.{test_of, before, unlike, passes, stops}
use Rattle.links.specs.Links.{Link, starts}
use Rattle.walk.specs.Walk.{all_close, circle_of, chain_of}
use Rattle.ring.specs.Ring.{Site, site_of, min_ring, max_ring, whole, or_chains}
use Rattle.ring.specs.Ring.{link_open, many_circles, length_wrong, edge_tests}
use Rattle.links.specs.Links.{links_of}
use Rattle.calls.specs.Removing.{removal_tests, remove_answer, Sound}
use Rattle.tables.specs.RoundAnEdge.{pair_count, Round, AllClose, TwoCircles, OneChain, WrongLength}
use Rattle.tables.proofs.RowsAndLinks.{held_link, held_pair}
use Rattle.tables.proofs.CirclesByWords.{close_words, words_close, two_words, words_two, chain_words, ring_words}
use Rattle.demands.specs.Premises.{Held, edge_at}
use Rattle.answers.proofs.ToldByNumber.{once, told, exactly}
use Rattle.demands.proofs.FrontTests.{number, tests, held_left, front_11, front_12}
use Rattle.demands.proofs.EdgeFound.{site_is, site_sound}

-- 11, by whether the links close and whether all lie on the ring or chain
abbrev open_test : Bool → Bool → Bool → Bool
open_test chains closed all = not closed && not (chains && all)

-- open links that do not all lie on one chain
open_apart : (chains : Bool) → open_test chains false false ≡ true
open_apart true = refl
open_apart false = refl

module _ (block out : List ℕ) (e f : ℕ) (held : Held block out e f) where
  abbrev patch : Patch
  patch = fields_of block

  abbrev site : Site
  site = site_of patch e f

  abbrev low : ℕ
  low = min e f

  abbrev high : ℕ
  high = max e f

  abbrev count : ℕ
  count = length patch.points

  abbrev its : List Link
  its = links_of low high patch.rows

  rule : T (keeps_mesh_rule count patch.rows)
  rule = held.right.body.rule

  ends_apart : low ≡ high → ⊥
  ends_apart i = held.ends.apart (omega arith)

  some_held : (l : Link) × Memᴰ l its
  some_held = held_link low high patch.rows held.some_row

  some_its : 0 < length its
  some_its = in_length its some_held.1

  abbrev theirs : Tests
  theirs = edge_tests or_chains site e f ++ removal_tests site

  is : remove_answer block out e f ≡ first_refusal theirs
  unfolding remove_answer
  is = held_left or_chains block out e f (removal_tests site) held

  -- the ring or the chain, by whether the links close, and whether all lie on it
  abbrev ring_by : Bool → List ℕ
  ring_by c = cond c (circle_of its) (chain_of its)

  abbrev all_on : Bool → Bool
  all_on c = every (has (ring_by c)) (starts its)

  open_is : (chains : Bool) → link_open chains site ≡ open_test chains (all_close its) (all_on (all_close its))
  unfolding link_open whole site_of
  open_is chains = refl

  many_is : many_circles site ≡ not (all_on (all_close its))
  unfolding many_circles whole site_of
  many_is = refl

  length_is : length_wrong site ≡ (ltb (length (ring_by (all_close its))) min_ring || ltb max_ring (length (ring_by (all_close its))))
  unfolding site_of
  length_is = refl

  -- one ring or chain: the kernel's edge is it
  module _ (closed : Bool) (vs : List ℕ) (round : Round patch.rows low high closed vs) where
    pub pair : 0 < pair_count closed vs
    pair = held_pair low high count patch.rows rule held.some_row ends_apart closed vs round

    found : site ≡ edge_at patch e f closed vs
    found = site_is block e f held.right closed vs round pair

    sound : Sound block e f
    sound = site_sound block e f held.right closed vs round pair

    passed_11 : link_open or_chains site ≡ false
    unfolding edge_tests test_of every
    passed_11 = passes 11 (edge_tests or_chains site e f) tt sound.one

  close→ : all_close its ≡ true → AllClose patch.rows low high
  close→ = close_words low high count patch.rows rule ends_apart

  →close : AllClose patch.rows low high → all_close its ≡ true
  →close = words_close low high count patch.rows rule ends_apart

  pub tells_11 : (remove_answer block out e f ≡ 11)
      ↔ ((AllClose patch.rows low high → ⊥) × (OneChain patch.rows low high → ⊥))
  unfolding edge_tests removal_tests once test_of every
  tells_11 =
      let (to, from) = exactly 11 theirs tt tt tt is (front_11 or_chains block out e f (removal_tests site) held) in (
        λ h. (
          λ all. let q = →close all in yes_no (sym (to h) ∙ open_is or_chains ∙ ap (λ c. open_test or_chains c (all_on c)) q),
          λ (vs, round). yes_no (sym (to h) ∙ passed_11 false vs round),
        ),
        λ (no_all, no_chain). from (open_is or_chains ∙ go no_all no_chain (all_close its) refl (all_on (all_close its)) refl),
      )
    where
      yes_no : true ≡ false → ⊥
      yes_no e = subst T e tt

      go : (AllClose patch.rows low high → ⊥) → (OneChain patch.rows low high → ⊥) → (c : Bool) → all_close its ≡ c
          → (w : Bool) → all_on (all_close its) ≡ w → open_test or_chains c w ≡ true
      go no_all no_chain true q w r = absurd (no_all (close→ q))
      go no_all no_chain false q true r =
          absurd (no_chain (chain_of its, chain_words low high count patch.rows rule ends_apart some_its q (rw q at r)))
      go no_all no_chain false q false r = refl

  -- 12, of every call on an edge
  pub tells_12 : (chains : Bool) (rest : Tests) → T (unlike 0 rest) → T (unlike 12 rest)
      → (number chains block out e f rest ≡ 12) ↔ (AllClose patch.rows low high × TwoCircles patch.rows low high)
  unfolding edge_tests once before test_of every
  tells_12 chains rest numbered other = (
    λ h.
        let all = tests chains block out e f rest in
        let (front, many) = told 12 all tt other (sym (held_left chains block out e f rest held) ∙ h) in
        go (all_close its) refl (sym (open_is chains) ∙ passes 11 (before 12 all) tt front)
        (not-true (all_on (all_close its)) (sym many_is ∙ many)),
    λ (all, two).
        let open-one : link_open chains site ≡ false = open_is chains ∙ ap (λ c. open_test chains c (all_on c)) (→close all) in
        held_left chains block out e f rest held
        ∙ stops 12 (tests chains block out e f rest) numbered (front_12 chains block out e f rest held open-one)
        (many_is ∙ missed all two (all_on (all_close its)) refl),
  )
    where
      go : (c : Bool) → all_close its ≡ c → open_test chains c (all_on c) ≡ false → all_on c ≡ false
          → AllClose patch.rows low high × TwoCircles patch.rows low high
      go true q p r = (close→ q, two_words low high count patch.rows rule ends_apart some_its q r)
      go false q p r = absurd (subst T (sym (open_apart chains) ∙ ap (λ w. open_test chains false w) (sym r) ∙ p) tt)

      missed : AllClose patch.rows low high → TwoCircles patch.rows low high → (w : Bool) → all_on (all_close its) ≡ w → not w ≡ true
      missed all two true r =
          absurd (words_two low high count patch.rows rule ends_apart some_its (→close all) two (rw (→close all) at r))
      missed all two false r = refl

  pub tells_13 : (remove_answer block out e f ≡ 13) ↔ WrongLength patch.rows low high
  unfolding edge_tests removal_tests once before test_of every
  tells_13 = (
    λ h.
        let (front, wrong) = told 13 theirs tt tt (sym is ∙ h) in
        go (all_close its) refl (not-false (all_on (all_close its)) (sym many_is ∙ passes 12 (before 13 theirs) tt front))
        (sym length_is ∙ wrong),
    λ (closed, vs, round, wrong).
        is ∙ stops 13 theirs tt (sound closed vs round).one (ap (λ (s : Site). length_wrong s) (found closed vs round) ∙ long vs wrong),
  )
    where
      wrong_e : (vs : List ℕ) → ltb (length vs) min_ring || ltb max_ring (length vs) ≡ true
          → (length vs < min_ring) ⊎ (max_ring < length vs)
      wrong_e vs r = which (or_e (ltb (length vs) min_ring) (ltb max_ring (length vs)) (is_yes _ r))
        where
          which : T (ltb (length vs) min_ring) ⊎ T (ltb max_ring (length vs)) → (length vs < min_ring) ⊎ (max_ring < length vs)
          which (inl h) = inl (ltb→lt (length vs) min_ring h)
          which (inr h) = inr (ltb→lt max_ring (length vs) h)

      long : (vs : List ℕ) → (length vs < min_ring) ⊎ (max_ring < length vs) → ltb (length vs) min_ring || ltb max_ring (length vs) ≡ true
      long vs (inl h) = rw (lt-ltb (length vs) min_ring h)
      long vs (inr h) = rw (lt-ltb max_ring (length vs) h) (or_true (ltb (length vs) min_ring))

      go : (c : Bool) → all_close its ≡ c → all_on c ≡ true → ltb (length (ring_by c)) min_ring || ltb max_ring (length (ring_by c)) ≡ true
          → WrongLength patch.rows low high
      go true q w r =
          (true, circle_of its, ring_words low high count patch.rows rule ends_apart some_its q w, wrong_e (circle_of its) r)
      go false q w r =
          (false, chain_of its, chain_words low high count patch.rows rule ends_apart some_its q w, wrong_e (chain_of its) r)
