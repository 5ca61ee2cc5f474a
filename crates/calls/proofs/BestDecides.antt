-- What decides answers 15 and 16: the best worst of the whole ring or chain, which the table of pieces keeps.
-- It is reached by a way that keeps the mesh rule and bounds all others, so the best of them stands for all.
use Prim.Native.Nat.{◌-◌, ◌≤◌}
use mathlib.Core.Bool.{Bool, true, false, not}
use mathlib.Core.Option.{none, some}
use mathlib.Core.Path.{◌≡◌, refl, ap, subst}
use borrow.Author.Tests.{not-false}
use lib.Dec.{T}
use lib.ListN.{length}
use Rattle.lists.specs.Lists.{every, any}
use Rattle.lists.proofs.Tests.{is_yes, yes_is, same_test}
use Rattle.lists.proofs.Lists.{every_at, every_i, any_i, those_e}
use Rattle.quality.specs.declared.Quality.{Quality}
use Rattle.quality.specs.Quality.{worse, as_good}
use Rattle.quality.proofs.QualityOrder.{Fraction, ◌⊑◌, at_most_trans, from_as_good}
use Rattle.mesh.specs.Mesh.{keeps_mesh_rule}
use Rattle.ring.specs.Ring.{Site, m}
use Rattle.ring.specs.SoundRing.{SoundRing}
use Rattle.triangulation.specs.Triangulation.{Tri, ways, table_after, rows_after}
use Rattle.triangulation.specs.Admissible.{admissible}
use Rattle.triangulation.specs.Best.{worst_of_way, ring_ways, table_best, chosen}
use Rattle.triangulation.proofs.WholeRing.{RingWay, BestOfRing, way_listed, listed_way, found_way, mark_none, table_best_lem, ring_chosen}
use Rattle.triangulation.proofs.WholeRing.{after_length}
use Rattle.calls.specs.Removing.{worst_now, no_way, none_better}

module _ (site : Site) (sound : SoundRing site) (three : 3 ≤ m site) where
  -- 15: the mark says that there is none
  pub mark_no_way : table_best site 1 (m site) ≡ none → no_way site ≡ true
  unfolding no_way
  mark_no_way e = go (any (admissible site) (ways (m site - 1))) refl
    where
      go : (b : Bool) → any (admissible site) (ways (m site - 1)) ≡ b → not b ≡ true
      go false q = refl
      go true q =
          let (t, w) = found_way site three (is_yes _ q) in
          absurd (mark_none site three sound e t w)

  module _ {q : Quality} (e : table_best site 1 (m site) ≡ some q) where
    top : BestOfRing site q
    top = table_best_lem site three sound e

    -- a best worst, that there is one
    pub best_some_way : no_way site ≡ false
    unfolding no_way ring_ways
    best_some_way =
        let (k, h) = those_e (admissible site) (ways (m site - 1)) (way_listed site three top.way) in
        ap not (yes_is (any (admissible site) (ways (m site - 1))) (any_i (admissible site) (ways (m site - 1)) k h))

    -- 16: a fraction equal to the best worst decides for all ways
    pub best_decides : (p : Quality) → Fraction p → T (as_good p q) → none_better site ≡ not (worse (worst_now site) p)
    unfolding none_better
    best_decides p fraction same =
        let equal = from_as_good p q same in
        let now = worst_now site in
        let test : Tri → Bool = λ t. not (worse now (worst_of_way site 1 t)) in
        same_test (every test (ring_ways site)) (not (worse now p))
        (λ h.
        let own : worst_of_way site 1 top.by ⊑ now =
        record { not_worse = every_at test (ring_ways site) h (way_listed site three top.way) } in
        (at_most_trans top.fraction equal.up (subst (λ x. x ⊑ now) top.worst own)).not_worse)
        (λ h. every_i test (ring_ways site) (λ t k.
        let low = top.bounds t (listed_way site three k) in
        let high : p ⊑ now = record { not_worse = h } in
        (at_most_trans top.fraction low (at_most_trans fraction equal.down high)).not_worse))

  -- 15 not given: the chosen way
  module _ (way : no_way site ≡ false) where
    chosen_ring : RingWay site (chosen site)
    unfolding no_way
    chosen_ring =
        let found = any (admissible site) (ways (m site - 1)) in
        let (t, w) = found_way site three (is_yes found (not-false found way)) in
        (ring_chosen site three sound t w).way

    -- the table afterwards keeps the mesh rule
    pub chosen_keeps : T (keeps_mesh_rule (length site.points) (table_after site (chosen site)))
    unfolding admissible
    chosen_keeps = chosen_ring.keeps

    -- and has as many rows as room was asked for
    pub chosen_rows : length (table_after site (chosen site)) ≡ rows_after site
    chosen_rows = after_length site (chosen site) chosen_ring.spans
