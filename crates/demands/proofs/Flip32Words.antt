-- The refusals of a flip with two numbers are given exactly when their words are true of the block: 9, 10 and 12 as of every call on an edge, 11 of every
-- open case, 20 and 23 as of a removal; and a ring of three has one way to be triangulated.
use Prim.Native.Nat.{ℕ, min, max}
use mathlib.Core.Bool.{Bool, true, false, not, ◌&&◌, ◌||◌}
use mathlib.Core.List.{List, [], ◌∷◌, ◌++◌, flat_map}
use mathlib.Core.Logic.{◌↔◌}
use mathlib.Core.Path.{◌≡◌, refl, sym, ap, ◌∙◌, subst}
use native.Mathlib.Omega.{arith}
use borrow.Author.Tests.{eqb-false, ne_eqb, not-true, not-false}
use lib.Dec.{T, T_not}
use lib.ListN.{length}
use Rattle.lists.specs.Lists.{every, any, numbers_from}
use Rattle.lists.proofs.Tests.{and_true, or_false}
use Rattle.rows.specs.declared.Row.{Row}
use Rattle.mesh.specs.Mesh.{uses_either_way, keeps_mesh_rule}
use Rattle.rows.specs.Rows.{holds_edge}
use Rattle.rows.specs.Regions.{mixed}
use Rattle.rows.proofs.RegionsOfRows.{one_region, not_mixed}
use Rattle.marking.specs.Marking.{new_mark}
use Rattle.kept_marks.proofs.DressedRows.{dress_keeps}
use Rattle.layout.specs.Layout.{Patch, fields_of, block_bytes}
use Rattle.answers.specs.Answers.{Tests, first_refusal}
use Rattle.body.specs.Body.{body_tests}
use Rattle.block.specs.Holding.{RightBlock}
use Rattle.answers.proofs.ByNumber.{test_of, before, unlike, stops}
use Rattle.ring.specs.Ring.{Site, site_of, m, min_ring, rings_alone, link_open, edge_tests, whole}
use Rattle.ring.specs.SoundRing.{SoundRing}
use Rattle.triangulation.specs.Triangulation.{side, cut, span, triangles, closing_sides, diagonals, ways_within, two_rows, new_rows, table_after}
use Rattle.triangulation.specs.Admissible.{admissible, piece_admissible, end_faces, barred}
use Rattle.triangulation.proofs.AdmissibleByFaces.{ring_admissible}
use Rattle.calls.specs.Removing.{block_tests, no_way, mark_lost, Sound}
use Rattle.calls.specs.Flipping.{flip32_tests, flip_answer}
use Rattle.calls.proofs.CallTests.{reached, flip_two, flip32_left}
use Rattle.calls.proofs.SoundEdges.{sound_site}
use Rattle.tables.specs.RoundAnEdge.{Round, AllClose, TwoCircles}
use Rattle.tables.specs.FlipRows.{off, new32, after32}
use Rattle.tables.proofs.CirclesByWords.{close_words, words_close}
use Rattle.demands.specs.Premises.{TwoPoints, Held, edge_at, OneMaterial, MarksStay}
use Rattle.demands.specs.Kernels.{ours}
use Rattle.demands.specs.FlipWords.{NotThree, RingOfThree, Tells32}
use Rattle.demands.proofs.EdgeFound.{site_is, site_tested, site_stated, site_sound}
use Rattle.demands.proofs.PremisesMet.{sound_round}
use Rattle.demands.proofs.RingWords.{pair, tells_12}
use Rattle.answers.proofs.ToldByNumber.{past, once, told, exactly, unless, goes_past}
use Rattle.demands.proofs.FrontTests.{tells_9, tells_10, held_left, front_11, rule_15, rule_0, returned}

-- ---- 11, 12 and 13

-- the links are open where they do not all close
open_is : (closed all : Bool) → not closed && not (false && all) ≡ not closed
open_is true all = refl
open_is false all = refl

module _ (block out : List ℕ) (e f : ℕ) (held : Held block out e f) where
  abbrev patch : Patch
  patch = fields_of block

  abbrev its : Site
  its = site_of patch e f

  abbrev theirs : Tests
  theirs = edge_tests rings_alone its e f ++ flip32_tests its

  is : flip_answer block out (e ∷ f ∷ []) ≡ first_refusal theirs
  is = flip_two block out e f ∙ held_left rings_alone block out e f (flip32_tests its) held

  ends_apart : min e f ≡ max e f → ⊥
  ends_apart i = held.ends.apart (omega arith)

  closed_words : its.closed ≡ true → AllClose patch.rows (min e f) (max e f)
  unfolding site_of
  closed_words = close_words (min e f) (max e f) (length patch.points) patch.rows held.right.body.rule ends_apart

  words_closed : AllClose patch.rows (min e f) (max e f) → its.closed ≡ true
  unfolding site_of
  words_closed = words_close (min e f) (max e f) (length patch.points) patch.rows held.right.body.rule ends_apart

  tells_11 : (flip_answer block out (e ∷ f ∷ []) ≡ 11) ↔ (AllClose patch.rows (min e f) (max e f) → ⊥)
  unfolding edge_tests flip32_tests link_open whole once test_of every
  tells_11 =
      let told = exactly 11 theirs tt tt tt is (front_11 rings_alone block out e f (flip32_tests its) held) in
      unless (link_open rings_alone its) told (λ all. open_is its.closed (whole its) ∙ ap not (words_closed all))
      (λ q. closed_words (not-false its.closed (sym (open_is its.closed (whole its)) ∙ q)))

  flip_tells_12 : (flip_answer block out (e ∷ f ∷ []) ≡ 12)
      ↔ (AllClose patch.rows (min e f) (max e f) × TwoCircles patch.rows (min e f) (max e f))
  unfolding flip32_tests every
  flip_tells_12 = rw (flip_two block out e f) (tells_12 block out e f held rings_alone (flip32_tests its) tt tt)

  front_not_13 : T (unlike 13 (block_tests block out ++ edge_tests rings_alone its e f))
  unfolding block_tests body_tests edge_tests every
  front_not_13 = tt

  tells_13 : (flip_answer block out (e ∷ f ∷ []) ≡ 13) ↔ NotThree patch.rows (min e f) (max e f)
  unfolding flip32_tests once before test_of first_refusal every
  tells_13 = (
    λ h.
        let (sound, size, last, closed) = reached rings_alone block out e f (flip32_tests its) 13 front_not_13
        (sym (flip_two block out e f) ∙ h) in (
          its.ring,
          subst (λ c. Round patch.rows (min e f) (max e f) c its.ring) (closed refl) (sound_round block e f sound),
          eqb-false (m its) min_ring (not-true _ (told 13 (flip32_tests its) tt tt last).1),
        ),
    λ (vs, round, other).
        let some = pair block out e f held true vs round in
        let is = site_is block e f held.right true vs round some in
        let sound = site_sound block e f held.right true vs round some in
        let length_is : m its ≡ length vs = ap (λ (s : Site). m s) is in
        flip32_left block out e f sound (ap (λ (s : Site). s.closed) is) held.right_length
        ∙ stops 13 (flip32_tests its) tt refl (ap not (ne_eqb (m its) min_ring (λ i. other (sym length_is ∙ i)))),
  )

-- ---- 20, 23, 15, and 0

module _ (block out : List ℕ) (e f u v w : ℕ) (given : RingOfThree block out e f u v w) where
  abbrev rows : List Row
  rows = (fields_of block).rows

  abbrev points : ℕ
  points = length (fields_of block).points

  abbrev ringed : Site
  ringed = edge_at (fields_of block) e f true (u ∷ v ∷ w ∷ [])

  abbrev after : List Row
  after = after32 rows (min e f) (max e f) u v w

  sited : site_of (fields_of block) e f ≡ ringed
  sited = site_is block e f given.right true (u ∷ v ∷ w ∷ []) given.round (omega arith)

  sound : Sound block e f
  sound = site_sound block e f given.right true (u ∷ v ∷ w ∷ []) given.round (omega arith)

  -- the table without the new marks
  abbrev plain : List Row
  plain = off rows (min e f) (max e f) ++ new32 rows (min e f) (max e f) u v w

  -- it keeps the mesh rule where the table does
  plain_is : keeps_mesh_rule points after ≡ keeps_mesh_rule points plain
  plain_is = dress_keeps (new_mark ringed.removed ringed.kept) points ringed.kept (new32 rows (min e f) (max e f) u v w)

  -- the one way is the triangle
  way_is : no_way ringed ≡ not (keeps_mesh_rule points after)
  unfolding no_way any admissible table_after new_rows two_rows triangles span ways_within flat_map numbers_from
  way_is = ap not (or_false (keeps_mesh_rule points plain) ∙ sym plain_is)

  left_20 : flip_answer block out (e ∷ f ∷ []) ≡ first_refusal (flip32_tests ringed)
  left_20 =
      flip32_left block out e f sound (ap (λ (s : Site). s.closed) sited) given.right_length
      ∙ ap (λ (s : Site). first_refusal (flip32_tests s)) sited

  flip_tells_20 : (flip_answer block out (e ∷ f ∷ []) ≡ 20) ↔ (OneMaterial (fields_of block) e f → ⊥)
  unfolding flip32_tests once before test_of first_refusal every
  flip_tells_20 =
      unless (mixed ringed.removed) (exactly 20 (flip32_tests ringed) tt tt tt left_20 refl) (not_mixed ringed.removed)
      (one_region ringed.removed)

  unmarked : MarksStay (fields_of block) e f → mark_lost ringed ≡ false
  unmarked = site_tested block e f given.right true (u ∷ v ∷ w ∷ []) given.round (omega arith)

  -- it keeps the mesh rule where no other row has the triangle for a face
  keeps_is : keeps_mesh_rule points after ≡ not (any (uses_either_way (u, v, w)) (off rows (min e f) (max e f)))
  unfolding admissible table_after new_rows two_rows triangles diagonals closing_sides span barred end_faces piece_admissible any flat_map
  keeps_is =
      let ring : SoundRing ringed = subst SoundRing sited (sound_site block e f sound) in
      let used = any (uses_either_way (u, v, w)) (off rows (min e f) (max e f)) in
      plain_is
      ∙ ring_admissible ringed ring (cut side side) refl (omega arith)
      ∙ and_true (not (used || false))
      ∙ ap not (or_false used)

  module _ (one : OneMaterial (fields_of block) e f) where
    front_23 : first_refusal (before 23 (flip32_tests ringed)) ≡ 0
    unfolding flip32_tests before first_refusal
    front_23 = rw (not_mixed ringed.removed one)

    flip_tells_23 : (flip_answer block out (e ∷ f ∷ []) ≡ 23) ↔ (MarksStay (fields_of block) e f → ⊥)
    unfolding flip32_tests once test_of every
    flip_tells_23 =
        unless (mark_lost ringed) (exactly 23 (flip32_tests ringed) tt tt tt left_20 front_23) unmarked
        (site_stated block e f given.right true (u ∷ v ∷ w ∷ []) given.round (omega arith))

  module _ (one : OneMaterial (fields_of block) e f) (stay : MarksStay (fields_of block) e f) where
    left_15 : flip_answer block out (e ∷ f ∷ []) ≡ first_refusal ((15, not (keeps_mesh_rule points after)) ∷ [])
    unfolding flip32_tests before past test_of first_refusal every
    left_15 =
        left_20
        ∙ goes_past 23 (flip32_tests ringed) tt (front_23 one) (unmarked stay)
        ∙ ap (λ p. first_refusal ((15, p) ∷ [])) way_is

    flip_tells_15 : (flip_answer block out (e ∷ f ∷ []) ≡ 15) ↔ (T (keeps_mesh_rule points after) → ⊥)
    flip_tells_15 = rule_15 (flip_answer block out (e ∷ f ∷ [])) (keeps_mesh_rule points after) left_15

    flip_tells_0 : (flip_answer block out (e ∷ f ∷ []) ≡ 0) ↔ T (keeps_mesh_rule points after)
    flip_tells_0 = rule_0 (flip_answer block out (e ∷ f ∷ [])) (keeps_mesh_rule points after) left_15

    by_triangle : (flip_answer block out (e ∷ f ∷ []) ≡ 15) ↔ T (any (uses_either_way (u, v, w)) (off rows (min e f) (max e f)))
    by_triangle =
        let used = any (uses_either_way (u, v, w)) (off rows (min e f) (max e f)) in (
          λ h. twice used (λ k. flip_tells_15.0 h (subst T (sym keeps_is) k)),
          λ k. flip_tells_15.1 (λ keeps. T_not used (subst T keeps_is keeps) k),
        )
      where
        twice : (b : Bool) → (T (not b) → ⊥) → T b
        twice true h = tt
        twice false h = absurd (h tt)

-- ---- the record

-- 9 and 10
module _ (block out : List ℕ) (e f : ℕ) (right : RightBlock block) (size : length out ≡ block_bytes) where
  flip_tells_9 : (flip_answer block out (e ∷ f ∷ []) ≡ 9) ↔ (TwoPoints block e f → ⊥)
  unfolding flip32_tests every
  flip_tells_9 = rw (flip_two block out e f) (tells_9 rings_alone block out e f (flip32_tests (site_of (fields_of block) e f)) tt right size tt)

  flip_tells_10 : TwoPoints block e f
      → (flip_answer block out (e ∷ f ∷ []) ≡ 10) ↔ T (not (any (holds_edge (min e f) (max e f)) (fields_of block).rows))
  unfolding flip32_tests every
  flip_tells_10 = rw (flip_two block out e f) (tells_10 rings_alone block out e f (flip32_tests (site_of (fields_of block) e f)) tt right size tt)

pub tells_32 : Tells32 ours
unfolding ours
tells_32 = record {
  nine = λ block out e f right size.
      returned (flip_tells_9 block out e f right size);
  ten = λ block out e f right size two.
      returned (flip_tells_10 block out e f right size two);
  eleven = λ block out e f held. returned (tells_11 block out e f held);
  twelve = λ block out e f held. returned (flip_tells_12 block out e f held);
  thirteen = λ block out e f held. returned (tells_13 block out e f held);
  twenty = λ block out e f u v w given. returned (flip_tells_20 block out e f u v w given);
  twenty_three = λ block out e f u v w given one. returned (flip_tells_23 block out e f u v w given one);
  fifteen = λ block out e f u v w given one stay. returned (flip_tells_15 block out e f u v w given one stay);
  fifteen_by_triangle = λ block out e f u v w given one stay. returned (by_triangle block out e f u v w given one stay);
  done = λ block out e f u v w given one stay. returned (flip_tells_0 block out e f u v w given one stay);
}
