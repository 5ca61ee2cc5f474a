-- The 3-2 flip of an edge in a block that opens: the edge's refusal, 13, 20, 23, 15, or the block afterwards.
use Prim.Native.Nat.{ℕ, suc, ◌≤◌, min, max}
use mathlib.Core.Bool.{Bool, true, false, cond, not}
use mathlib.Core.List.{List, [], ◌∷◌, ◌++◌}
use mathlib.Core.Path.{◌≡◌, refl, sym, ap, ◌∙◌, subst}
use native.Mathlib.Omega.{arith}
use borrow.Author.Tests.{eq-eqb, ne_eqb}
use lib.Dec.{T, eqb}
use lib.ListN.{length, take, set, length-append, length-map}
use Rattle.lists.specs.Lists.{every, any}
use Rattle.lists.proofs.Lists.{those_split}
use Rattle.rows.specs.declared.Row.{Row}
use Rattle.rows.specs.Rows.{version, rows_in, with_rows, holds_edge}
use Rattle.rows.specs.Regions.{region_of, mixed}
use Rattle.rows.specs.Steps.{regions_of}
use Rattle.rows.specs.declared.Regions.TheVariants.{One, Several}
use Rattle.rows.proofs.RegionsRowByRow.{told_several, told_one}
use Rattle.marking.specs.Marking.{marks_over, dress_by, new_mark}
use Rattle.dressing.proofs.MarksThatGo.{edge_goes_among}
use Rattle.std.specs.Prelude.{Option as Optional, None, Some, Result, Ok, Err}
use Rattle.answers.specs.declared.Refusal.{Refusal}
use Rattle.layout.specs.Layout.{block_bytes, body_bytes, max_rows, fields_of, sealed}
use Rattle.layout.specs.Within.{is_byte}
use Rattle.answers.specs.Answers.{Tests, first_refusal, answer_of}
use Rattle.block.specs.Opening.{open_answer}
use Rattle.answers.proofs.ByNumber.{unlike, test_of, before, stops, front_passed}
use Rattle.layout.proofs.PatchWritten.{rows_counted}
use Rattle.tally.proofs.OpensMeasured.{few_rows}
use Rattle.ring.specs.declared.Found.{Found}
use Rattle.ring.specs.declared.Ring.{Ring}
use Rattle.ring.specs.Ring.{Site, site_of, m, min_ring, rings_alone, edge_tests, length_wrong}
use Rattle.ring.specs.SoundRing.{SoundRing}
use Rattle.ring.proofs.EdgeGoesRound.{wrong_not_three}
use Rattle.triangulation.specs.Triangulation.{new_rows, table_after, rows_after}
use Rattle.triangulation.specs.Best.{chosen}
use Rattle.cells.specs.Steps.{cells}
use Rattle.output.specs.Steps.{begun}
use Rattle.output.proofs.BlockAfterwards.{block_finished}
use Rattle.calls.specs.Removing.{Sound, no_way, mark_lost, rows_made, patch_after}
use Rattle.calls.specs.Flipping.{flip32_tests, flip_tests, patch_flipped, flip_answer, flip_bytes}
use Rattle.calls.proofs.CallTests.{flip_left}
use Rattle.calls.proofs.FlipTold.{Told, flip_refused, flip_passed_on}
use Rattle.calls.proofs.BestDecides.{chosen_rows}
use Rattle.calls.proofs.SoundEdges.{sound_site, two_go}
use Rattle.edge.specs.Steps.{edge_answer, edge_found}
use Rattle.edge.specs.declared.RingedEdge.{RingedEdge}
use Rattle.edge.specs.Edges.{site_of_edge, IsEdgeOf}
use Rattle.edge.proofs.EdgeRinged.{found_refused, own_ring, own_regions, edge_one, edge_sound, own_site, in_block_site}
use Rattle.replacement.specs.declared.Way.{Way}
use Rattle.replacement.specs.Steps.{BestWay, Carriable}
use Rattle.replacement.proofs.MarkOfWay.{marked, unmarked}

-- a refusal stands, if the last test is only stricter and others follow it
refusal_stands : (xs : Tests) (n : ℕ) (b c : Bool) (rest : Tests) → (b ≡ true → c ≡ true) → (first_refusal (xs ++ (n, b) ∷ []) ≡ 0 → ⊥)
    → first_refusal (xs ++ (n, c) ∷ rest) ≡ first_refusal (xs ++ (n, b) ∷ [])
unfolding first_refusal
refusal_stands [] n true c rest f h = rw (f refl)
refusal_stands [] n false c rest f h = absurd (h refl)
refusal_stands ((i, t) ∷ xs) n b c rest f h = go t h (refusal_stands xs n b c rest f)
  where
    go : (t : Bool) → (cond t i (first_refusal (xs ++ (n, b) ∷ [])) ≡ 0 → ⊥)
        → ((first_refusal (xs ++ (n, b) ∷ []) ≡ 0 → ⊥) → first_refusal (xs ++ (n, c) ∷ rest) ≡ first_refusal (xs ++ (n, b) ∷ []))
        → cond t i (first_refusal (xs ++ (n, c) ∷ rest)) ≡ cond t i (first_refusal (xs ++ (n, b) ∷ []))
    go true h f = refl
    go false h f = f h

-- a ring of three points goes with at least two rows and comes back with two, so there is always room
pub three_room : (block : List ℕ) (e f : ℕ) → Sound block e f → m (site_of (fields_of block) e f) ≡ min_ring
    → rows_after (site_of (fields_of block) e f) ≤ max_rows
unfolding site_of
three_room block e f sound three =
    omega (
      arith,
      two_go (site_of (fields_of block) e f) (sound_site block e f sound) three,
      those_split (holds_edge (min e f) (max e f)) (fields_of block).rows,
      rows_counted block,
      few_rows block sound.opens,
    )

module _ (block out : List ℕ) (e f : ℕ) where
  abbrev site : Site
  site = site_of (fields_of block) e f

  abbrev after : List Row
  after = (patch_after site).rows

  abbrev edge : Tests
  edge = edge_tests rings_alone site e f

  edge_numbered : T (unlike 0 edge)
  unfolding edge_tests every
  edge_numbered = tt

  flip_numbered : T (unlike 0 (flip32_tests site))
  unfolding flip32_tests every
  flip_numbered = tt

  abbrev Kept : Result (Unit {0}) Refusal → Type 0
  Kept answer = Told block out (e ∷ f ∷ []) answer out

  module _ (opens : open_answer block ≡ 0) (size : length out ≡ block_bytes) where
    -- what is left behind the block's own answers
    same_answer : flip_answer block out (e ∷ f ∷ []) ≡ first_refusal (edge ++ flip32_tests site)
    unfolding flip_tests
    same_answer = flip_left block out (e ∷ f ∷ []) opens size

    refusal : (k : ℕ) → first_refusal (edge ++ flip32_tests site) ≡ suc k → Kept (Err (record { number = suc k }))
    refusal k h = flip_refused block out (e ∷ f ∷ []) k (same_answer ∙ h)

    -- answers 9 to 13
    edge_stands : (edge_answer rings_alone block e f ≡ 0 → ⊥) → flip_answer block out (e ∷ f ∷ []) ≡ edge_answer rings_alone block e f
    unfolding edge_answer flip32_tests
    edge_stands h =
        same_answer ∙ refusal_stands edge 13 (length_wrong site) (not (eqb (m site) min_ring)) _ (λ q. ap not (wrong_not_three site q)) h

    pub edge_refuses : {refusal : Refusal} → edge_found rings_alone block e f ≡ Err refusal → Kept (Err refusal)
    edge_refuses {refusal} i =
        flip_passed_on block out (e ∷ f ∷ []) refusal
        (found_refused rings_alone block e f opens i (flip_answer block out (e ∷ f ∷ [])) tt edge_stands)

    -- ---- behind the edge

    module _ (found : Found) (i : edge_found rings_alone block e f ≡ Ok found) where
      -- the flip's own answers are left
      own_left : first_refusal (edge ++ flip32_tests site) ≡ first_refusal (flip32_tests site)
      own_left = front_passed edge (flip32_tests site) edge_numbered (edge_one rings_alone block e f opens found i)

      ring_length : found.ring.m ≡ m site
      ring_length = ap (λ (r : Ring). r.m) (own_ring rings_alone block e f opens found i)

      pub not_three : (found.ring.m ≡ min_ring → ⊥) → Kept (Err (record { number = 13 }))
      unfolding flip32_tests first_refusal before test_of
      not_three d =
          let other = ap not (ne_eqb (m site) min_ring (λ q. d (ring_length ∙ q))) in
          refusal 12 (own_left ∙ stops 13 (flip32_tests site) flip_numbered refl other)

      -- the regions of the rows that go
      regions_are : found.regions ≡ regions_of site.removed
      regions_are = own_regions rings_alone block e f opens found i

      pub several_regions : found.ring.m ≡ min_ring → found.regions ≡ Several → Kept (Err (record { number = 20 }))
      unfolding flip32_tests first_refusal before test_of
      several_regions three several =
          let more = told_several site.removed (sym regions_are ∙ several) in
          refusal 19 (own_left ∙ stops 20 (flip32_tests site) flip_numbered (rw (eq-eqb (m site) min_ring (sym ring_length ∙ three))) more)

      pub one_region : (region : ℕ) → found.regions ≡ One region → (mixed site.removed ≡ false) × (region ≡ region_of site.removed)
      one_region region is = told_one site.removed (sym regions_are ∙ is)

      module _ (three : found.ring.m ≡ min_ring) (its : RingedEdge) (own : IsEdgeOf block e f found.closed found.ring its) where
        its_site : site_of_edge its ≡ site
        its_site = in_block_site own ∙ own_site rings_alone block e f opens found i (min e f) (max e f) refl refl

        three_points : m site ≡ min_ring
        three_points = sym ring_length ∙ three

        sound : SoundRing site
        sound = sound_site block e f (edge_sound rings_alone block e f opens found i)

        room : rows_after site ≤ max_rows
        room = three_room block e f (edge_sound rings_alone block e f opens found i) three_points

        -- whether a marked face would go
        lost_is : (told : Bool) → told ≡ any (marks_over (its.a ∷ its.b ∷ its.b ∷ [])) (rows_in its.table.now its.n) → mark_lost site ≡ told
        unfolding site_of fields_of
        lost_is told is =
            sym (is ∙ edge_goes_among its.a its.b (rows_in its.table.now its.n) ∙ rw (own.table, own.n, own.a, own.b))

        pub mark_lost_lem : mixed site.removed ≡ false → (told : Bool)
            → told ≡ any (marks_over (its.a ∷ its.b ∷ its.b ∷ [])) (rows_in its.table.now its.n)
            → told ≡ true → Kept (Err (record { number = 23 }))
        unfolding flip32_tests first_refusal before test_of
        mark_lost_lem one told is y =
            refusal 22 (own_left ∙ stops 23 (flip32_tests site) flip_numbered (rw (eq-eqb (m site) min_ring three_points, one)) (lost_is told is ∙ y))

        pub marks_stay : (told : Bool) → told ≡ any (marks_over (its.a ∷ its.b ∷ its.b ∷ [])) (rows_in its.table.now its.n) → told ≡ false
            → mark_lost site ≡ false
        marks_stay told is n = lost_is told is ∙ n

        module _ (one : mixed site.removed ≡ false) (stay : mark_lost site ≡ false) (best : Optional Way) (is-best : BestWay (site_of_edge its) best) where
          best_way : BestWay site best
          best_way = subst (λ (s : Site). BestWay s best) its_site is-best

          pub no_way_lem : best ≡ None → Kept (Err (record { number = 15 }))
          unfolding flip32_tests first_refusal before test_of
          no_way_lem mark =
              let none = marked site sound (omega (arith, three_points)) best best_way mark in
              refusal 14 (own_left ∙ stops 15 (flip32_tests site) flip_numbered (rw (eq-eqb (m site) min_ring three_points, one, stay)) none)

          module _ (way : Way) (is : best ≡ Some way) where
            some_way : no_way site ≡ false
            some_way = unmarked site sound (omega (arith, three_points)) best best_way way is

            zero_answer : flip_answer block out (e ∷ f ∷ []) ≡ 0
            unfolding flip32_tests first_refusal
            zero_answer = same_answer ∙ own_left ∙ rw (eq-eqb (m site) min_ring three_points, one, stay, some_way)

            pub carriable : {region : ℕ} {rows : List ℕ} → region ≡ region_of site.removed → length way.apexes ≡ cells
                → body_bytes ≤ length rows → version rows ≡ version block
                → Carriable (site_of_edge its) region way.apexes its.table.now rows
            carriable {region} right whole place same = record {
              own_region = subst (λ (s : Site). region ≡ region_of s.removed) (sym its_site) right;
              room = subst (λ (s : Site). rows_after s ≤ max_rows) (sym its_site) room;
              whole = whole;
              stand = rw is at is-best.apexes;
              place = place;
              same_version = same ∙ ap version (sym own.table);
            }

            few : length after ≤ max_rows
            unfolding patch_after table_after
            few =
                let new = new_rows site 1 (chosen site) in
                let made = length-map new (dress_by (new_mark site.removed site.kept)) in
                omega (
                  arith,
                  chosen_rows site sound (omega (arith, three_points)) some_way,
                  room,
                  length-append site.kept (rows_made site),
                  length-append site.kept new,
                )

            pub done_answer : Ok tt ≡ answer_of (flip_answer block out (e ∷ f ∷ []))
            done_answer = sym (ap answer_of zero_answer)

            module _ (n : ℕ) (n_is : n ≡ length (patch_after (site_of_edge its)).rows) where
              own_number : n ≡ length after
              own_number = n_is ∙ ap (λ (s : Site). length (patch_after s).rows) its_site

              pub room_for : n ≤ max_rows
              room_for = omega (arith, own_number, few)

              -- the block that was begun, with the rows in their place, finished
              pub done_bytes : T (every is_byte block) → (one two done : List ℕ) → one ≡ begun block out
                  → two ≡ with_rows one 0 (patch_after (site_of_edge its)).rows
                  → done ≡ sealed (take body_bytes (set two 2 n))
                  → done ≡ flip_bytes block out (e ∷ f ∷ [])
              unfolding flip_bytes patch_flipped patch_after site_of
              done_bytes are one two done b t d =
                  rw zero_answer
                  (block_finished block are opens out one size b after few two (t ∙ ap (λ (s : Site). with_rows one 0 (patch_after s).rows) its_site)
                  n own_number done d)
