-- What an edge in a block that opens gives: a refusal has the edge's number, and with answer 0 the edge has its ring or chain.
use Prim.Native.Nat.{ℕ, zero, suc, ◌≤◌, ◌<◌, min, max}
use mathlib.Core.Bool.{Bool, true, false}
use mathlib.Core.List.{List, ◌++◌}
use mathlib.Core.Path.{◌≡◌, sym, ap, ◌∙◌, subst}
use native.Mathlib.Omega.{arith}
use borrow.Author.Tests.{ltb-false}
use lib.Dec.{ltb}
use lib.ListN.{get_or}
use Rattle.rows.specs.Steps.{regions_of}
use Rattle.lists.specs.Lists.{every}
use Rattle.lists.proofs.Places.{at_in}
use Rattle.lists.proofs.Tests.{neither_is}
use Rattle.std.specs.Prelude.{Ok, Err}
use Rattle.answers.specs.declared.Refusal.{Refusal}
use Rattle.layout.specs.Layout.{point_count, row_count, coordinates_of, fields_of}
use Rattle.answers.specs.Answers.{first_refusal, gives}
use Rattle.answers.proofs.Refusals.{given_done, passed_on}
use Rattle.block.specs.Opening.{open_answer}
use Rattle.answers.proofs.ByNumber.{test_of, passes, both_passed}
use Rattle.layout.proofs.PatchWritten.{points_counted}
use Rattle.tally.proofs.OpensMeasured.{few_points, few_rows, opens_measured, marks_agree}
use Rattle.ring.specs.declared.Found.{Found}
use Rattle.ring.specs.declared.Ring.{Ring}
use Rattle.ring.specs.Ring.{Site, site_of, m, min_ring, max_ring, rings_alone, edge_tests, length_tests, length_wrong, ring_with}
use Rattle.ring.specs.SoundRing.{SoundRing}
use Rattle.ring.proofs.RingInAnyOrder.{site_ordered}
use Rattle.kept_faces.specs.Steps.{Fillable}
use Rattle.triangulation.specs.Steps.{site_in}
use Rattle.calls.specs.Removing.{Sound}
use Rattle.calls.proofs.CallTests.{taken}
use Rattle.calls.proofs.SoundEdges.{ends_fit, sound_site, ring_point}
use Rattle.edge.specs.Steps.{edge_answer, edge_found, Ringed, RingedFact}
use Rattle.edge.specs.declared.RingedEdge.{RingedEdge}
use Rattle.edge.specs.Edges.{site_of_edge, IsEdgeOf}

-- what a `RingedEdge` keeps of its ring or chain
pub fact_of : {coordinates : List ℕ} {count : ℕ} {table : List ℕ} {n a b : ℕ} {closed : Bool} {ring : Ring}
    → Ringed coordinates count table n a b closed ring → RingedFact coordinates count table n a b closed ring
fact_of given = record { ready = given.ready; measured = given.measured; sound = ∣ given.sound ∣₁; agrees = given.agrees }

-- what is given with answer 0
given_is : {A : Type 0} (n : ℕ) (x : A) {y : A} → gives n x ≡ Ok y → y ≡ x
given_is zero x e = cc
given_is (suc n) x e = cc

module _ (chains : Bool) (block : List ℕ) (e f : ℕ) (opens : open_answer block ≡ 0) where
  abbrev site : Site
  site = site_of (fields_of block) e f

  -- a refusal is passed on by a call whose answer is the edge's
  pub found_refused : {refusal : Refusal} → edge_found chains block e f ≡ Err refusal → {A : Type 0} (k : ℕ) (x : A)
      → ((edge_answer chains block e f ≡ 0 → ⊥) → k ≡ edge_answer chains block e f) → Err refusal ≡ gives k x
  unfolding edge_found
  found_refused i k x same = passed_on (edge_answer chains block e f) k _ x i same

  module _ (found : Found) (i : edge_found chains block e f ≡ Ok found) where
    edge_passes : edge_answer chains block e f ≡ 0
    unfolding edge_found
    edge_passes = given_done (edge_answer chains block e f) _ found i

    pub own_found : found ≡ record { closed = site.closed; ring = ring_with site.ring; regions = regions_of site.removed }
    unfolding edge_found
    own_found = given_is (edge_answer chains block e f) _ i

    pub own_ring : found.ring ≡ ring_with site.ring
    own_ring = ap (λ (found : Found). found.ring) own_found

    pub own_closed : found.closed ≡ site.closed
    own_closed = ap (λ (found : Found). found.closed) own_found

    pub own_regions : found.regions ≡ regions_of site.removed
    own_regions = ap (λ (found : Found). found.regions) own_found

    -- answers 9 to 12, by what the call takes
    pub edge_one : first_refusal (edge_tests chains site e f) ≡ 0
    unfolding edge_answer edge_tests every
    edge_one = (both_passed 0 (edge_tests chains site e f) (length_tests site) tt edge_passes).0

    pub edge_sound : Sound block e f
    edge_sound = record { opens = opens; one = (taken chains site e f edge_one).0 }

    -- where rings alone are taken it is closed
    pub alone_closed : chains ≡ rings_alone → site.closed ≡ true
    alone_closed = (taken chains site e f edge_one).1

    pub length_right : length_wrong site ≡ false
    unfolding edge_answer edge_tests test_of every
    length_right = passes 13 (edge_tests chains site e f ++ length_tests site) tt edge_passes

    lengths : (min_ring ≤ m site) × (m site ≤ max_ring)
    lengths =
        let (low, high) = neither_is (ltb (m site) min_ring) (ltb max_ring (m site)) length_right in
        (ltb-false (m site) min_ring low, ltb-false max_ring (m site) high)

    -- both numbers are bytes
    pub ends_bytes : (e < 256) × (f < 256)
    ends_bytes =
        let (low, high, apart) = ends_fit block e f edge_sound in
        let few = few_points block opens in
        (omega (arith, points_counted block), omega (arith, points_counted block))

    module _ (a b : ℕ) (p : a ≡ min e f) (q : b ≡ max e f) where
      pub own_site : site_in (coordinates_of block) (point_count block) block (row_count block) a b ≡ site
      unfolding fields_of
      own_site = rw (p, q) (site_ordered (fields_of block) e f)

      ready : Fillable (coordinates_of block) (point_count block) block (row_count block) a b found.closed found.ring
      ready =
          let measured = opens_measured block opens in
          let (low, high, apart) = ends_fit block e f edge_sound in
          record {
            points = measured.points_held;
            few_points = few_points block opens;
            rows = measured.rows_held;
            few_rows = few_rows block opens;
            ordered = omega arith;
            below = omega (arith, points_counted block);
            is_closed = own_closed ∙ ap (λ (s : Site). s.closed) (sym own_site);
            found = own_ring ∙ ap (λ (s : Site). ring_with s.ring) (sym own_site);
            long = subst (λ (s : Site). min_ring ≤ m s) (sym own_site) lengths.0;
            short = subst (λ (s : Site). m s ≤ max_ring) (sym own_site) lengths.1;
            ring_below = subst (λ (s : Site). (i : ℕ) → i < m s → get_or s.ring i 0 < point_count block) (sym own_site) (λ i k.
                subst (λ c. get_or site.ring i 0 < c) (points_counted block)
                (ring_point block e f edge_sound (at_in site.ring i 0 k)).below);
          }

      pub ringed : Ringed (coordinates_of block) (point_count block) block (row_count block) a b found.closed found.ring
      ringed = record {
        ready = ready;
        measured = opens_measured block opens;
        sound = subst SoundRing (sym own_site) (sound_site block e f edge_sound);
        agrees = marks_agree block opens;
      }

-- the site of an edge in a block
pub in_block_site : {block : List ℕ} {e f : ℕ} {closed : Bool} {ring : Ring} {edge : RingedEdge} → IsEdgeOf block e f closed ring edge
    → site_of_edge edge ≡ site_in (coordinates_of block) (point_count block) block (row_count block) (min e f) (max e f)
in_block_site is = rw (is.coordinates, is.count, is.table, is.n, is.a, is.b)
