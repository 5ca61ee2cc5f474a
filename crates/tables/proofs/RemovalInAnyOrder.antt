-- Two tables of the same tetrahedra, in another order of rows and evenly rearranged: the ring or chain round an edge is the same, the kept
-- rows are the same tetrahedra, so the same ways are admissible with the same worst, and the worst row round the edge is one fraction.
-- So a removal and a 3-2 flip of both have the same tests and the same new rows.
use Prim.Native.Nat.{ℕ, ◌-◌, ◌≤◌, min, max}
use mathlib.Core.Bool.{Bool, true, false, not, ◌&&◌, ◌||◌}
use mathlib.Core.List.Memᴰ
use mathlib.Core.List.{List, [], ◌∷◌, map}
use mathlib.Core.Path.{◌≡◌, refl, sym, ap, ◌∙◌, subst}
use native.Mathlib.Omega.{arith}
use borrow.Author.Tests.{eqb-true}
use lib.Dec.{T, eqb, ltb}
use lib.ListN.{length}
use Rattle.lists.proofs.Tests.{same_test}
use Rattle.lists.proofs.Lists.{every_at, every_i, any_same}
use Rattle.quality.specs.Quality.{worse}
use Rattle.volume.specs.declared.Point.{Point}
use Rattle.quality.proofs.QualityOrder.{Fraction, ◌⊑◌, at_most_trans}
use Rattle.quality.proofs.WorstAndBest.{Worst, worst_is_lem}
use Rattle.rows.specs.declared.Row.{Row}
use Rattle.rows.specs.Rows.{holds_edge}
use Rattle.rows.specs.Regions.{region_of, mixed}
use Rattle.rows.specs.RowMeasure.{row_quality}
use Rattle.rows.specs.Tetrahedra.{rearranged, SameTetrahedra}
use Rattle.rows.proofs.EvenMoves.{even_holds}
use Rattle.rows.proofs.EvenMeasure.{even_quality}
use Rattle.rows.proofs.ProperRows.{rows_fractions}
use Rattle.answers.specs.Answers.{Tests, first_refusal}
use Rattle.layout.specs.Layout.{Patch}
use Rattle.answers.proofs.Refusals.{refuses}
use Rattle.answers.proofs.ByNumber.{before}
use Rattle.ring.specs.Ring.{Site, site_of, m, flat, min_ring, max_ring, numbers_wrong, length_wrong, not_flat, edge_tests, round_tests}
use Rattle.ring.specs.Ring.{ring_tests}
use Rattle.ring.specs.SoundRing.{SoundRing}
use Rattle.links.proofs.SameLinks.{row_across}
use Rattle.ring.proofs.RingInAnyOrder.{same_ring, same_closed, same_tests}
use Rattle.triangulation.specs.Triangulation.{Tri, span, ways, new_rows, rows_after}
use Rattle.triangulation.specs.Admissible.{admissible, piece_admissible, barred}
use Rattle.triangulation.specs.Best.{worst_of_way, ring_ways, chosen}
use Rattle.triangulation.proofs.AdmissibleByFaces.{ring_admissible}
use Rattle.triangulation.proofs.AllWays.{ways_span}
use Rattle.triangulation.proofs.WholeRing.{way_listed, listed_way}
use Rattle.triangulation.proofs.AcrossTables.{those_across, length_across, mixed_across, region_across}
use Rattle.triangulation.proofs.BestInAnyRowOrder.{kin, piece_same, barred_same, worst_same, rows_same}
use Rattle.calls.specs.Removing.{worst_now, no_way, none_better, mark_lost, rows_made, removal_tests}
use Rattle.calls.specs.Flipping.{flip32_tests}
use Rattle.marking.specs.Marking.{mark_goes}
use Rattle.tables.proofs.MarksAcrossTables.{goes_across, new_mark_across}
use Rattle.tables.proofs.SameTables.{SameTables, other_way}
use Rattle.tables.proofs.RingReplaced.{length_fits, worst_of_removed, some_goes}

-- ---- two sites alike: what the answers 15 and 16 go by

pub record Like (site other : Site) : Type 0 where
  pub size : m site ≡ m other
  pub keeps : (t : Tri) → span t ≡ m site - 1 → admissible site t ≡ admissible other t
  pub worst : (t : Tri) → worst_of_way site 1 t ≡ worst_of_way other 1 t
  pub now : worst_now site ⊑ worst_now other
  pub fraction : Fraction (worst_now site)

module _ (site other : Site) (three : 3 ≤ m site) (like : Like site other) where
  no_way_same : no_way site ≡ no_way other
  unfolding no_way
  no_way_same =
      rw (← like.size)
      (ap not (any_same (admissible site) (admissible other) (ways (m site - 1))
      (λ t k. like.keeps t (ways_span (m site - 1) (omega arith) k))))

  none_to : T (none_better site) → T (none_better other)
  unfolding none_better
  none_to h = every_i (λ t. not (worse (worst_now other) (worst_of_way other 1 t))) (ring_ways other) (λ t k.
      let w = listed_way other (omega (arith, like.size)) k in
      let spans : span t ≡ m site - 1 = w.spans ∙ ap (λ n. n - 1) (sym like.size) in
      let own = way_listed site three (record { spans = spans; keeps = rw (like.keeps t spans) w.keeps }) in
      let low : worst_of_way site 1 t ⊑ worst_now site =
      record { not_worse = every_at (λ t. not (worse (worst_now site) (worst_of_way site 1 t))) (ring_ways site) h own } in
      rw (← (like.worst t)) (at_most_trans like.fraction low like.now).not_worse)

-- ---- the sites of two tables with the same tetrahedra

edge_even : (a b : ℕ) (t u : Row) → T (rearranged t u) → holds_edge a b t ≡ holds_edge a b u
edge_even a b t u even = rw (even_holds t u even a, even_holds t u even b)

with_fields : (s : Site) {points : List Point} {closed : Bool} {ring : List ℕ} → s.points ≡ points → s.closed ≡ closed → s.ring ≡ ring
    → s
    ≡ record {
      points = points;
      a = s.a;
      b = s.b;
      removed = s.removed;
      kept = s.kept;
      links = s.links;
      closed = closed;
      ring = ring;
    }
with_fields s p c r = rw (← p, ← c, ← r)

module _ (patch other : Patch) (e f : ℕ) (same : SameTables patch other) where
  abbrev site : Site
  site = site_of patch e f

  abbrev its : Site
  its = site_of other e f

  pub kept_same : SameTetrahedra site.kept its.kept
  unfolding site_of
  kept_same =
      those_across (λ row. not (holds_edge (min e f) (max e f) row)) (λ t u even. ap not (edge_even (min e f) (max e f) t u even))
      patch.rows other.rows same.tetrahedra

  removed_same : SameTetrahedra site.removed its.removed
  unfolding site_of
  removed_same =
      those_across (holds_edge (min e f) (max e f)) (edge_even (min e f) (max e f))
      patch.rows other.rows same.tetrahedra

  mixed_same : mixed site.removed ≡ mixed its.removed
  mixed_same = mixed_across site.removed its.removed removed_same

  region_same : region_of site.removed ≡ region_of its.removed
  region_same = region_across site.removed its.removed removed_same

  ends_same : its.a ∷ its.b ∷ [] ≡ site.a ∷ site.b ∷ []
  unfolding site_of
  ends_same = refl

  lost_same : mark_lost site ≡ mark_lost its
  lost_same =
      goes_across (site.a ∷ site.b ∷ []) site.removed its.removed removed_same
      ∙ ap (λ ends. mark_goes ends its.removed) (sym ends_same)

  points_same : its.points ≡ site.points
  unfolding site_of
  points_same = sym same.points

  module _ (apart : e ≡ f → ⊥) where
    pub ring_same : site.ring ≡ its.ring
    ring_same =
        same_ring (length patch.points) patch other e f apart
        same.rule same.tetrahedra

    closed_same : site.closed ≡ its.closed
    closed_same =
        same_closed (length patch.points) patch other e f apart
        same.rule same.tetrahedra

    abbrev kindred : Site
    kindred = kin site its.removed its.kept its.links kept_same region_same

    site_kin : its ≡ kindred
    unfolding site_of
    site_kin = with_fields its points_same (sym closed_same) (sym ring_same)

    plain_same : new_rows site 1 (chosen site) ≡ new_rows its 1 (chosen its)
    plain_same = rows_same site its.removed its.kept its.links kept_same region_same ∙ ap (λ s. new_rows s 1 (chosen s)) (sym site_kin)

    -- the new rows, with the same marks
    pub rows_of : rows_made site ≡ rows_made its
    rows_of = rw (new_mark_across site.removed site.kept its.removed its.kept removed_same kept_same, plain_same)

    -- answers 9 to 12
    pub edge_same : (chains : Bool) → edge_tests chains site e f ≡ edge_tests chains its e f
    unfolding edge_tests ring_tests before
    edge_same chains =
        let round : round_tests chains site ≡ round_tests chains its = ap (before 13)
        (same_tests (length patch.points) patch other e f apart same.rule same.tetrahedra chains) in
        ap (λ (tests : Tests). (9, numbers_wrong (length site.points) (e ∷ f ∷ [])) ∷ tests) round
        ∙ ap (λ (points : List Point). (9, numbers_wrong (length points) (e ∷ f ∷ [])) ∷ round_tests chains its) (sym points_same)

    length_same : length_wrong site ≡ length_wrong its
    length_same = ap (λ (ring : List ℕ). ltb (length ring) min_ring || ltb max_ring (length ring)) ring_same

    flat_same : not_flat site ≡ not_flat its
    unfolding flat
    flat_same = ap (λ s. not_flat s) (sym site_kin)

    room_same : rows_after site ≡ rows_after its
    room_same = omega (arith, ap length ring_same, length_across site.kept its.kept kept_same)

    module _ (ring : SoundRing site) (its-ring : SoundRing its) (three : 3 ≤ m site) where
      worst_of : Worst (worst_now site) (map (row_quality site.points) site.removed)
      worst_of =
          worst_is_lem (map (row_quality site.points) site.removed) (rows_fractions site.points site.removed)
          (worst_of_removed site (some_goes site ring three))

      its_worst : Worst (worst_now its) (map (row_quality its.points) its.removed)
      its_worst =
          worst_is_lem (map (row_quality its.points) its.removed) (rows_fractions its.points its.removed)
          (worst_of_removed its (some_goes its its-ring (omega (arith, ap length ring_same))))

      -- the worst row round the edge is no better than any of the other table's
      now_most : worst_now site ⊑ worst_now its
      now_most =
          let (row, k, q) = Memᴰ.of_map (row_quality its.points) its.removed its_worst.inside in
          let (u, i, even) = row_across its.removed site.removed row (λ row. sym (removed_same row)) k in
          let equal : row_quality site.points u ≡ worst_now its =
          sym (even_quality site.points row u even) ∙ ap (λ points. row_quality points row) (sym points_same) ∙ q in
          subst (λ q. worst_now site ⊑ q) equal (worst_of.bounds (row_quality site.points u) (Memᴰ.map (row_quality site.points) i))

      pub like : Like site its
      like = record {
        size = ap length ring_same;
        keeps = λ t spans.
            ring_admissible site ring t spans three
            ∙ ap (λ b. not b && piece_admissible site 1 t) (barred_same site its.removed its.kept its.links kept_same region_same)
            ∙ ap (λ b. not (barred kindred) && b) (piece_same site its.removed its.kept its.links kept_same region_same 1 t)
            ∙ ap (λ s. not (barred s) && piece_admissible s 1 t) (sym site_kin)
            ∙ sym (ring_admissible its its-ring t (spans ∙ ap (λ (ring : List ℕ). length ring - 1) ring_same)
            (omega (arith, ap length ring_same)));
        worst = λ t. worst_same site its.removed its.kept its.links kept_same region_same 1 t ∙ ap (λ s. worst_of_way s 1 t) (sym site_kin);
        now = now_most;
        fraction = rows_fractions site.points site.removed (worst_now site) worst_of.inside;
      }

-- ---- the answers

module _ (patch other : Patch) (e f : ℕ) (same : SameTables patch other) (apart : e ≡ f → ⊥) (ring : SoundRing (site_of patch e f))
    (its-ring : SoundRing (site_of other e f)) where
  abbrev left : Site
  left = site_of patch e f

  abbrev right : Site
  right = site_of other e f

  alike : 3 ≤ m left → Like left right
  alike three = like patch other e f same apart ring its-ring three

  way_same : 3 ≤ m left → no_way left ≡ no_way right
  way_same three = no_way_same left right three (alike three)

  none_same : 3 ≤ m left → none_better left ≡ none_better right
  none_same three =
      let three' : 3 ≤ m right = omega (arith, (alike three).size) in
      same_test (none_better left) (none_better right) (none_to left right three (alike three))
      (none_to right left three' (like other patch e f (other_way same) apart its-ring ring three'))

  -- 13 to 16, 19, 20 and 23
  pub removal_same : first_refusal (removal_tests left) ≡ first_refusal (removal_tests right)
  unfolding removal_tests
  removal_same = go (length_wrong left) refl
    where
      go : (b : Bool) → length_wrong left ≡ b → first_refusal (removal_tests left) ≡ first_refusal (removal_tests right)
      go true h =
          refuses 13 (length_wrong left) _ h ∙ sym (refuses 13 (length_wrong right) _ (sym (length_same patch other e f same apart) ∙ h))
      go false h =
          let three = (length_fits left h).0 in
          rw (
            length_same patch other e f same apart,
            flat_same patch other e f same apart,
            mixed_same patch other e f same,
            lost_same patch other e f same,
            room_same patch other e f same apart,
            way_same three,
            none_same three,
          )

  pub flip_same : first_refusal (flip32_tests left) ≡ first_refusal (flip32_tests right)
  unfolding flip32_tests
  flip_same = go (eqb (m left) min_ring) refl
    where
      size : m left ≡ m right
      size = ap length (ring_same patch other e f same apart)

      go : (b : Bool) → eqb (m left) min_ring ≡ b → first_refusal (flip32_tests left) ≡ first_refusal (flip32_tests right)
      go true h =
          rw (
            ← size,
            ← (mixed_same patch other e f same),
            ← (lost_same patch other e f same),
            ← (way_same (omega (arith, eqb-true (m left) min_ring h))),
          )
      go false h =
          refuses 13 (not (eqb (m left) min_ring)) _ (ap not h)
          ∙ sym (refuses 13 (not (eqb (m right) min_ring)) _ (ap not (ap (λ n. eqb n min_ring) (sym size) ∙ h)))
