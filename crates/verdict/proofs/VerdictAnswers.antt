-- Answers 19, 20 and 14 to 16 of a removal, one by one: what decides each, given what the tests above it found.
use Prim.Native.Nat.{ℕ, suc, ◌+◌, ◌-◌, ◌*◌, ◌≤◌, ◌<◌, min, max}
use mathlib.Core.Bool.{Bool, true, false, cond, not, Bool-set}
use mathlib.Core.List.{[], ◌∷◌, map}
use mathlib.Core.Option
use mathlib.Core.Path.{◌≡◌, refl, sym, ap, ◌∙◌}
use mathlib.Core.Logic.{∥∥₁_elim}
use native.Mathlib.Omega.{arith}
use borrow.Author.Tests.{lt-ltb, le-ltb, ltb-false}
use lib.Dec.{T}
use lib.ListN.{length}
use Rattle.std.proofs.Math.Nat.{ℕ_set}
use Rattle.std.specs.Prelude.{Option as Optional, None, Some, Ok, Err}
use Rattle.lists.specs.Lists.{every, any, those}
use Rattle.lists.proofs.Lists.{those_split}
use Rattle.quality.specs.declared.Quality.{Quality}
use Rattle.quality.specs.Quality.{worse, worst, zero_quality}
use Rattle.rows.specs.Rows.{rows_in, holds_edge}
use Rattle.rows.specs.Regions.{region_of, mixed}
use Rattle.rows.specs.Steps.{most_rows}
use Rattle.rows.specs.RowMeasure.{row_quality}
use Rattle.rows.proofs.RowsOfTables.{rows_length}
use Rattle.rows.specs.declared.Regions.{Regions}
use Rattle.rows.specs.declared.Regions.TheVariants.{One, Several}
use Rattle.rows.specs.Steps.{regions_of}
use Rattle.rows.proofs.RegionsRowByRow.{told_several, told_one}
use Rattle.marking.specs.Marking.{marks_over}
use Rattle.dressing.proofs.MarksThatGo.{edge_goes_among}
use Rattle.layout.specs.Layout.{Patch, max_rows}
use Rattle.tally.specs.Tally.{patch_in}
use Rattle.answers.specs.Answers.{Tests, first_refusal, answer_of}
use Rattle.answers.proofs.ByNumber.{test_of, before, unlike, passes, stops}
use Rattle.ring.specs.declared.Ring.{Ring}
use Rattle.ring.specs.Ring.{Site, site_of, m, max_ring, not_flat}
use Rattle.triangulation.specs.Triangulation.{rows_after}
use Rattle.replacement.specs.declared.Way.{Way}
use Rattle.calls.specs.Removing.{worst_now, mark_lost, no_room, no_way, none_better, replacement_tests}
use Rattle.edge.specs.Steps.{RingedFact}
use Rattle.edge.specs.declared.RingedEdge.{RingedEdge}
use Rattle.edge.specs.Edges.{site_of_edge}
use Rattle.verdict.specs.Steps.{plan_answer, Plans}
use Rattle.replacement.specs.Steps.{BestWay}
use Rattle.calls.proofs.BestDecides.{best_decides}
use Rattle.replacement.proofs.MarkOfWay.{marked, best_whole, unmarked}

module _ (edge : RingedEdge) where
  abbrev its : Site
  its = site_of_edge edge

  given : RingedFact edge.coordinates.now edge.count edge.table.now edge.n edge.a edge.b edge.closed edge.ring
  given = edge.ringed

  three : 3 ≤ m its
  three = given.ready.long

  ring_size : edge.ring.m ≡ m its
  ring_size = ap (λ (r : Ring). r.m) given.ready.found

  -- a row goes for each point of a ring, and one fewer for a chain
  rows_go : length its.removed + cond its.closed 0 1 ≡ m its
  rows_go = ∥∥₁_elim given.sound (ℕ_set _ _) (λ sound. sound.size)

  all_rows : length its.removed + length its.kept ≡ edge.n
  unfolding site_of
  all_rows = those_split (holds_edge (min edge.a edge.b) (max edge.a edge.b)) (rows_in edge.table.now edge.n) ∙ rows_length edge.table.now edge.n

  ring_long : 2 ≤ edge.ring.m
  ring_long = omega (arith, ring_size, three)

  -- what is asked where the rows afterwards are counted
  pub countable : (2 ≤ edge.ring.m) × (edge.ring.m ≤ max_ring) × (edge.n ≤ most_rows) × (edge.ring.m ≤ edge.n + cond edge.closed 0 1)
  countable =
      let enough : m its ≤ edge.n + cond its.closed 0 1 = omega (arith, all_rows, rows_go) in
      let own : m its ≤ edge.n + cond edge.closed 0 1 = rw given.ready.is_closed enough in
      (ring_long, omega (arith, ring_size, given.ready.short), given.measured.rows_most, omega (arith, ring_size, own))

  -- the rows afterwards
  room_is : (after : ℕ) → after + edge.ring.m ≡ edge.n + cond edge.closed 0 1 + 2 * (edge.ring.m - 2) → after ≡ rows_after its
  room_is after after_is =
      let own : after + edge.ring.m ≡ edge.n + cond its.closed 0 1 + 2 * (edge.ring.m - 2) = rw given.ready.is_closed at after_is in
      omega (arith, own, ring_size, three, all_rows, rows_go)

  least : min edge.a edge.b ≡ edge.a
  least = omega (arith, given.ready.ordered)

  most : max edge.a edge.b ≡ edge.b
  most = omega (arith, given.ready.ordered)

  -- ---- the answers

  abbrev tests : Tests
  tests = replacement_tests its

  numbered : T (unlike 0 tests)
  unfolding every
  numbered = tt

  refusal : (k : ℕ) → first_refusal (before (suc k) tests) ≡ 0 → test_of (suc k) tests ≡ true → Plans its (Err (record { number = suc k }))
  unfolding plan_answer
  refusal k front h = ap answer_of (stops (suc k) tests numbered front h)

  pub gives_19 : not_flat its ≡ true → Plans its (Err (record { number = 19 }))
  unfolding first_refusal before test_of
  gives_19 h = refusal 18 refl h

  -- ---- the region of the rows that go

  module _ (regions : Regions) (regions_are : regions ≡ regions_of its.removed) where
    pub gives_20 : not_flat its ≡ false → regions ≡ Several → Plans its (Err (record { number = 20 }))
    unfolding first_refusal before test_of
    gives_20 level e = refusal 19 (rw level) (told_several its.removed (sym regions_are ∙ e))

    pub one_told : (g : ℕ) → regions ≡ One g → (mixed its.removed ≡ false) × (g ≡ region_of its.removed)
    one_told g e = told_one its.removed (sym regions_are ∙ e)

  -- ---- a marked face

  pub lost_is : (told : Bool) → told ≡ any (marks_over (edge.a ∷ edge.b ∷ edge.b ∷ [])) (rows_in edge.table.now edge.n) → mark_lost its ≡ told
  unfolding site_of
  lost_is told is = sym (is ∙ edge_goes_among edge.a edge.b (rows_in edge.table.now edge.n) ∙ rw (least, most))

  pub gives_23 : not_flat its ≡ false → mixed its.removed ≡ false → mark_lost its ≡ true → Plans its (Err (record { number = 23 }))
  unfolding first_refusal before test_of
  gives_23 level one lost = refusal 22 (rw (level, one)) lost

  pub gives_14 : not_flat its ≡ false → mixed its.removed ≡ false → mark_lost its ≡ false
      → (after : ℕ) → after + edge.ring.m ≡ edge.n + cond edge.closed 0 1 + 2 * (edge.ring.m - 2) → max_rows < after
      → Plans its (Err (record { number = 14 }))
  unfolding first_refusal before test_of
  gives_14 level one stay after after_is h =
      refusal 13 (rw (level, one, stay)) (lt-ltb max_rows (rows_after its) (omega (arith, room_is after after_is)))

  pub has_room : (after : ℕ) → after + edge.ring.m ≡ edge.n + cond edge.closed 0 1 + 2 * (edge.ring.m - 2) → after ≤ max_rows → rows_after its ≤ max_rows
  has_room after after_is h = omega (arith, room_is after after_is)

  -- ---- the worst of the rows that hold both ends

  abbrev worst_holding : Patch → Quality
  worst_holding patch = Option.get_or (worst (map (row_quality patch.points) (those (holds_edge edge.a edge.b) patch.rows))) zero_quality

  -- as it is read from the table of the edge
  pub round_now : (patch : Patch) → patch ≡ patch_in edge.coordinates.now edge.count edge.table.now edge.n → worst_holding patch ≡ worst_now its
  unfolding worst_now site_of
  round_now patch same =
      let own : worst_holding (patch_in edge.coordinates.now edge.count edge.table.now edge.n) ≡ worst_now its = rw (least, most) in
      ap worst_holding same ∙ own

  module _ (level : not_flat its ≡ false) (one : mixed its.removed ≡ false) (stay : mark_lost its ≡ false) (room : rows_after its ≤ max_rows) (best : Optional Way) (is-best : BestWay its best) where
    roomy : no_room its ≡ false
    roomy = le-ltb max_rows (rows_after its) room

    pub gives_15 : best ≡ None → Plans its (Err (record { number = 15 }))
    unfolding first_refusal before test_of
    gives_15 e =
        refusal 14 (rw (level, one, stay, roomy)) (∥∥₁_elim given.sound (Bool-set _ _) (λ sound. marked its sound three best is-best e))

    module _ (way : Way) (is : best ≡ Some way) where
      some_way : no_way its ≡ false
      some_way = ∥∥₁_elim given.sound (Bool-set _ _) (λ sound. unmarked its sound three best is-best way is)

      module _ (now : Quality) (now-is : now ≡ worst_now its) where
        decides : none_better its ≡ not (worse now way.worst)
        decides =
            ∥∥₁_elim given.sound (Bool-set _ _) (λ sound.
            let (r, top, same) = best_whole its sound three best is-best way is in
            best_decides its sound three top way.worst (record { over = rw is at is-best.fraction }) same
            ∙ ap (λ p. not (worse p way.worst)) (sym now-is))

        pub gives_16 : worse now way.worst ≡ false → Plans its (Err (record { number = 16 }))
        unfolding first_refusal before test_of
        gives_16 e = refusal 15 (rw (level, one, stay, roomy, some_way)) (decides ∙ ap not e)

        pub gives_0 : worse now way.worst ≡ true → (g : ℕ) → g ≡ region_of its.removed → Plans its (Ok (record { region = g; apexes = way.apexes }))
        unfolding plan_answer first_refusal
        gives_0 e g region = record {
          answer = rw (level, one, stay, roomy, some_way, decides ∙ ap not e);
          region = region;
          apexes = rw is at is-best.apexes;
        }

  -- ---- behind answer 0

  module _ (passed : plan_answer its ≡ 0) where
    pub plan_way : no_way its ≡ false
    unfolding plan_answer test_of
    plan_way = passes 15 tests numbered passed

    pub plan_room : rows_after its ≤ max_rows
    unfolding plan_answer test_of
    plan_room = ltb-false max_rows (rows_after its) (passes 14 tests numbered passed)
