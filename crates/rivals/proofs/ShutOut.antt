-- Each useless kernel fails the demand that is there to shut it out.
use Prim.Native.Nat.{ℕ, suc, ◌≤◌}
use mathlib.Core.Bool.{true, not}
use mathlib.Core.List.{List, [], ◌∷◌, ◌++◌, map}
use mathlib.Core.Option.{get_or}
use mathlib.Core.Path.{◌≡◌, sym, ap, ◌∙◌, subst}
use native.Mathlib.Omega.{arith}
use lib.Dec.{T, T_not}
use lib.ListN.{length}
use Rattle.std.specs.Prelude.{Result, Ok, Err}
use Rattle.lists.specs.Lists.{every, those}
use Rattle.quality.specs.declared.Quality.{Quality}
use Rattle.quality.specs.Quality.{worst, worse, zero_quality}
use Rattle.rows.specs.declared.Row.{Row}
use Rattle.rows.specs.RowMeasure.{row_quality}
use Rattle.rows.specs.Rows.{version, holds_edge}
use Rattle.marking.specs.Marking.{new_mark, dressed}
use Rattle.layout.specs.Layout.{max_rows, fields_of, bytes_of}
use Rattle.layout.proofs.CellsReadBack.{roomy}
use Rattle.answers.specs.declared.Refusal.{Refusal}
use Rattle.answers.specs.Answers.{gives, number_of}
use Rattle.block.proofs.RightBlocks.{right_block}
use Rattle.summary.specs.declared.Summary.{Summary}
use Rattle.ring.specs.Ring.{Site, site_of}
use Rattle.triangulation.specs.Triangulation.{Tri, Triangle, triangles}
use Rattle.triangulation.specs.Best.{worst_of_way}
use Rattle.kept_marks.proofs.DressedRows.{dress_qualities}
use Rattle.calls.specs.Removing.{rows_made, remove_answer, remove_gives}
use Rattle.demands.specs.Kernels.{removes}
use Rattle.demands.specs.TriangleSets.{rows_of, table_made, worst_by, NoneBetter}
use Rattle.demands.specs.Premises.{edge_at}
use Rattle.demands.specs.Demands.{Best, Demand2, Demand3}
use Rattle.accepted.proofs.CallsNumbered.{remove_number}
use Rattle.demands.proofs.Demand1.{numbered}
use Rattle.demands.proofs.WaysAndTrees.{tree_way, tree_rows, tree_worst}
use Rattle.accepted.proofs.AcceptedBytes.{rows_read}
use Rattle.demands.proofs.EdgeFound.{sited}
use Rattle.demands.proofs.Demand3.{demand_3}
use Rattle.facts.specs.Facts.{blank, block_a, octahedron}
use Rattle.plate.specs.Plate.{plate}
use Rattle.rivals.specs.Useless.{refusing, fixing, copying, inventing}
use Rattle.rivals.specs.Useless.{fanning, fan_first, fan_last, fanned, table_fanned, given_by, six, six_best}
use Rattle.rivals.proofs.RivalBlocks.{opens_A, bytes_A, done_A, points_A, rows_A, left_A, upright_A, premises_A}
use Rattle.rivals.proofs.RivalBlocks.{opens_octahedron, bytes_octahedron, upright_octahedron, done_plate, points_plate}
use Rattle.rivals.proofs.RivalBlocks.{six_site, premises_six, two_six, best_six, alone_six, opens_six, done_six}
use Rattle.rivals.proofs.RivalBlocks.{first_room, first_fit, first_worse, last_room, last_fit, last_worse}

-- ---- one that refuses all: demand 3

pub refuses_all : (number : List ℕ → List ℕ → ℕ → ℕ → ℕ) → Demand3 (refusing number) → ⊥
refuses_all number meets =
    let its = meets (bytes_of 1 block_a) blank 0 1 true (2 ∷ 3 ∷ 4 ∷ []) premises_A in
    let best = demand_3 (bytes_of 1 block_a) blank 0 1 true (2 ∷ 3 ∷ 4 ∷ []) premises_A in
    let some_better : NoneBetter (edge_at (fields_of (bytes_of 1 block_a)) 0 1 true (2 ∷ 3 ∷ 4 ∷ [])) → ⊥ =
    λ h. absurd (omega (arith, done_A, numbered.remove_number (bytes_of 1 block_a) blank 0 1, best.none_better_fact.1 h)) in
    let refused : suc (number (bytes_of 1 block_a) blank 0 1) ≡ 0 = its.otherwise some_better in
    omega arith

-- ---- one with a fixed block for an answer, and one that copies its input: demand 2

-- a removal with our answers is done where ours is
pub done_too : (block : List ℕ) → remove_answer block blank 0 1 ≡ 0 → number_of (remove_gives block blank 0 1) ≡ 0
done_too block h = remove_number block blank 0 1 ∙ h

pub fixed_block : (fixed : List ℕ) → Demand2 (fixing fixed) → ⊥
fixed_block fixed meets =
    let five = rw done_A at (meets.remove (bytes_of 1 block_a) blank 0 1 (done_too (bytes_of 1 block_a) done_A)).accepted.points in
    let sixth = rw done_plate at (meets.remove (bytes_of 1 plate) blank 0 1 (done_too (bytes_of 1 plate) done_plate)).accepted.points in
    omega (arith, ap length five, ap length sixth, points_A, points_plate)

pub copied_input : Demand2 copying → ⊥
copied_input meets =
    let its = meets.remove (bytes_of 1 block_a) blank 0 1 (done_too (bytes_of 1 block_a) done_A) in
    let is = sited (bytes_of 1 block_a) blank 0 1 its.closed its.vs its.premises.ringed in
    let two = subst (λ (site : Site).
    length (those (λ row. not (holds_edge 0 1 row)) (fields_of (bytes_of 1 block_a)).rows ++ rows_made site) ≡ 2) is left_A in
    let same = rw done_A at its.accepted.rows in
    omega (arith, ap length same, rows_A, two)

-- ---- one with invented summary counts: demand 2

-- the upright rows that a summary counts
abbrev upright_in : Result Summary Refusal → ℕ
upright_in (Ok summary) = summary.upright
upright_in (Err refusal) = 0

pub invented_counts : (upright flat inverted : ℕ) → Demand2 (inventing upright flat inverted) → ⊥
invented_counts upright flat inverted meets =
    let (s, given, sums, bounds) = meets.summary (bytes_of 1 block_a) bytes_A (right_block (bytes_of 1 block_a) opens_A) in
    let (t, given', sums', bounds') = meets.summary (bytes_of 1 octahedron) bytes_octahedron (right_block (bytes_of 1 octahedron) opens_octahedron) in
    let three = rw opens_A at (ap upright_in given) in
    let four = rw opens_octahedron at (ap upright_in given') in
    omega (arith, three, four, sums.upright, sums'.upright, upright_A, upright_octahedron)

-- ---- one that picks the top apex well and fans the remaining pieces: demand 3

-- triangles that leave one table have one worst, where no row is kept
same_worst : (site : Site) (ts us : List Triangle) → site.kept ≡ [] → table_made site ts ≡ table_made site us
    → worst_by site ts ≡ worst_by site us
same_worst site ts us none e =
    let marked = new_mark site.removed site.kept in
    let made : List Triangle → List Row = λ ts. dressed site.removed site.kept (rows_of site ts) in
    let rows = subst (λ kept. kept ++ made ts ≡ kept ++ made us) none e in
    ap (λ (qualities : List Quality). get_or (worst qualities) zero_quality)
    (sym (dress_qualities marked site.points (rows_of site ts))
    ∙ ap (map (row_quality site.points)) rows
    ∙ dress_qualities marked site.points (rows_of site us))

module _ (fan : ℕ → Tri) (room : length (table_fanned fan six_site) ≤ max_rows)
    (fit : T (every (roomy (version (bytes_of 1 six))) (table_fanned fan six_site))) where
  -- the fan is carried out, and written as it should
  fan_done : removes (fanning fan) (bytes_of 1 six) blank 0 1 ≡ 0
  fan_done = ap (λ (n : ℕ). number_of (gives n (given_by fan (fields_of (bytes_of 1 six)) six_site))) done_six

  fan_written : (fields_of ((fanning fan).remove (bytes_of 1 six) blank 0 1).1).rows ≡ table_fanned fan six_site
  unfolding site_of
  fan_written = rw (done_six, rows_read (bytes_of 1 six) opens_six (table_fanned fan six_site) room fit)

  fan_table : table_made six_site (triangles 1 (fanned fan six_site)) ≡ table_fanned fan six_site
  fan_table =
      ap (λ (rows : List Row). six_site.kept ++ dressed six_site.removed six_site.kept rows) (tree_rows six_site (fanned fan six_site))

  fan_loses : T (worse (worst_of_way six_site 1 (fanned fan six_site)) (worst_of_way six_site 1 six_best)) → Demand3 (fanning fan) → ⊥
  fan_loses lower meets =
      let ring : List ℕ = 2 ∷ 3 ∷ 4 ∷ 5 ∷ 6 ∷ 7 ∷ [] in
      let is = sited (bytes_of 1 six) blank 0 1 true ring premises_six.ringed in
      let its = subst (λ (site : Site). Best (fanning fan) (bytes_of 1 six) blank 0 1 site) (sym is)
      (meets (bytes_of 1 six) blank 0 1 true ring premises_six) in
      let (ts, way, rows, best) = its.carried_out fan_done in
      let way-fan = triangles 1 (fanned fan six_site) in
      let same = same_worst six_site ts way-fan alone_six (sym rows ∙ fan_written ∙ sym fan_table)
      ∙ tree_worst six_site (fanned fan six_site) in
      let other = best (triangles 1 six_best) (tree_way six_site two_six six_best best_six) in
      T_not (worse (worst_of_way six_site 1 (fanned fan six_site)) (worst_of_way six_site 1 six_best))
      (rw (same, tree_worst six_site six_best) at other) lower

pub fanned_from_first : Demand3 (fanning fan_first) → ⊥
fanned_from_first = fan_loses fan_first first_room first_fit first_worse

pub fanned_from_last : Demand3 (fanning fan_last) → ⊥
fanned_from_last = fan_loses fan_last last_room last_fit last_worse
