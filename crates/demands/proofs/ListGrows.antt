-- Request [11] of any kernel that meets the second and the third demand. Done is not 16, so some way makes rows better than the worst that
-- goes; the one carried out is as good as any, so all its rows are. Where such rows take the place of others, the list grows; and growth goes on.
use Prim.Native.Nat.{ℕ, ◌≤◌, ◌<◌, min, max}
use mathlib.Core.Bool.{Bool, not}
use mathlib.Core.List.Memᴰ
use mathlib.Core.List.{List, [], ◌∷◌, ◌++◌, map, map-append, Memᴰ}
use mathlib.Core.Logic.{◌⊎◌, inl, inr}
use mathlib.Core.Path.{◌≡◌, sym, ap, ◌∙◌, subst}
use native.Mathlib.Omega.{arith}
use lib.Dec.{T}
use lib.ListN.{length}
use Rattle.lists.specs.Lists.{count}
use Rattle.lists.proofs.Counts.{count_map}
use Rattle.lists.proofs.Places.{in_length}
use Rattle.quality.specs.declared.Quality.{Quality}
use Rattle.quality.specs.Quality.{worse}
use Rattle.quality.proofs.QualityOrder.{◌⊏◌, ◌⊑◌, compare, at_most_trans, worse_at_most_trans}
use Rattle.quality.proofs.WorstAndBest.{Worst, worst_is_lem}
use Rattle.score.specs.Score.{score_of}
use Rattle.score.proofs.ScoreLargest.{score_grows}
use Rattle.rows.specs.declared.Row.{Row}
use Rattle.rows.specs.Rows.{holds_edge}
use Rattle.rows.specs.RowMeasure.{row_quality}
use Rattle.rows.specs.Tetrahedra.{SameTetrahedra}
use Rattle.rows.proofs.ProperRows.{row_fraction, rows_fractions}
use Rattle.rows.proofs.EvenMeasure.{even_quality}
use Rattle.mesh.proofs.TablesAlike.{same_count}
use Rattle.marking.specs.Marking.{new_mark, dressed}
use Rattle.layout.specs.Layout.{Patch, fields_of}
use Rattle.tally.specs.Tally.{qualities, worst_of_patch}
use Rattle.ranking.specs.Ranking.{worst_first, Grows}
use Rattle.ranking.proofs.WorstToBest.{patch_fractions}
use Rattle.ranking.proofs.FirstEntries as Lists
use Rattle.ranking.proofs.LowestReplaced.{rows_grow}
use Rattle.ranking.proofs.WorstStays as Worsts
use Rattle.ring.specs.Ring.{Site, site_of, m}
use Rattle.triangulation.specs.Triangulation.{Triangle}
use Rattle.polygon.proofs.CutsAreTrees.{cuts→}
use Rattle.calls.specs.Removing.{worst_now}
use Rattle.calls.proofs.SoundEdges.{some_removed}
use Rattle.kept_marks.proofs.DressedRows.{dress_qualities}
use Rattle.tables.proofs.RingReplaced.{worst_of_removed}
use Rattle.demands.specs.Kernels.{Kernel, removes, ours}
use Rattle.demands.specs.Premises.{edge_at}
use Rattle.demands.specs.TriangleSets.{rows_of, table_made, Way, worst_by, NoneBetter, AsGoodAsAny}
use Rattle.demands.specs.Summaries.{WorstIs}
use Rattle.demands.specs.Demands.{RemovalDone, Best, Demand2, Demand3}
use Rattle.demands.specs.WorstFirst.{Removals, one, onward, WorstFirst}
use Rattle.demands.proofs.WaysAndTrees.{worst_some}
use Rattle.demands.proofs.EdgeFound.{ringed_sound}
use Rattle.demands.proofs.QualityByDAndS.{row_score, one_score}
use Rattle.demands.proofs.Demand2.{demand_2}
use Rattle.demands.proofs.Demand3.{demand_3}

-- ---- the best way, where some way is better

module _ (site : Site) (three : 3 ≤ m site) where
  -- a way has a triangle, so it has rows, and its worst is one of theirs
  way_worst : (ts : List Triangle) → Way site ts → Worst (worst_by site ts) (map (row_quality site.points) (rows_of site ts))
  way_worst [] way = absurd (omega (arith, three, (cuts→ (m site) [] way.0).0))
  way_worst (x ∷ ts) way =
      worst_is_lem (map (row_quality site.points) (rows_of site (x ∷ ts))) (rows_fractions site.points (rows_of site (x ∷ ts)))
      (worst_some site x ts)

  -- of ways that are as good as any, the worst is better than now; otherwise no way is better
  over_now : (ts : List Triangle) → Way site ts → AsGoodAsAny site ts → (NoneBetter site → ⊥) → worst_now site ⊏ worst_by site ts
  over_now ts way best some_better = go (compare (worst_now site) (worst_by site ts))
    where
      go : (worst_now site ⊏ worst_by site ts) ⊎ (worst_by site ts ⊑ worst_now site) → worst_now site ⊏ worst_by site ts
      go (inl h) = h
      go (inr h) = absurd (some_better (λ us other.
          let (row, k, its) = Memᴰ.of_map (row_quality site.points) (rows_of site us) (way_worst us other).inside in
          let low : worst_by site us ⊑ worst_by site ts = record { not_worse = best us other } in
          let fair = rows_fractions site.points (rows_of site ts) (worst_by site ts) (way_worst ts way).inside in
          (row, k, subst (λ q. T (not (worse (worst_now site) q))) (sym its) (at_most_trans fair low h).not_worse)))

-- ---- what a list that grows says of summaries, and of the same tetrahedra

-- no summary gives the worst a lower score
scores_stay : (old new : Patch) → Grows (worst_first old) (worst_first new) → (m n : ℕ) → WorstIs old m → WorstIs new n → m ≤ n
scores_stay old new g m n was is =
    let (own, its) = Worsts.both_worst old new g in
    let (row, i, same) = Memᴰ.of_map (row_quality old.points) old.rows own.inside in
    let low : m ≤ score_of (worst_of_patch old) =
    subst (λ q. m ≤ score_of q) same (was.smallest row i (score_of (row_quality old.points row)) (row_score old.points row)) in
    let q = row_quality new.points is.row in
    let high = score_grows (patch_fractions new (worst_of_patch new) its.inside) (row_fraction new.points is.row)
    (its.bounds q (Memᴰ.map (row_quality new.points) is.inside)) in
    omega (arith, low, Worsts.score_stays old new g, high, one_score (row_score new.points is.row) is.its_score)

-- the same tetrahedra have the same qualities
same_qualities : (old new : Patch) → new.points ≡ old.points → SameTetrahedra old.rows new.rows → (p : Quality → Bool)
    → count p (qualities old) ≡ count p (qualities new)
same_qualities old new points same p =
    let quality = row_quality old.points in
    count_map p quality old.rows
    ∙ same_count (λ row. p (quality row)) (λ t u even. ap p (even_quality old.points t u even)) old.rows new.rows same
    ∙ sym (ap (λ points. count p (map (row_quality points) new.rows)) points ∙ count_map p quality new.rows)

-- ---- one removal

module _ (k : Kernel) (second : Demand2 k) (third : Demand3 k) where
  module _ (block out : List ℕ) (e f : ℕ) (done : removes k block out e f ≡ 0) where
    abbrev output : List ℕ
    output = (k.remove block out e f).1

    its : RemovalDone block out e f (k.remove block out e f).0 output
    its = second.remove block out e f done

    abbrev site : Site
    site = edge_at (fields_of block) e f its.closed its.vs

    three : 3 ≤ m site
    three = its.premises.ringed.from_three

    judged : Best k block out e f site
    judged = third block out e f its.closed its.vs its.premises

    points_stay : (fields_of output).points ≡ (fields_of block).points
    points_stay = its.accepted.points

    some_better : NoneBetter site → ⊥
    some_better none = omega (arith, done, judged.none_better_fact.1 none)

    worst_round : Worst (worst_now site) (map (row_quality site.points) site.removed)
    unfolding site_of
    worst_round =
        worst_is_lem (map (row_quality site.points) site.removed) (rows_fractions site.points site.removed)
        (worst_of_removed site (some_removed block e f (ringed_sound block out e f its.closed its.vs its.premises.ringed)))

    -- what is measured afterwards: marks are not
    qualities_after : (ts : List Triangle) → (fields_of output).rows ≡ table_made site ts
        → qualities (fields_of output) ≡ map (row_quality site.points) (site.kept ++ rows_of site ts)
    qualities_after ts rows =
        let points = site.points in
        rw (
          points_stay,
          rows,
          map-append (row_quality points) site.kept (dressed site.removed site.kept (rows_of site ts)),
          dress_qualities (new_mark site.removed site.kept) points (rows_of site ts),
          map-append (row_quality points) site.kept (rows_of site ts),
        )

    -- a way that has a worst row has rows
    some_new : (rows : List Row) {q : Quality} → Memᴰ q (map (row_quality site.points) rows) → 0 < length rows
    some_new rows i = let (row, k, e) = Memᴰ.of_map (row_quality site.points) rows i in in_length rows k

    removal_grows : Grows (worst_first (fields_of block)) (worst_first (fields_of output))
    removal_grows =
        let (ts, way, rows, best) = judged.carried_out done in
        let new = rows_of site ts in
        let own = way_worst site three ts way in
        rw (qualities_after ts rows)
        (rows_grow site.points (holds_edge (min e f) (max e f)) (fields_of block).rows new (worst_now site) worst_round
        (λ row i. worse_at_most_trans (row_fraction site.points row) (over_now site three ts way best some_better)
        (own.bounds (row_quality site.points row) (Memᴰ.map (row_quality site.points) i)))
        (some_new new own.inside))

  -- ---- several

  on : {block last : List ℕ} → Removals k block last
      → ((fields_of last).points ≡ (fields_of block).points) × Grows (worst_first (fields_of block)) (worst_first (fields_of last))
  on (one block out e f done) = (points_stay block out e f done, removal_grows block out e f done)
  on (onward block out e f {last} done rest) =
      let next = (k.remove block out e f).1 in
      let (same, grown) = on rest in (
        same ∙ points_stay block out e f done,
        Lists.grows_on (fields_of block) (fields_of next) (fields_of last) (removal_grows block out e f done) grown,
      )

  pub worst_first_lem : WorstFirst k
  worst_first_lem = record {
    list_grows = removal_grows;
    grows_on = λ block last chain. (on chain).1;
    worst_stays = λ block last chain. Worsts.worst_stays (fields_of block) (fields_of last) (on chain).1;
    score_stays = λ block last chain. scores_stay (fields_of block) (fields_of last) (on chain).1;
    never_back = λ block last chain same.
        let (points, grown) = on chain in
        let old = fields_of block in
        let new = fields_of last in
        Lists.same_never_grow old new (same_qualities old new points same) grown;
  }

pub ours_worst_first : WorstFirst ours
ours_worst_first = worst_first_lem ours demand_2 demand_3
