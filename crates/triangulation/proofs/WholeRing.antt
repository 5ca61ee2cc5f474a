-- Laws 1 and 16 for a whole ring or chain: the chosen triangulation keeps the mesh rule, and no other that keeps it has a better worst;
-- and how many rows stand in the table afterwards.
use Prim.Native.Nat.{◌+◌, ◌-◌, ◌≤◌}
use mathlib.Core.Bool.{Bool, true, false, cond, not, ◌&&◌}
use mathlib.Core.List.Memᴰ
use mathlib.Core.List.{List, map, Memᴰ}
use mathlib.Core.Option.{none, some, none-ne-some}
use mathlib.Core.Path.{◌≡◌, refl, sym, ap, ◌∙◌, subst}
use native.Mathlib.Omega.{arith}
use lib.Dec.{T}
use lib.ListN.{length, length-append}
use Rattle.lists.specs.Lists.{any, those}
use Rattle.lists.proofs.Tests.{and_l, and_r, no_is}
use Rattle.lists.proofs.Lists.{any_e, those_e, those_i, those_split}
use Rattle.quality.specs.declared.Quality.{Quality}
use Rattle.quality.specs.Quality.{worse}
use Rattle.quality.proofs.QualityOrder.{Fraction, ◌⊑◌}
use Rattle.quality.proofs.WorstAndBest.{worst_is_lem}
use Rattle.rows.specs.declared.Row.{Row}
use Rattle.rows.specs.RowMeasure.{row_quality}
use Rattle.rows.specs.Rows.{holds_edge}
use Rattle.rows.proofs.ProperRows.{rows_fractions}
use Rattle.ring.specs.Ring.{Site, m}
use Rattle.ring.specs.SoundRing.{SoundRing}
use Rattle.triangulation.specs.Triangulation.{Tri, side, cut, span, ways, new_rows, table_after, rows_after}
use Rattle.triangulation.specs.Admissible.{admissible, piece_admissible, barred}
use Rattle.triangulation.specs.Best.{worst_of_way, ring_ways, best_worst, chosen, barred_piece, table_best}
use Rattle.triangulation.proofs.Barred.{open_piece, whole_is}
use Rattle.triangulation.proofs.AdmissibleByFaces.{ring_admissible}
use Rattle.triangulation.proofs.TreesTriangulate.{rows_count}
use Rattle.triangulation.proofs.AllWays.{ways_span, ways_all}
use Rattle.triangulation.proofs.WorstOfWays.{Way, worst_there, best_there, best_reached}
use Rattle.triangulation.proofs.ChosenIsBest.{chosen_optimal}

-- t triangulates the ring, or the chain, and keeps the mesh rule
pub record RingWay (site : Site) (t : Tri) : Type 0 where
  pub spans : span t ≡ m site - 1
  pub keeps : T (admissible site t)

-- c triangulates the ring, keeps the mesh rule, and no other such way has a better worst
pub record BestWay (site : Site) (c : Tri) : Type 0 where
  pub way : RingWay site c
  pub none_better_fact : (t : Tri) → RingWay site t → T (not (worse (worst_of_way site 1 c) (worst_of_way site 1 t)))

-- a way that keeps the mesh rule has worst q, and none has a better one
pub record BestOfRing (site : Site) (q : Quality) : Type 0 where
  pub by : Tri
  pub way : RingWay site by
  pub worst : worst_of_way site 1 by ≡ q
  pub bounds : (t : Tri) → RingWay site t → worst_of_way site 1 t ⊑ q
  pub fraction : Fraction q

-- ---- the list of ways

module _ (site : Site) (three : 3 ≤ m site) where
  pub way_listed : {t : Tri} → RingWay site t → Memᴰ t (ring_ways site)
  unfolding ring_ways
  way_listed {t} w = those_i (admissible site) (ways (m site - 1)) (subst (λ n. Memᴰ t (ways n)) w.spans (ways_all t)) w.keeps

  pub listed_way : {t : Tri} → Memᴰ t (ring_ways site) → RingWay site t
  unfolding ring_ways
  listed_way k =
      let (k, h) = those_e (admissible site) (ways (m site - 1)) k in
      record { spans = ways_span (m site - 1) (omega arith) k; keeps = h }

  pub found_way : T (any (admissible site) (ways (m site - 1))) → (t : Tri) × RingWay site t
  found_way h =
      let (t, k, keeps) = any_e (admissible site) (ways (m site - 1)) h in
      (t, record { spans = ways_span (m site - 1) (omega arith) k; keeps = keeps })

  module _ (sound : SoundRing site) where
    by_faces : (t : Tri) → RingWay site t → T (not (barred site) && piece_admissible site 1 t)
    by_faces t w = subst T (ring_admissible site sound t w.spans three) w.keeps

    -- where some way keeps the mesh rule, nothing bars the chain,
    pub way_open : (t : Tri) → RingWay site t → barred site ≡ false
    way_open t w = no_is (barred site) (and_l (not (barred site)) (piece_admissible site 1 t) (by_faces t w))

    -- and the ways are the admissible triangulations of piece (1,m)
    piece_way : (t : Tri) → RingWay site t → Way site 1 (m site) t
    piece_way t w =
        record { ends = omega (arith, w.spans); admissible = and_r (not (barred site)) (piece_admissible site 1 t) (by_faces t w) }

    ring_way : barred site ≡ false → {t : Tri} → span t ≡ m site - 1 → T (piece_admissible site 1 t) → RingWay site t
    ring_way free {t} spans h =
        record { spans = spans; keeps = rw (ring_admissible site sound t spans three, free) h }

    -- the chosen triangulation is admissible, and none is better
    pub ring_chosen : (t : Tri) → RingWay site t → BestWay site (chosen site)
    ring_chosen t w =
        let best = chosen_optimal site 1 (m site) t (omega arith) w.spans (piece_way t w).admissible in
        record {
          way = ring_way (way_open t w) best.spans best.admissible;
          none_better_fact = λ u k. best.none_better_fact u k.spans (piece_way u k).admissible;
        }

    -- ---- what the table of pieces keeps for the whole ring

    -- the mark: no way keeps the mesh rule
    pub mark_none : table_best site 1 (m site) ≡ none → (t : Tri) → RingWay site t → ⊥
    mark_none e t w =
        let (q, there) = best_there site (piece_way t w) in
        let own = ap (λ b. cond b none (best_worst site 1 (m site))) (open_piece site (way_open t w) 1 (m site)) in
        none-ne-some q (sym e ∙ own ∙ there)

    -- a best worst: a way that keeps the mesh rule reaches it, and none is better
    pub table_best_lem : {q : Quality} → table_best site 1 (m site) ≡ some q → BestOfRing site q
    table_best_lem {q} e = go (barred_piece site 1 (m site)) refl e
      where
        go : (b : Bool) → barred_piece site 1 (m site) ≡ b → cond b none (best_worst site 1 (m site)) ≡ some q → BestOfRing site q
        go true s k = absurd (none-ne-some q k)
        go false s k =
            let r = best_reached site (omega arith) k in
            record {
              by = r.by;
              way = ring_way (sym (whole_is site) ∙ s) (omega (arith, r.way.ends)) r.way.admissible;
              worst = r.worst;
              bounds = λ t w. r.bounds t (piece_way t w);
              fraction = r.fraction;
            }

  -- a way has a row that is its worst
  pub worst_row : (t : Tri) → span t ≡ m site - 1
      → (row : Row) × Memᴰ row (new_rows site 1 t) × (row_quality site.points row ≡ worst_of_way site 1 t)
  unfolding span
  worst_row side e = absurd (omega arith)
  worst_row (cut l r) e =
      let rows = new_rows site 1 (cut l r) in
      let worst = worst_is_lem (map (row_quality site.points) rows) (rows_fractions site.points rows) (worst_there site 1 l r) in
      Memᴰ.of_map (row_quality site.points) rows worst.inside

-- ---- how many rows

pub after_length : (site : Site) (t : Tri) → span t ≡ m site - 1 → length (table_after site t) ≡ rows_after site
unfolding table_after
after_length site t e = omega (arith, length-append site.kept (new_rows site 1 t), rows_count site 1 t)

-- where m rows go, m - 4 more stand there afterwards than before; of a chain m - 1 go, and m - 3 more stand there
pub after_rows : (site : Site) (table : List Row) → site.removed ≡ those (holds_edge site.a site.b) table
    → site.kept ≡ those (λ row. not (holds_edge site.a site.b row)) table
    → length site.removed + cond site.closed 0 1 ≡ m site → 3 ≤ m site
    → rows_after site ≡ length table + m site - cond site.closed 4 3
after_rows site table going staying size three = go site.closed size
  where
    go : (closed : Bool) → length site.removed + cond closed 0 1 ≡ m site → rows_after site ≡ length table + m site - cond closed 4 3
    go true e = omega (arith, those_split (holds_edge site.a site.b) table, ap length going, ap length staying)
    go false e = omega (arith, those_split (holds_edge site.a site.b) table, ap length going, ap length staying)
