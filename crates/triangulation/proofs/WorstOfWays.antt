-- The worst of a triangulation, and the best worst of a piece: no stand-in is ever used, and each is a fraction.
-- A triangulation is over q if no new row is worse than q; that splits at a cut, and for a cut it says q ⊑ the worst.
use Prim.Native.Nat.{ℕ, ◌+◌, ◌-◌, ◌≤◌, ◌<◌}
use mathlib.Core.List.Memᴰ
use mathlib.Core.List.{List, ◌++◌, map, flat_map, Memᴰ}
use mathlib.Core.Logic.{◌⊎◌, inl, inr}
use mathlib.Core.Option.{Option, none, some}
use mathlib.Core.Path.{◌≡◌, refl, ap, subst}
use native.Mathlib.Omega.{arith}
use lib.Dec.{T}
use Rattle.lists.proofs.Lists.{those_e, those_i}
use Rattle.lists.proofs.Images.{flat_map_append}
use Rattle.quality.specs.declared.Quality.{Quality}
use Rattle.quality.specs.Quality.{worst}
use Rattle.quality.proofs.QualityOrder.{Fraction, ◌⊑◌, at_most_trans}
use Rattle.quality.proofs.WorstAndBest.{Fractions, Worst, worst_is_lem, best_is, best_of_lem}
use Rattle.quality.proofs.ConsistentQualities.{zero_quality_fraction}
use Rattle.rows.specs.declared.Row.{Row}
use Rattle.rows.specs.RowMeasure.{row_quality}
use Rattle.rows.proofs.ProperRows.{rows_fractions}
use Rattle.ring.specs.Ring.{Site}
use Rattle.triangulation.specs.Triangulation.{Tri, side, cut, span, triangles, two_rows, new_rows, ways}
use Rattle.triangulation.specs.Admissible.{piece_admissible}
use Rattle.triangulation.specs.Best.{worst_of_way, piece_ways, best_worst, same_best}
use Rattle.triangulation.proofs.AllWays.{ways_span, ways_all}
use Rattle.triangulation.proofs.AdmissibleParts.{Cuts}

-- none of the rows is worse than q
abbrev pub Over : Site → Quality → List Row → Type 0
Over site q rows = (row : Row) → Memᴰ row rows → q ⊑ row_quality site.points row

-- of some rows with worst w that says q ⊑ w
module _ (site : Site) (rows : List Row) {w : Quality} (e : worst (map (row_quality site.points) rows) ≡ some w) where
  rows_worst : Worst w (map (row_quality site.points) rows)
  rows_worst = worst_is_lem (map (row_quality site.points) rows) (rows_fractions site.points rows) e

  pub rows_fraction : Fraction w
  rows_fraction = rows_fractions site.points rows w rows_worst.inside

  pub rows_over_lem : (q : Quality) → q ⊑ w → Over site q rows
  rows_over_lem q h row m =
      at_most_trans rows_fraction h (rows_worst.bounds (row_quality site.points row) (Memᴰ.map (row_quality site.points) m))

  pub over_rows : (q : Quality) → Over site q rows → q ⊑ w
  over_rows q o =
      let at = Memᴰ.of_map (row_quality site.points) rows rows_worst.inside in
      subst (λ w. q ⊑ w) at.2 (o at.0 at.1)

-- t is an admissible triangulation of piece (i,j)
pub record Way (site : Site) (i j : ℕ) (t : Tri) : Type 0 where
  pub ends : i + span t ≡ j
  pub admissible : T (piece_admissible site i t)

-- an admissible triangulation of piece (i,j) has worst q, and none has a better one
pub record Reached (site : Site) (i j : ℕ) (q : Quality) : Type 0 where
  pub by : Tri
  pub way : Way site i j by
  pub worst : worst_of_way site i by ≡ q
  pub bounds : (t : Tri) → Way site i j t → worst_of_way site i t ⊑ q
  pub fraction : Fraction q

module _ (site : Site) where
  -- ---- the rows of a cut

  pub rows_cut : (i : ℕ) (l r : Tri)
      → new_rows site i (cut l r)
      ≡ two_rows site (i, i + span l, i + span l + span r) ++ (new_rows site i l ++ new_rows site (i + span l) r)
  unfolding new_rows triangles flat_map
  rows_cut i l r =
      ap (λ rows. two_rows site (i, i + span l, i + span l + span r) ++ rows)
      (flat_map_append (two_rows site) (triangles i l) (triangles (i + span l) r))

  pub over_side : (q : Quality) (i : ℕ) → Over site q (new_rows site i side)
  unfolding new_rows triangles flat_map
  over_side q i row m = absurd (Memᴰ.not-nil m)

  module _ {i k j : ℕ} {l r : Tri} (at : Cuts i k j l r) where
    rows_at_lem : new_rows site i (cut l r) ≡ two_rows site (i, k, j) ++ (new_rows site i l ++ new_rows site k r)
    rows_at_lem = rw (at.at_k, at.at_j) at (rows_cut i l r)

    pub over_triangle : (q : Quality) → Over site q (new_rows site i (cut l r)) → Over site q (two_rows site (i, k, j))
    over_triangle q h row m = h row (rw rows_at_lem (Memᴰ.append_left (new_rows site i l ++ new_rows site k r) m))

    pub over_left : (q : Quality) → Over site q (new_rows site i (cut l r)) → Over site q (new_rows site i l)
    over_left q h row m =
        h row (rw rows_at_lem (Memᴰ.append_right (two_rows site (i, k, j)) (Memᴰ.append_left (new_rows site k r) m)))

    pub over_right : (q : Quality) → Over site q (new_rows site i (cut l r)) → Over site q (new_rows site k r)
    over_right q h row m =
        h row (rw rows_at_lem (Memᴰ.append_right (two_rows site (i, k, j)) (Memᴰ.append_right (new_rows site i l) m)))

    pub over_cut : (q : Quality)
        → Over site q (two_rows site (i, k, j))
        → Over site q (new_rows site i l)
        → Over site q (new_rows site k r)
        → Over site q (new_rows site i (cut l r))
    over_cut q a b c row m = go (Memᴰ.append_cases (two_rows site (i, k, j)) (rw rows_at_lem at m))
      where
        below : Memᴰ row (new_rows site i l) ⊎ Memᴰ row (new_rows site k r) → q ⊑ row_quality site.points row
        below (inl n) = b row n
        below (inr n) = c row n

        go : Memᴰ row (two_rows site (i, k, j)) ⊎ Memᴰ row (new_rows site i l ++ new_rows site k r)
            → q ⊑ row_quality site.points row
        go (inl n) = a row n
        go (inr n) = below (Memᴰ.append_cases (new_rows site i l) n)

  -- ---- the worst of a triangulation

  -- a cut has rows, so the stand-in is never used
  pub worst_there : (i : ℕ) (l r : Tri)
      → worst (map (row_quality site.points) (new_rows site i (cut l r))) ≡ some (worst_of_way site i (cut l r))
  unfolding worst_of_way worst new_rows triangles two_rows flat_map
  worst_there i l r = refl

  side_fraction : (i : ℕ) → Fraction (worst_of_way site i side)
  unfolding worst_of_way worst new_rows triangles flat_map
  side_fraction i = zero_quality_fraction

  pub way_fraction : (i : ℕ) (t : Tri) → Fraction (worst_of_way site i t)
  way_fraction i side = side_fraction i
  way_fraction i (cut l r) = rows_fraction site (new_rows site i (cut l r)) (worst_there i l r)

  pub worst_over_lem : (q : Quality) (i : ℕ) (t : Tri) → q ⊑ worst_of_way site i t → Over site q (new_rows site i t)
  worst_over_lem q i side h = over_side q i
  worst_over_lem q i (cut l r) h = rows_over_lem site (new_rows site i (cut l r)) (worst_there i l r) q h

  pub over_worst : (q : Quality) (i : ℕ) (t : Tri) → 2 ≤ span t → Over site q (new_rows site i t) → q ⊑ worst_of_way site i t
  unfolding span
  over_worst q i side h o = absurd (omega arith)
  over_worst q i (cut l r) h o = over_rows site (new_rows site i (cut l r)) (worst_there i l r) q o

  -- ---- the best worst of a piece

  pub way_in : {i j : ℕ} {t : Tri} → Way site i j t → Memᴰ t (piece_ways site i j)
  unfolding piece_ways
  way_in {i} {j} {t} w =
      let spans : span t ≡ j - i = omega (arith, w.ends) in
      those_i (piece_admissible site i) (ways (j - i)) (subst (λ n. Memᴰ t (ways n)) spans (ways_all t)) w.admissible

  pub in_way : {i j : ℕ} {t : Tri} → i < j → Memᴰ t (piece_ways site i j) → Way site i j t
  unfolding piece_ways
  in_way {i} {j} h m =
      let at = those_e (piece_admissible site i) (ways (j - i)) m in
      let spans = ways_span (j - i) (omega arith) at.0 in
      record { ends = omega arith; admissible = at.1 }

  worsts_fractions : (i : ℕ) (ts : List Tri) → Fractions (map (worst_of_way site i) ts)
  worsts_fractions i ts q m =
      let at = Memᴰ.of_map (worst_of_way site i) ts m in
      subst Fraction at.2 (way_fraction i at.0)

  pub best_there : {i j : ℕ} {t : Tri} → Way site i j t → (q : Quality) × (best_worst site i j ≡ some q)
  unfolding best_worst
  best_there {i} {j} w = best_of_lem (map (worst_of_way site i) (piece_ways site i j)) (Memᴰ.map (worst_of_way site i) (way_in w))

  pub best_reached : {i j : ℕ} {q : Quality} → i < j → best_worst site i j ≡ some q → Reached site i j q
  unfolding best_worst
  best_reached {i} {j} {q} h e =
      let ts = piece_ways site i j in
      let b = best_is (map (worst_of_way site i) ts) (worsts_fractions i ts) e in
      let at = Memᴰ.of_map (worst_of_way site i) ts b.inside in
      record {
        by = at.0;
        way = in_way h at.1;
        worst = at.2;
        bounds = λ t w. b.bounds (worst_of_way site i t) (Memᴰ.map (worst_of_way site i) (way_in w));
        fraction = worsts_fractions i ts q b.inside;
      }

-- nothing is as good as a mark but a mark
pub none_best : (o : Option Quality) → T (same_best none o) → o ≡ none
unfolding same_best
none_best none t = refl
none_best (some q) t = absurd t
