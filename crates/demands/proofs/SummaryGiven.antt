-- Our kernel gives every right block its summary: the laws of lists of qualities, brought to the rows of a block. And any kernel that
-- gives every right block its summary gives the same.
use Prim.Native.Nat.{ℕ, suc, ◌*◌, ◌^◌, ◌≤◌, ◌<◌}
use mathlib.Core.List.Memᴰ
use mathlib.Core.List.{List, [], ◌∷◌, map, cons-ne-nil, Memᴰ}
use mathlib.Core.Logic.{◌↔◌}
use mathlib.Core.Option as maybe
use mathlib.Core.Path.{◌≡◌, refl, sym, ap, ◌∙◌, subst}
use native.Mathlib.Decide.{dec_le, dec_lt}
use native.Mathlib.Nat.{le_antisymm, mul-le-mul_right}
use native.Mathlib.Omega.{arith}
use lib.Dec.{T, lit<}
use lib.ListN.{length}
use Rattle.std.specs.Prelude.{Option, None, Some, is_some, unwrap_or, Ok}
use Rattle.lists.specs.Lists.{count, every, sum}
use Rattle.lists.proofs.Lists.{those_e}
use Rattle.lists.proofs.Images.{map_same}
use Rattle.volume.specs.declared.Point.{Point}
use Rattle.quality.specs.declared.Quality.{Quality}
use Rattle.score.specs.declared.Score.{Score}
use Rattle.volume.specs.Volume.{points_in}
use Rattle.quality.specs.Quality.{quality, is_upright, worst}
use Rattle.score.specs.Score.{score_of, badness, added, total_badness, worst_score, octave_of, octave}
use Rattle.quality.proofs.WorstAndBest.{Fractions, worst_is_lem}
use Rattle.score.proofs.ScoreLargest.{worst_score_smallest}
use Rattle.quality.proofs.QualityBounds.{Small, quality_small, num_below_59, den_below_59}
use Rattle.volume.proofs.VolumeBounds.{D_of_bytes, S_of_bytes}
use Rattle.score.proofs.OctaveLargest.{OctaveIs as OctaveOf, octave_of_rows, octave_of_none, doubled_less}
use Rattle.rows.specs.declared.Row.{Row}
use Rattle.rows.specs.Rows.{rows_at, rows_in}
use Rattle.rows.specs.RowMeasure.{place, row_d, row_s, row_quality}
use Rattle.rows.proofs.ProperRows.{row_proper}
use Rattle.layout.specs.Layout.{Patch, points_at, point_count, row_count, coordinates_of, fields_of}
use Rattle.block.proofs.RightBlocks.{opens}
use Rattle.summary.specs.declared.Summary.{Summary}
use Rattle.tally.specs.Tally.{qualities}
use Rattle.summary.specs.Summary.{summary_of}
use Rattle.layout.specs.Within.{is_byte}
use Rattle.layout.proofs.BytesOfSlices.{part_bytes_lem}
use Rattle.tally.proofs.RowsInBytes.{place_within, row_small}
use Rattle.summary.proofs.BadnessFits.{badness_limit, badness_most, qualities_rows}
use Rattle.accepted.proofs.AfterRemoval.{summary_opened}
use Rattle.demands.specs.Kernels.{ours}
use Rattle.demands.specs.Summaries.{over0, uprights, BadnessIs, BadnessSum, WorstIs, OctaveIs, max_badness, Bounded, SumsFit}
use Rattle.demands.specs.Summaries.{Sums, Summarises, OneSummary}
use Rattle.demands.proofs.QualityByDAndS.{row_score, one_score, badness_is, one_badness, by_D_and_S, upright_count, flat_count}
use Rattle.demands.proofs.QualityByDAndS.{inverted_count, three_counts, row_badness, upright_sum}

-- a number is no mark
not_none : {A : Type 0} {x : A} → Some x ≡ None → ⊥
not_none e = subst (λ o. T (is_some o)) e tt

-- a list of no length
empty : {A : Type 0} (xs : List A) → length xs ≡ 0 → xs ≡ []
empty [] e = refl
empty (x ∷ xs) e = absurd (omega arith)

-- ---- a patch with bytes for its coordinates

module _ (coordinates : List ℕ) (bytes : T (every is_byte coordinates)) (n : ℕ) (rows : List Row) where
  abbrev points : List Point
  points = points_in coordinates n

  abbrev patch : Patch
  patch = record { points = points; rows = rows }

  abbrev qs : List Quality
  qs = qualities patch

  row_badness_most : (row : Row) → T (over0 (row_d points row)) → (b : ℕ) → BadnessIs (row_d points row) (row_s points row) b → b ≤ max_badness
  row_badness_most row up b is =
      let q = row_quality points row in
      let own : BadnessIs (row_d points row) (row_s points row) (added (badness q)) =
      rw (by_D_and_S points row) (badness_is (row_d points row) (row_s points row) up) in
      subst (λ c. c ≤ max_badness) (one_badness own is) (badness_most q (row_proper points row) (row_small coordinates bytes n row))

  -- each row is within the bounds, since each place is one of bytes
  bounded : (row : Row) → Bounded points row
  unfolding row_d row_s row_quality
  bounded row =
      let p = place points row.p in
      let q = place points row.q in
      let r = place points row.r in
      let s = place points row.s in
      let hp = place_within coordinates bytes n row.p in
      let hq = place_within coordinates bytes n row.q in
      let hr = place_within coordinates bytes n row.r in
      let hs = place_within coordinates bytes n row.s in
      let small : Small (quality p q r s) = quality_small p q r s hp hq hr hs in
      record {
        D_most = D_of_bytes p q r s hp hq hr hs;
        S_most = S_of_bytes p q r s hp hq hr hs;
        num_most = small.num_most;
        den_most = small.den_most;
        num_below = num_below_59 (quality p q r s) small;
        den_below = den_below_59 (quality p q r s) small;
        badness_most = row_badness_most row;
      }

  -- ---- the worst score

  fractions : Fractions qs
  fractions q m = ((qualities_rows coordinates bytes n rows).consistent q m).fraction

  -- of the worst of the qualities: it is that of a row
  worst_at : (q : Quality) → worst qs ≡ maybe.some q → WorstIs patch (score_of q)
  worst_at q e =
      let w = worst_is_lem qs fractions e in
      let (row, inside, same) = Memᴰ.of_map (row_quality points) patch.rows w.inside in
      let least = (worst_score_smallest qs fractions e).1 in
      record {
        row = row;
        inside = inside;
        none_worse = λ other m. rw same (w.bounds (row_quality points other) (Memᴰ.map (row_quality points) m)).not_worse;
        its_score = rw same at (row_score points row);
        smallest = λ other m k h.
            subst (λ n. score_of q ≤ n) (one_score (row_score points other) h) (least (row_quality points other) (Memᴰ.map (row_quality points) m));
      }

  worst_said : (score : Score) → worst_score qs ≡ Some score → WorstIs patch score.value
  unfolding worst_score
  worst_said score said = go (worst qs) refl
    where
      go : (o : maybe.Option Quality) → worst qs ≡ o → WorstIs patch score.value
      go (maybe.some q) e = subst (WorstIs patch) (ap (λ w. (unwrap_or w score).value) (sym (worst_score_smallest qs fractions e).0 ∙ said)) (worst_at q e)
      go maybe.none e = absurd (not_none (sym (rw (e, worst_score) at said)))

  no_rows_said : (worst_score qs ≡ None) ↔ (patch.rows ≡ [])
  unfolding worst_score worst
  no_rows_said = go patch.rows
    where
      go : (rows : List Row) → (worst_score (map (row_quality points) rows) ≡ None) ↔ (rows ≡ [])
      go [] = (λ e. refl, λ e. refl)
      go (row ∷ rows) = (λ e. absurd (not_none e), λ e. absurd (cons-ne-nil row rows e))

  -- ---- the octave

  counted : count is_upright qs ≡ length (uprights patch)
  counted = upright_count points patch.rows

  summed : BadnessSum points (uprights patch) (total_badness qs)
  summed = record {
    badness = row_badness points;
    of_each = λ row m.
        let up = (those_e (λ row. over0 (row_d points row)) patch.rows m).1 in
        rw (by_D_and_S points row) (badness_is (row_d points row) (row_s points row) up);
    added_up = upright_sum points patch.rows;
  }

  octave_at : 0 < count is_upright qs → OctaveOf qs (octave_of (count is_upright qs) (total_badness qs))
  octave_at some-upright = octave_of_rows badness_limit qs (lit< tt) (qualities_rows coordinates bytes n rows) some-upright

  octave_is_lem : (e : ℕ) → OctaveOf qs e → OctaveIs patch e
  octave_is_lem e o = record {
    total = total_badness qs;
    sum_is = summed;
    reached = rw counted at o.reached;
    next = rw counted at o.next;
  }

  octave_said : (e : ℕ) → octave qs ≡ Some e → OctaveIs patch e
  octave_said e said = go (dec_lt 0 (count is_upright qs))
    where
      go : Dec (0 < count is_upright qs) → OctaveIs patch e
      go (yes l) =
          let o = octave_at l in
          subst (OctaveIs patch) (ap (λ o. unwrap_or o e) (sym o.mark ∙ said)) (octave_is_lem _ o)
      go (no l) = absurd (not_none (sym said ∙ octave_of_none qs (omega arith)))

  no_upright_said : (octave qs ≡ None) ↔ (uprights patch ≡ [])
  no_upright_said = (there, λ e. octave_of_none qs (counted ∙ ap length e))
    where
      there : octave qs ≡ None → uprights patch ≡ []
      there said = go (dec_lt 0 (count is_upright qs))
        where
          go : Dec (0 < count is_upright qs) → uprights patch ≡ []
          go (yes l) = absurd (not_none (sym (octave_at l).mark ∙ said))
          go (no l) = empty (uprights patch) (omega (arith, counted))

  -- ---- the summary

  pub sums : Sums patch (summary_of patch)
  unfolding summary_of
  sums = record {
    upright = upright_count points patch.rows;
    flat = flat_count points patch.rows;
    inverted = inverted_count points patch.rows;
    all_rows =
        omega (
          arith,
          upright_count points patch.rows,
          flat_count points patch.rows,
          inverted_count points patch.rows,
          three_counts points patch.rows,
        );
    worst = worst_said;
    no_rows = no_rows_said;
    octave = octave_said;
    no_upright = no_upright_said;
  }

pub summary_of_block : Summarises ours
unfolding ours fields_of
summary_of_block block bytes right =
    let its = coordinates_of block in
    let own = part_bytes_lem points_at rows_at block bytes in
    let n = point_count block in
    let rows = rows_in block (row_count block) in
    (summary_of (fields_of block), summary_opened block (opens block right), sums its own n rows, λ row m. bounded its own n rows row)

pub sums_fit : SumsFit
sums_fit bs few each = omega (arith, sum_most bs each, mul-le-mul_right max_badness few)
  where
    sum_most : (xs : List ℕ) → ((b : ℕ) → Memᴰ b xs → b ≤ max_badness) → sum xs ≤ length xs * max_badness
    sum_most [] h = omega arith
    sum_most (x ∷ xs) h = omega (arith, h x (Memᴰ.head refl), sum_most xs (λ b m. h b (Memᴰ.tail m)))

-- ---- one outcome

worst_one : (patch : Patch) {m n : ℕ} → WorstIs patch m → WorstIs patch n → m ≡ n
worst_one patch {m} {n} h k =
    le_antisymm (h.smallest k.row k.inside n k.its_score) (k.smallest h.row h.inside m h.its_score)

sum_one : (points : List Point) (rows : List Row) {m n : ℕ} → BadnessSum points rows m → BadnessSum points rows n → m ≡ n
sum_one points rows h k =
    h.added_up ∙ ap sum (map_same h.badness k.badness rows (λ row m. one_badness (h.of_each row m) (k.of_each row m)))
    ∙ sym k.added_up

-- a larger octave would reach the next power
octave_no_less : (patch : Patch) {d e : ℕ} → OctaveIs patch d → OctaveIs patch e → e ≤ d
octave_no_less patch {d} {e} h k = go (dec_le e d)
  where
    go : Dec (e ≤ d) → e ≤ d
    go (yes l) = l
    go (no l) =
        let same = sum_one patch.points (uprights patch) h.sum_is k.sum_is in
        let reached = doubled_less (length (uprights patch)) k.total {d = suc d} {e = e} (omega arith) k.reached in
        absurd (omega (arith, same, reached, h.next))

octave_one : (patch : Patch) {d e : ℕ} → OctaveIs patch d → OctaveIs patch e → d ≡ e
octave_one patch h k = le_antisymm (octave_no_less patch k h) (octave_no_less patch h k)

-- without an upright row there is no octave
octave_some : (patch : Patch) {e : ℕ} → OctaveIs patch e → uprights patch ≡ [] → ⊥
octave_some patch {e} o none_is =
    let next : o.total < 2 ^ suc e * 0 = rw (ap length none_is) at o.next in
    omega arith

module _ (patch : Patch) {s t : Summary} (h : Sums patch s) (k : Sums patch t) where
  same_worst : s.worst ≡ t.worst
  same_worst = go s.worst t.worst h.worst h.no_rows.0 k.worst k.no_rows.0
    where
      go : (v w : Option Score)
          → ((a : Score) → v ≡ Some a → WorstIs patch a.value) → (v ≡ None → patch.rows ≡ [])
          → ((a : Score) → w ≡ Some a → WorstIs patch a.value) → (w ≡ None → patch.rows ≡ [])
          → v ≡ w
      go (Some a) (Some b) f f0 g g0 = ap (λ n. Some (record { value = n })) (worst_one patch (f a refl) (g b refl))
      go (Some a) None f f0 g g0 = absurd (Memᴰ.not-nil (rw (g0 refl) at (f a refl).inside))
      go None (Some b) f f0 g g0 = absurd (Memᴰ.not-nil (rw (f0 refl) at (g b refl).inside))
      go None None f f0 g g0 = refl

  same_octave : s.octave ≡ t.octave
  same_octave = go s.octave t.octave h.octave h.no_upright.0 k.octave k.no_upright.0
    where
      go : (v w : Option ℕ)
          → ((e : ℕ) → v ≡ Some e → OctaveIs patch e) → (v ≡ None → uprights patch ≡ [])
          → ((e : ℕ) → w ≡ Some e → OctaveIs patch e) → (w ≡ None → uprights patch ≡ [])
          → v ≡ w
      go (Some d) (Some e) f f0 g g0 = ap Some (octave_one patch (f d refl) (g e refl))
      go (Some d) None f f0 g g0 = absurd (octave_some patch (f d refl) (g0 refl))
      go None (Some e) f f0 g g0 = absurd (octave_some patch (g e refl) (f0 refl))
      go None None f f0 g g0 = refl

  -- a patch has one summary
  sums_one : s ≡ t
  sums_one = λ i. record {
    upright = (h.upright ∙ sym k.upright) i;
    flat = (h.flat ∙ sym k.flat) i;
    inverted = (h.inverted ∙ sym k.inverted) i;
    worst = same_worst i;
    octave = same_octave i;
  }

pub one_summary : OneSummary
one_summary k l hk hl block bytes right =
    let (s, given, sums, bounds) = hk block bytes right in
    let (t, given', sums', bounds') = hl block bytes right in
    given ∙ ap Ok (sums_one (fields_of block) sums sums') ∙ sym given'
