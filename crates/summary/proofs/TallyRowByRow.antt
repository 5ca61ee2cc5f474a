-- What the code has after some rows is the tally of their qualities; the summary is read off it.
use Prim.Native.Nat.{ℕ, suc, ◌+◌, ◌<◌, ◌^◌}
use mathlib.Core.Bool.{Bool}
use mathlib.Core.List.{List, [], ◌∷◌, ◌++◌, map}
use mathlib.Core.Option as maybe
use mathlib.Core.Path.{◌≡◌, refl, sym, ap, ◌∙◌, subst}
use native.Mathlib.Nat.{add-zero}
use native.Mathlib.Omega.{arith}
use lib.Dec.{T}
use lib.ListN.{length, length-map}
use Rattle.std.specs.Prelude.{None, Some, option_map}
use Rattle.lists.specs.Lists.{count, every, those}
use Rattle.lists.proofs.Counts.{count_append, count_most}
use Rattle.quality.specs.declared.Kind.{Kind}
use Rattle.quality.specs.declared.Kind.TheVariants.{Upright, Flat, Inverted}
use Rattle.quality.specs.declared.Quality.{Quality}
use Rattle.volume.specs.Steps.{largest_byte}
use Rattle.volume.specs.Volume.{points_in}
use Rattle.quality.specs.Quality.{worst, is_upright, is_flat, is_inverted}
use Rattle.score.specs.Score.{badness, added, total_badness, score, worst_score, octave}
use Rattle.quality.proofs.ConsistentQualities.{of_kind}
use Rattle.rows.specs.declared.Row.{Row}
use Rattle.rows.specs.Rows.{row_in, rows_in}
use Rattle.rows.specs.RowMeasure.{row_quality}
use Rattle.rows.proofs.RowsOfTables.{rows_length}
use Rattle.layout.specs.Layout.{Patch}
use Rattle.layout.specs.Within.{is_byte}
use Rattle.summary.specs.declared.Counts.{Counts}
use Rattle.summary.specs.declared.Tally.{Tally}
use Rattle.tally.specs.Steps.{Measured}
use Rattle.summary.specs.Steps.{count_with, tally_with, tallied, Unwrapped}
use Rattle.tally.specs.Tally.{qualities}
use Rattle.summary.specs.Summary.{summary_of}
use Rattle.tally.proofs.RowsMeasured.{qualities_more}
use Rattle.summary.proofs.BadnessFits.{total_fits}
use Rattle.tally.proofs.WorstRowByRow.{met, worst_more}

-- the counts of some qualities
abbrev pub counts_of : List Quality → Counts
counts_of qs = record { upright = count is_upright qs; flat = count is_flat qs; inverted = count is_inverted qs }

-- one quality counts once, by its kind
one_more : (t : Counts) (q : Quality) (k : Kind)
    → ◌≡◌
    {A = Counts}
    (record {
      upright = t.upright + count is_upright (of_kind k q ∷ []);
      flat = t.flat + count is_flat (of_kind k q ∷ []);
      inverted = t.inverted + count is_inverted (of_kind k q ∷ []);
    })
    (count_with t k)
unfolding those
one_more t q Upright = simp add-zero
one_more t q Flat = simp add-zero
one_more t q Inverted = simp add-zero

counts_more : (qs : List Quality) (q : Quality) → counts_of (qs ++ q ∷ []) ≡ count_with (counts_of qs) q.kind
counts_more qs q =
    (λ k.
    record {
      upright = count_append is_upright qs (q ∷ []) k;
      flat = count_append is_flat qs (q ∷ []) k;
      inverted = count_append is_inverted qs (q ∷ []) k;
    })
    ∙ one_more (counts_of qs) q q.kind

badness_more : (qs : List Quality) (q : Quality) → total_badness (qs ++ q ∷ []) ≡ total_badness qs + added (badness q)
unfolding total_badness
badness_more [] q = omega arith
badness_more (x ∷ xs) q = omega (arith, badness_more xs q)

-- the score of the worst of them
score_of_lem : (qs : List Quality) → option_map score (met (worst qs)) ≡ worst_score qs
unfolding worst_score
score_of_lem qs = go (worst qs)
  where
    go : (w : maybe.Option Quality) → option_map score (met w) ≡ elim w [ maybe.none ↦ None | maybe.some q ↦ Some (score q) ]
    go maybe.none = refl
    go (maybe.some q) = refl

-- what the qualities of some rows come to
unfoldable pub tally_of : List Quality → Tally
tally_of qs = record { counts = counts_of qs; total = total_badness qs; met = met (worst qs) }

tally_more : (qs : List Quality) (q : Quality) → tally_of (qs ++ q ∷ []) ≡ tally_with (tally_of qs) q
unfolding tally_of
tally_more qs q = λ k. record { counts = counts_more qs q k; total = badness_more qs q k; met = worst_more qs q k }

pub summary_is_lem : (patch : Patch) → tallied (tally_of (qualities patch)) ≡ summary_of patch
unfolding tally_of summary_of octave
summary_is_lem patch =
    let qs = qualities patch in
    let t = summary_of patch in
    λ k. record { upright = t.upright; flat = t.flat; inverted = t.inverted; worst = score_of_lem qs k; octave = octave qs }

-- ---- one row more of a table

-- the tally of the first i rows, with row i
pub row_tally :
    (f : Row → Quality) (table : List ℕ) (i : ℕ)
    → tally_with (tally_of (map f (rows_in table i))) (f (row_in table i)) ≡ tally_of (map f (rows_in table (suc i)))
row_tally f table i = sym (tally_more (map f (rows_in table i)) (f (row_in table i))) ∙ ap tally_of (sym (qualities_more f table i))

-- nothing wraps with any of the rows that are measured
module _ {coordinates : List ℕ} {count : ℕ} {table : List ℕ} {n : ℕ} (m : Measured coordinates count table n)
    (bytes : T (every is_byte coordinates)) (i : ℕ) (h : i < n) where
  abbrev quality : Row → Quality
  quality = row_quality (points_in coordinates count)

  few : (p : Quality → Bool) → length (those p (map quality (rows_in table i))) < largest_byte
  few p =
      let most = count_most p (map quality (rows_in table i)) in
      let l = length-map (rows_in table i) quality in
      let k = rows_length table i in
      let limit = m.rows_most in
      omega arith

  pub unwrapped : Unwrapped (tally_of (map quality (rows_in table i))) (quality (row_in table i))
  unfolding tally_of
  unwrapped =
      record {
        upright = few is_upright;
        flat = few is_flat;
        inverted = few is_inverted;
        total =
            let fits = total_fits coordinates bytes count (rows_in table (suc i)) (omega (arith, rows_length table (suc i), m.rows_most)) in
            subst (λ t. t < 2 ^ 64)
            (ap total_badness (qualities_more quality table i) ∙ badness_more (map quality (rows_in table i)) (quality (row_in table i)))
            (omega (arith, fits));
      }
