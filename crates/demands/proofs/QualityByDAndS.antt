-- A quality by D and S: its kind is the sign of D, and its score and badness are those that D and S have, one each. So a count or a sum
-- over the qualities of some rows is one over the rows.
use Prim.Native.Nat.{ℕ, zero, suc, ◌+◌, ◌<◌}
use mathlib.Core.Bool.{Bool, true, false, cond, not}
use mathlib.Core.List.{List, [], ◌∷◌, map}
use mathlib.Core.Logic.{◌⊎◌, inl, inr}
use mathlib.Core.Path.{◌≡◌, refl, sym, ap, ◌∙◌}
use native.Mathlib.Nat.{le_antisymm, mul-pos, one-le-pow}
use native.Mathlib.Omega.{arith}
use borrow.Author.Tests.{lt-ltb, le-ltb}
use lib.Dec.{T}
use lib.IntN.{ℤ, pos, negsuc}
use lib.ListN.{length}
use Rattle.lists.specs.Lists.{count, those, sum}
use Rattle.lists.proofs.Tests.{either, is_no}
use Rattle.lists.proofs.Counts.{ind, count_cons, count_map, count_same}
use Rattle.volume.specs.declared.Point.{Point}
use Rattle.quality.specs.declared.Kind.TheVariants.{Upright, Inverted}
use Rattle.quality.specs.declared.Quality.{Quality}
use Rattle.quality.specs.Quality.{zero_quality, fraction, quality, quality_of, is_upright, is_flat, is_inverted}
use Rattle.score.specs.Score.{score_of, badness, added, total_badness}
use Rattle.score.proofs.ScoreLargest.{score_within, score_reached, score_largest, score_lowest}
use Rattle.score.proofs.BadnessLeast.{badness_other, badness_enough, badness_least}
use Rattle.rows.specs.declared.Row.{Row}
use Rattle.rows.specs.RowMeasure.{row_d, row_s, row_quality}
use Rattle.demands.specs.Summaries.{over0, equal0, below0, ScoreIs, BadnessIs}

-- ---- one quality

-- a number over 0 by the three tests

suc_over : (d : ℕ) → over0 (pos (suc d)) ≡ true
suc_over d = lt-ltb 0 (suc d) (omega arith)

suc_not_below : (d : ℕ) → below0 (pos (suc d)) ≡ false
suc_not_below d = le-ltb (suc d) 0 (omega arith)

suc_not_equal : (d : ℕ) → equal0 (pos (suc d)) ≡ false
suc_not_equal d = rw (suc_not_below d, suc_over d)

-- its kind

upright_over : (d : ℤ) (s : ℕ) → is_upright (quality_of d s) ≡ over0 d
unfolding quality_of
upright_over (pos zero) s = refl
upright_over (pos (suc d)) s = sym (suc_over d)
upright_over (negsuc d) s = refl

flat_equal : (d : ℤ) (s : ℕ) → is_flat (quality_of d s) ≡ equal0 d
unfolding quality_of
flat_equal (pos zero) s = refl
flat_equal (pos (suc d)) s = sym (suc_not_equal d)
flat_equal (negsuc d) s = refl

inverted_below : (d : ℤ) (s : ℕ) → is_inverted (quality_of d s) ≡ below0 d
unfolding quality_of
inverted_below (pos zero) s = refl
inverted_below (pos (suc d)) s = sym (suc_not_below d)
inverted_below (negsuc d) s = refl

-- D has one of three signs
one_sign : (d : ℤ) → ind (over0 d) + ind (equal0 d) + ind (below0 d) ≡ 1
one_sign (pos zero) = refl
one_sign (pos (suc d)) = λ i. ind (suc_over d i) + ind (suc_not_equal d i) + ind (suc_not_below d i)
one_sign (negsuc d) = refl

-- its score

pub score_is : (d : ℤ) (s : ℕ) → ScoreIs d s (score_of (quality_of d s))
unfolding quality_of
score_is (pos zero) s =
    record {
      within = score_within zero_quality;
      reached = λ t. absurd t;
      largest = λ t. absurd t;
      otherwise = λ t. score_lowest zero_quality tt;
    }
score_is (pos (suc d)) s =
    let q = fraction Upright (suc d) s in
    record {
      within = score_within q;
      reached = λ t. score_reached q tt;
      largest = λ t. score_largest q tt;
      otherwise = λ t. absurd (rw (suc_over d) at t);
    }
score_is (negsuc d) s =
    let q = fraction Inverted (suc d) s in
    record {
      within = score_within q;
      reached = λ t. absurd t;
      largest = λ t. absurd t;
      otherwise = λ t. score_lowest q tt;
    }

pub one_score : {d : ℤ} {s m n : ℕ} → ScoreIs d s m → ScoreIs d s n → m ≡ n
one_score {d} {s} {m} {n} h k = go (either (over0 d))
  where
    go : T (over0 d) ⊎ T (not (over0 d)) → m ≡ n
    go (inl t) = le_antisymm (k.largest t m h.within (h.reached t)) (h.largest t n k.within (k.reached t))
    go (inr t) = h.otherwise t ∙ sym (k.otherwise t)

-- its badness

pub badness_is : (d : ℤ) (s : ℕ) → T (over0 d) → BadnessIs d s (added (badness (quality_of d s)))
unfolding quality_of
badness_is (pos zero) s t = absurd t
badness_is (pos (suc d)) s t =
    let q = fraction Upright (suc d) s in
    let size : 0 < q.num = mul-pos (omega arith) (one-le-pow 2 (suc d) (omega arith)) in
    record { enough = badness_enough q tt size; least = badness_least q tt size }
badness_is (negsuc d) s t = absurd t

pub one_badness : {d : ℤ} {s b c : ℕ} → BadnessIs d s b → BadnessIs d s c → b ≡ c
one_badness {b = b} {c = c} h k = le_antisymm (h.least c k.enough) (k.least b h.enough)

-- ---- the qualities of some rows

module _ (points : List Point) where
  pub by_D_and_S : (row : Row) → row_quality points row ≡ quality_of (row_d points row) (row_s points row)
  unfolding row_quality row_d row_s quality
  by_D_and_S row = refl

  -- the score of a row's quality is that of its D and S
  pub row_score : (row : Row) → ScoreIs (row_d points row) (row_s points row) (score_of (row_quality points row))
  row_score row = rw (by_D_and_S row) (score_is (row_d points row) (row_s points row))

  abbrev is_over : Row → Bool
  is_over row = over0 (row_d points row)

  row_upright : (row : Row) → is_upright (row_quality points row) ≡ is_over row
  row_upright row = ap is_upright (by_D_and_S row) ∙ upright_over (row_d points row) (row_s points row)

  -- counted

  counted : (p : Quality → Bool) (sign : ℤ → Bool) → ((d : ℤ) (s : ℕ) → p (quality_of d s) ≡ sign d) → (rows : List Row)
      → count p (map (row_quality points) rows) ≡ count (λ row. sign (row_d points row)) rows
  counted p sign h rows =
      count_map p (row_quality points) rows
      ∙ count_same (λ row. p (row_quality points row)) (λ row. sign (row_d points row)) rows
      (λ row m. ap p (by_D_and_S row) ∙ h (row_d points row) (row_s points row))

  pub upright_count : (rows : List Row) → count is_upright (map (row_quality points) rows) ≡ count is_over rows
  upright_count = counted is_upright over0 upright_over

  pub flat_count : (rows : List Row) → count is_flat (map (row_quality points) rows) ≡ count (λ row. equal0 (row_d points row)) rows
  flat_count = counted is_flat equal0 flat_equal

  pub inverted_count : (rows : List Row) → count is_inverted (map (row_quality points) rows) ≡ count (λ row. below0 (row_d points row)) rows
  inverted_count = counted is_inverted below0 inverted_below

  -- the three counts are all rows
  pub three_counts : (rows : List Row)
      → count is_over rows + count (λ row. equal0 (row_d points row)) rows + count (λ row. below0 (row_d points row)) rows ≡ length rows
  unfolding those
  three_counts [] = refl
  three_counts (row ∷ rows) =
      omega (
        arith,
        one_sign (row_d points row),
        three_counts rows,
        count_cons is_over row rows,
        count_cons (λ row. equal0 (row_d points row)) row rows,
        count_cons (λ row. below0 (row_d points row)) row rows,
      )

  -- the badness of a row's quality
  abbrev pub row_badness : Row → ℕ
  row_badness row = added (badness (row_quality points row))

  -- added up over the upright rows alone: the others add nothing
  pub upright_sum : (rows : List Row) → total_badness (map (row_quality points) rows) ≡ sum (map row_badness (those is_over rows))
  unfolding total_badness those
  upright_sum [] = refl
  upright_sum (row ∷ rows) = go (is_over row) refl (upright_sum rows)
    where
      go : (b : Bool) → is_over row ≡ b → total_badness (map (row_quality points) rows) ≡ sum (map row_badness (those is_over rows))
          → row_badness row + total_badness (map (row_quality points) rows)
          ≡ sum (map row_badness (cond b (row ∷ those is_over rows) (those is_over rows)))
      go true e rest = ap (λ n. row_badness row + n) rest
      go false e rest =
          let none : row_badness row ≡ 0 =
          ap added (badness_other (row_quality points row) (is_no _ (row_upright row ∙ e))) in
          omega arith
