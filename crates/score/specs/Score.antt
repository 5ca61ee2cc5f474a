-- Requirement §4 and §5: score, badness, octave and their marks.
use Rattle.std.specs.Prelude.{ℕ, ◌*◌, ◌^◌, min, cond, List, map, leb, eqb, Option, None, Some, unwrap_or}
use Rattle.std.proofs.Math.Option.{none, some}
use Rattle.lists.specs.Lists.{count, sum, largest}
use Rattle.exact.specs.Fractions.{rounded_up}
use Rattle.quality.specs.declared.Quality.{Quality}
use Rattle.score.specs.declared.Score.{Score}
use Rattle.quality.specs.Quality.{is_upright, worst}

-- ---- score

-- the end score 0
abbrev pub lowest_score : ℕ
lowest_score = 0

-- the end score 1000
abbrev pub highest_score : ℕ
highest_score = 1000

-- a score is a whole number from 0 to 1000: n, or the highest for whatever is over it
abbrev pub score_at : ℕ → Score
score_at n = record { value = min n highest_score }

-- 10^9: the score n stands for the quality n³/10^9
abbrev pub score_factor : ℕ
score_factor = 10 ^ 9

-- the largest n from 0 to 1000 with n³·S³ ≤ 10^9·432·D² for D > 0; otherwise 0
unfoldable pub score_of : Quality → ℕ
score_of q = cond (is_upright q) (largest (λ n. leb (n ^ 3 * q.den) (score_factor * q.num)) highest_score) lowest_score

-- the score of a quality
abbrev pub score : Quality → Score
score q = record { value = score_of q }

-- the score of the worst row; a patch with no rows has a mark
unfoldable pub worst_score : List Quality → Option Score
worst_score qs = elim (worst qs) [ none ↦ None | some q ↦ Some (score q) ]

-- ---- badness

-- badness, for D > 0 only: S³/(432·D²) rounded up
unfoldable pub badness : Quality → Option ℕ
badness q = cond (is_upright q) (Some (rounded_up q.den q.num)) None

-- what a row adds to the sum over the upright rows
abbrev pub added : Option ℕ → ℕ
added b = unwrap_or b 0

-- the sum of badness over the upright rows
unfoldable pub total_badness : List Quality → ℕ
total_badness qs = sum (map (λ q. added (badness q)) qs)

-- ---- octave

-- the largest octave looked for
abbrev pub octave_limit : ℕ
octave_limit = 63

-- the largest e with 2^e·n ≤ the sum
unfoldable pub octave_of : ℕ → ℕ → ℕ
octave_of n total = largest (λ e. leb (2 ^ e * n) total) octave_limit

-- the octave: n counts the upright rows, and the sum is that of their badness; with no upright row it is a mark
unfoldable pub octave : List Quality → Option ℕ
octave qs =
    let n = count is_upright qs in
    cond (eqb n 0) None (Some (octave_of n (total_badness qs)))
