-- The summary of a block as a statement about any kernel: counts, worst score and octave by D and S of the rows, never by what a call
-- computes; and how large D, S, numerators, denominators, badness and its sums get.
use Rattle.std.specs.Prelude.{ℕ, suc, ◌+◌, ◌*◌, ◌^◌, ◌≤◌, ◌<◌, Bool, not, ◌↔◌, ◌≡◌, T, ℤ, pos, nat_abs, length, Ok, None, Some}
use mathlib.Core.List.{List, [], map, Memᴰ}
use Rattle.std.specs.Int.Signed.{lt_z}
use Rattle.lists.specs.Lists.{count, every, those, sum}
use Rattle.volume.specs.declared.Point.{Point}
use Rattle.score.specs.declared.Score.{Score}
use Rattle.volume.specs.Volume.{same_z}
use Rattle.quality.specs.Quality.{quality_factor, worse}
use Rattle.score.specs.Score.{lowest_score, highest_score, score_factor}
use Rattle.rows.specs.declared.Row.{Row}
use Rattle.rows.specs.RowMeasure.{row_d, row_s, row_quality}
use Rattle.layout.specs.Layout.{Patch, fields_of}
use Rattle.layout.specs.Within.{is_byte}
use Rattle.block.specs.Holding.{RightBlock}
use Rattle.summary.specs.declared.Summary.{Summary}
use Rattle.demands.specs.Kernels.{Kernel}

-- ---- rows by the sign of D

-- D > 0
abbrev pub over0 : ℤ → Bool
over0 d = lt_z (pos 0) d

-- D = 0
abbrev pub equal0 : ℤ → Bool
equal0 d = same_z d (pos 0)

-- D < 0
abbrev pub below0 : ℤ → Bool
below0 d = lt_z d (pos 0)

-- the upright rows of a patch
abbrev pub uprights : Patch → List Row
uprights patch = those (λ row. over0 (row_d patch.points row)) patch.rows

-- ---- score and badness by D and S

-- n³·S³ ≤ 10^9·432·D²
abbrev pub Reaches : ℤ → ℕ → ℕ → Type 0
Reaches d s n = n ^ 3 * s ^ 3 ≤ score_factor * (quality_factor * nat_abs d ^ 2)

-- n is the score: the largest number from 0 to 1000 of which that is true, for D > 0; otherwise 0
pub record ScoreIs (d : ℤ) (s n : ℕ) : Type 0 where
  pub within : n ≤ highest_score
  pub reached : T (over0 d) → Reaches d s n
  pub largest : T (over0 d) → (k : ℕ) → k ≤ highest_score → Reaches d s k → k ≤ n
  pub otherwise : T (not (over0 d)) → n ≡ lowest_score

-- b is the badness, for D > 0 only: S³/(432·D²) rounded up, that is the least b with S³ ≤ b·432·D²
pub record BadnessIs (d : ℤ) (s b : ℕ) : Type 0 where
  pub enough : s ^ 3 ≤ b * (quality_factor * nat_abs d ^ 2)
  pub least : (c : ℕ) → s ^ 3 ≤ c * (quality_factor * nat_abs d ^ 2) → b ≤ c

-- total is the badness of some rows, added up
pub record BadnessSum (points : List Point) (rows : List Row) (total : ℕ) : Type 0 where
  pub badness : Row → ℕ
  pub of_each : (row : Row) → Memᴰ row rows → BadnessIs (row_d points row) (row_s points row) (badness row)
  pub added_up : total ≡ sum (map badness rows)

-- ---- the worst score and the octave of a patch

-- n is the score of the worst row: of a row than which none is worse, and no row's score is smaller
pub record WorstIs (patch : Patch) (n : ℕ) : Type 0 where
  pub row : Row
  pub inside : Memᴰ row patch.rows
  pub none_worse : (other : Row) → Memᴰ other patch.rows
      → T (not (worse (row_quality patch.points other) (row_quality patch.points row)))
  pub its_score : ScoreIs (row_d patch.points row) (row_s patch.points row) n
  pub smallest : (other : Row) → Memᴰ other patch.rows
      → (k : ℕ) → ScoreIs (row_d patch.points other) (row_s patch.points other) k → n ≤ k

-- e is the octave: 2^e·n ≤ sum < 2^(e+1)·n, with n upright rows and the sum of their badness
pub record OctaveIs (patch : Patch) (e : ℕ) : Type 0 where
  pub total : ℕ
  pub sum_is : BadnessSum patch.points (uprights patch) total
  pub reached : 2 ^ e * length (uprights patch) ≤ total
  pub next : total < 2 ^ suc e * length (uprights patch)

-- ---- bounds, with coordinates up to 255

-- |D| is at most this: 2·255³
abbrev pub max_d : ℕ
max_d = 33162750

-- S is at most this: 12·255²
abbrev pub max_s : ℕ
max_s = 780300

-- a numerator 432·D² and a denominator S³ are at most this
abbrev pub max_part : ℕ
max_part = 1728 * 255 ^ 6

-- the badness of an upright row is at most this
abbrev pub max_badness : ℕ
max_badness = 4 * 255 ^ 6

-- |D|, S, the numerator and the denominator of the quality, and the badness of an upright row are within them; numerator and denominator
-- are below 2^59
pub record Bounded (points : List Point) (row : Row) : Type 0 where
  pub D_most : nat_abs (row_d points row) ≤ max_d
  pub S_most : row_s points row ≤ max_s
  pub num_most : (row_quality points row).num ≤ max_part
  pub den_most : (row_quality points row).den ≤ max_part
  pub num_below : (row_quality points row).num < 2 ^ 59
  pub den_below : (row_quality points row).den < 2 ^ 59
  pub badness_most : T (over0 (row_d points row)) → (b : ℕ) → BadnessIs (row_d points row) (row_s points row) b → b ≤ max_badness

-- as many rows as 100 full blocks have
abbrev pub many_rows : ℕ
many_rows = 6000

-- a sum of so many badnesses, each within its bound, fits 64 bits
abbrev pub SumsFit : Type 0
SumsFit = (bs : List ℕ) → length bs ≤ many_rows → ((b : ℕ) → Memᴰ b bs → b ≤ max_badness) → sum bs < 2 ^ 63

-- ---- the summary

-- The summary of a patch: the counts by the sign of D, which add up to the rows; the score of the worst row, and the mark exactly
-- without rows; the octave, and the mark exactly without an upright row.
pub record Sums (patch : Patch) (summary : Summary) : Type 0 where
  pub upright : summary.upright ≡ count (λ row. over0 (row_d patch.points row)) patch.rows
  pub flat : summary.flat ≡ count (λ row. equal0 (row_d patch.points row)) patch.rows
  pub inverted : summary.inverted ≡ count (λ row. below0 (row_d patch.points row)) patch.rows
  pub all_rows : summary.upright + summary.flat + summary.inverted ≡ length patch.rows
  pub worst : (score : Score) → summary.worst ≡ Some score → WorstIs patch score.value
  pub no_rows : (summary.worst ≡ None) ↔ (patch.rows ≡ [])
  pub octave : (e : ℕ) → summary.octave ≡ Some e → OctaveIs patch e
  pub no_upright : (summary.octave ≡ None) ↔ (uprights patch ≡ [])

-- a kernel gives every right block of bytes its summary, and every row of it is within the bounds
abbrev pub Summarises : Kernel → Type 0
Summarises k =
    (block : List ℕ) → T (every is_byte block) → RightBlock block
    → (summary : Summary) × (k.summary block ≡ Ok summary) × Sums (fields_of block) summary
    × ((row : Row) → Memᴰ row (fields_of block).rows → Bounded (fields_of block).points row)

-- two kernels that do so give one summary: the statement admits one outcome
abbrev pub OneSummary : Type 0
OneSummary =
    (k l : Kernel) → Summarises k → Summarises l → (block : List ℕ) → T (every is_byte block) → RightBlock block
    → k.summary block ≡ l.summary block
