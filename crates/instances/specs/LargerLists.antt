-- Request [11], computed: lists from worst to best, before and after. Of block A and of the plate the first entries differ. Where the worst row
-- is elsewhere, the first entry stays and the second is better. And a plain flip, which no quality test bars, makes a list smaller.
use Rattle.std.specs.Prelude.{ℕ, zero, suc, ◌<◌, List, [], ◌∷◌, ◌≡◌, refl, T}
use Rattle.std.proofs.Common.{arith}
use Rattle.quality.specs.declared.Kind.TheVariants.{Upright}
use Rattle.quality.specs.declared.Quality.{Quality}
use Rattle.quality.specs.Quality.{as_good}
use Rattle.score.specs.Score.{score_of}
use Rattle.layout.specs.Layout.{Patch, fields_of, bytes_of}
use Rattle.tally.specs.Tally.{worst_of_patch}
use Rattle.ranking.specs.Ranking.{put, from_worst, worst_first, entry, Grows}
use Rattle.calls.specs.Flipping.{flip_answer, flip_bytes}
use Rattle.facts.specs.AllDefinitions.{definitions}
use Rattle.facts.specs.Facts.{at, row, block_a_with, block_a, blank, after}
use Rattle.plate.specs.Plate.{plate_points, plate_rows, plate}

-- the fraction n/d of an upright row
abbrev pub upright : ℕ → ℕ → Quality
upright n d = record { kind = Upright; num = n; den = d }

-- ---- removals

-- block A: three rows become two
pub block_a_lem :
    (worst_first block_a ≡ upright 143327232 719323136 ∷ upright 143327232 282300416 ∷ upright 143327232 282300416 ∷ [])
    × (worst_first (after block_a) ≡ upright 322486272 672221376 ∷ upright 322486272 672221376 ∷ [])
unfolding block_a_with block_a definitions put from_worst
block_a_lem = (refl, refl)

-- the plate, a chain: three rows become four
pub plate_lists :
    (worst_first plate ≡ upright 1289945088 5716135872 ∷ upright 1289945088 5716135872 ∷ upright 9172942848 11239424000 ∷ [])
    × (worst_first (after plate)
    ≡ upright 1289945088 2427715584 ∷ upright 1289945088 2427715584 ∷ upright 2293235712 4314825152 ∷ upright 2293235712 4314825152 ∷ [])
unfolding plate_points plate_rows plate definitions put from_worst
plate_lists = (refl, refl)

-- ---- the worst is elsewhere

-- Block A and a sliver that has no point in common with it.
unfoldable pub elsewhere : Patch
elsewhere = block_a_with (at 4 4 12) (at 20 20 20 ∷ at 30 20 20 ∷ at 20 30 20 ∷ at 24 24 21 ∷ []) (row 5 7 6 8 ∷ [])

-- the sliver stays the worst, with the same score; behind it the list is better
pub elsewhere_lists :
    (worst_first elsewhere
    ≡ upright 4320000 156590819 ∷ upright 143327232 719323136 ∷ upright 143327232 282300416 ∷ upright 143327232 282300416 ∷ [])
    × (worst_first (after elsewhere) ≡ upright 4320000 156590819 ∷ upright 322486272 672221376 ∷ upright 322486272 672221376 ∷ [])
    × (score_of (worst_of_patch elsewhere) ≡ 302) × (score_of (worst_of_patch (after elsewhere)) ≡ 302)
unfolding block_a_with elsewhere definitions put from_worst
elsewhere_lists = (refl, refl, refl, refl)

-- the lists differ first at the second place
pub second_place : (g : Grows (worst_first elsewhere) (worst_first (after elsewhere))) × (g.place ≡ 1)
unfolding block_a_with elsewhere definitions put from_worst
second_place = (record { place = 1; in_old = omega arith; in_new = omega arith; before = same; better = tt }, refl)
  where
    same : (i : ℕ) → i < 1 → T (as_good (entry (worst_first elsewhere) i) (entry (worst_first (after elsewhere)) i))
    same zero l = tt
    same (suc i) l = absurd (omega arith)

-- ---- a flip

-- the face of block A's two new rows
abbrev pub face : List ℕ
face = 2 ∷ 3 ∷ 4 ∷ []

-- the plain flip of that face is done, though one of its three rows is worse than both that go: the list is smaller afterwards
pub flip_smaller :
    let block = bytes_of 1 (after block_a) in
    (flip_answer block blank face ≡ 0) × Grows (worst_first (fields_of (flip_bytes block blank face))) (worst_first (fields_of block))
unfolding block_a_with block_a definitions put from_worst
flip_smaller = (refl, record { place = 0; in_old = omega arith; in_new = omega arith; before = λ i l. absurd (omega arith); better = tt })
