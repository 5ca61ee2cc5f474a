-- What only contracts of inner functions and proofs say: the edge of a table as a site, and what a loop over k upwards finds for a piece,
-- from the best worsts kept for the smaller pieces inside it.
use Rattle.std.specs.Prelude.{ℕ, zero, suc, ◌+◌, ◌-◌, cond, map, List, leb}
use Rattle.std.proofs.Math.Option
use Rattle.std.proofs.Math.Option.{Option, none, some, get_or}
use Rattle.lists.specs.Lists.{any}
use Rattle.quality.specs.declared.Quality.{Quality}
use Rattle.quality.specs.Quality.{worse, worse_of, worst, zero_quality}
use Rattle.volume.specs.Volume.{points_in}
use Rattle.rows.specs.RowMeasure.{row_quality}
use Rattle.rows.specs.Rows.{rows_in}
use Rattle.ring.specs.Ring.{Site, site_of}
use Rattle.triangulation.specs.Triangulation.{two_rows}
use Rattle.triangulation.specs.Admissible.{kept_uses, triangle_face, diagonal_faces}

-- the edge (a,b) in a table of n rows over count points
abbrev pub site_in : List ℕ → ℕ → List ℕ → ℕ → ℕ → ℕ → Site
site_in coordinates count table n a b = site_of (record { points = points_in coordinates count; rows = rows_in table n }) a b

-- ---- the candidate at k

-- the worse of a triangle's two rows
unfoldable pub triangle_worst : Site → ℕ → ℕ → ℕ → Quality
triangle_worst site i k j = get_or (worst (map (row_quality site.points) (two_rows site (i, k, j)))) zero_quality

-- q beside the triangle's side (i,j): q itself, if i and j are neighbours; otherwise the worse of q and the best worst of piece (i,j),
-- or nothing, if a kept row uses a face of a or b with the diagonal or the piece has the mark
unfoldable pub beside : Site → (ℕ → ℕ → Option Quality) → ℕ → ℕ → Quality → Option Quality
beside site kept i j q =
    let diagonal = cond (any (kept_uses site) (diagonal_faces site (i, j))) none (Option.map (worse_of q) (kept i j)) in
    cond (leb (j - i) 1) (some q) diagonal

-- the best worst of piece (i,j) with apex k, from the best worsts kept for smaller pieces; nothing, if no admissible triangulation has it
unfoldable pub candidate : Site → (ℕ → ℕ → Option Quality) → ℕ → ℕ → ℕ → Option Quality
candidate site kept i k j =
    let sides : Option Quality = elim (beside site kept i k (triangle_worst site i k j)) [ none ↦ none | some q ↦ beside site kept k j q ] in
    cond (kept_uses site (triangle_face site (i, k, j))) none sides

-- ---- the loop

-- what the loop keeps after k: the candidate, if nothing is kept or the candidate is better
abbrev pub keep : Option (ℕ × Quality) → ℕ → Option Quality → Option (ℕ × Quality)
keep found k none = found
keep none k (some q) = some (k, q)
keep (some best) k (some q) = cond (worse best.1 q) (some (k, q)) (some best)

-- what the loop has kept after n numbers from i on
unfoldable pub leading : (ℕ → Option Quality) → ℕ → ℕ → Option (ℕ × Quality)
leading candidates i zero = none
leading candidates i (suc n) = keep (leading candidates i n) (i + n) (candidates (i + n))

-- the apex and the best worst that a loop over k upwards finds for piece (i,j)
abbrev pub best_found : Site → (ℕ → ℕ → Option Quality) → ℕ → ℕ → Option (ℕ × Quality)
best_found site kept i j = leading (λ k. candidate site kept i k j) (suc i) (j - i - 1)
