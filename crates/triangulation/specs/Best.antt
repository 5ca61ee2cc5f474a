-- Requirement §7: best worst, apex, the chosen triangulation, and what is kept of each piece.
use Rattle.std.specs.Prelude.{ℕ, zero, suc, ◌+◌, ◌-◌, Bool, true, false, cond, ◌&&◌, List, map, eqb}
use Rattle.std.proofs.Math.Option.{Option, none, some, get_or}
use Rattle.lists.specs.Lists.{any, those, first, numbers_from}
use Rattle.quality.specs.declared.Quality.{Quality}
use Rattle.quality.specs.Quality.{worst, best, as_good, zero_quality}
use Rattle.rows.specs.RowMeasure.{row_quality}
use Rattle.ring.specs.Ring.{Site, m}
use Rattle.triangulation.specs.Triangulation.{Tri, side, cut, span, ways, new_rows}
use Rattle.triangulation.specs.Admissible.{admissible, piece_admissible, barred}

-- ---- best worst, apex and the chosen triangulation

-- the worst of a triangulation's new rows; a piece has a triangle, so there are rows
unfoldable pub worst_of_way : Site → ℕ → Tri → Quality
worst_of_way site i t = get_or (worst (map (row_quality site.points) (new_rows site i t))) zero_quality

-- the ways of triangulating the ring that keep the mesh rule
unfoldable pub ring_ways : Site → List Tri
ring_ways site = those (admissible site) (ways (m site - 1))

-- the admissible triangulations of piece (i,j)
unfoldable pub piece_ways : Site → ℕ → ℕ → List Tri
piece_ways site i j = those (piece_admissible site i) (ways (j - i))

-- the best worst of piece (i,j); a piece without an admissible triangulation has a mark and no best worst
unfoldable pub best_worst : Site → ℕ → ℕ → Option Quality
best_worst site i j = best (map (worst_of_way site i) (piece_ways site i j))

-- k is the apex of the triangulation's own triangle
abbrev pub has_apex : ℕ → ℕ → Tri → Bool
has_apex i k side = false
has_apex i k (cut l r) = eqb (i + span l) k

-- with k some admissible triangulation of piece (i,j) reaches the given best worst
unfoldable pub reaches : Site → ℕ → ℕ → Option Quality → ℕ → Bool
reaches site i j none k = false
reaches site i j (some q) k = any (λ t. has_apex i k t && as_good (worst_of_way site i t) q) (piece_ways site i j)

-- the apex is the smallest k with which some admissible triangulation of the piece reaches the piece's best worst
unfoldable pub apex : Site → ℕ → ℕ → Option ℕ
apex site i j = first (reaches site i j (best_worst site i j)) (numbers_from (suc i) (j - i - 1))

-- the triangulation of piece (i,j) that follows the apexes, if the depth is j - i or more
unfoldable pub chosen_within : ℕ → Site → ℕ → ℕ → Tri
chosen_within zero site i j = side
chosen_within (suc depth) site i j = elim (apex site i j) [
  | none ↦ side
  | some k ↦ cut (chosen_within depth site i k) (chosen_within depth site k j)
]

-- the chosen triangulation of piece (i,j)
abbrev pub chosen_of : Site → ℕ → ℕ → Tri
chosen_of site i j = chosen_within (j - i) site i j

-- the chosen triangulation of the ring, piece (1,m)
abbrev pub chosen : Site → Tri
chosen site = chosen_of site 1 (m site)

-- ---- what is kept of each piece

-- piece (i,j) is the whole of a chain that a kept row bars; the closing side of any other piece is judged by the larger one
abbrev pub barred_piece : Site → ℕ → ℕ → Bool
barred_piece site i j = barred site && eqb i 1 && eqb j (m site)

-- the best worst of piece (i,j), as the table keeps it: the mark also stands for a chain that is barred
abbrev pub table_best : Site → ℕ → ℕ → Option Quality
table_best site i j = cond (barred_piece site i j) none (best_worst site i j)

-- its apex, in the same way
abbrev pub table_apex : Site → ℕ → ℕ → Option ℕ
table_apex site i j = cond (barred_piece site i j) none (apex site i j)

-- both are marks, or both are qualities and one fraction
unfoldable pub same_best : Option Quality → Option Quality → Bool
same_best none none = true
same_best none (some r) = false
same_best (some q) none = false
same_best (some q) (some r) = as_good q r
