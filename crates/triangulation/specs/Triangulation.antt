-- Requirement §7: triangulations, their triangles and diagonals, and the new rows.
use Rattle.std.specs.Prelude.{ℕ, zero, suc, ◌+◌, ◌-◌, ◌*◌, cond, leb, length, get_or}
use mathlib.Core.List.{List, [], ◌∷◌, ◌++◌, map, flat_map}
use Rattle.lists.specs.Lists.{numbers_from}
use Rattle.rows.specs.declared.Row.{Row}
use Rattle.rows.specs.Regions.{region_of}
use Rattle.ring.specs.Ring.{Site, m}
use Rattle.rows.specs.Labels.{no_marks}

-- ---- triangulations

-- A triangulation of piece (i,j): nothing, if j = i + 1; otherwise its triangle (i,k,j) cuts it into (i,k) and (k,j).
pub data Tri : Type 0 where
  side : Tri
  cut : Tri → Tri → Tri

-- j - i
unfoldable pub span : Tri → ℕ
span side = 1
span (cut l r) = span l + span r

-- A triangle (i < k < j), by places on the ring.
abbrev pub Triangle : Type 0
Triangle = ℕ × ℕ × ℕ

-- the triangle of the whole piece, then those of the piece (i,k), then those of (k,j), each in the same way
unfoldable pub triangles : ℕ → Tri → List Triangle
triangles i side = []
triangles i (cut l r) = let k = i + span l in (i, k, k + span r) ∷ triangles i l ++ triangles k r

-- the closing sides of the whole piece, of (i,k), of (k,j) and so on; two neighbouring points make no piece
unfoldable pub closing_sides : ℕ → Tri → List (ℕ × ℕ)
closing_sides i side = []
closing_sides i (cut l r) = let k = i + span l in (i, k + span r) ∷ closing_sides i l ++ closing_sides k r

-- the diagonals inside the piece: the closing sides of its smaller pieces, its own being judged by the larger piece
unfoldable pub diagonals : ℕ → Tri → List (ℕ × ℕ)
diagonals i side = []
diagonals i (cut l r) = closing_sides i l ++ closing_sides (i + span l) r

-- all triangulations of span n, if the depth is n or more
unfoldable pub ways_within : ℕ → ℕ → List Tri
ways_within zero n = []
ways_within (suc depth) n =
    let cut_at : ℕ → List Tri = λ k. flat_map (λ l. map (cut l) (ways_within depth (n - k))) (ways_within depth k) in
    let cuts = flat_map cut_at (numbers_from 1 (n - 1)) in
    cond (leb n 1) (side ∷ []) cuts

-- all triangulations of a piece (i,j), by j - i
abbrev pub ways : ℕ → List Tri
ways n = ways_within n n

-- ---- the new rows

-- the ring's point vi, counted from v1
abbrev pub v : Site → ℕ → ℕ
v site zero = 0
v site (suc i) = get_or site.ring i 0

-- each triangle gives two rows, (a,vi,vk,vj) and (vi,vk,vj,b), with the region of all the removed rows
unfoldable pub two_rows : Site → Triangle → List Row
two_rows site t =
    let vi = v site t.0 in
    let vk = v site t.1 in
    let vj = v site t.2 in
    let region = region_of site.removed in
    record { p = site.a; q = vi; r = vk; s = vj; region = region; marks = no_marks }
    ∷ record { p = vi; q = vk; r = vj; s = site.b; region = region; marks = no_marks } ∷ []

-- the new rows of a triangulation of a piece from vi on, in written order
unfoldable pub new_rows : Site → ℕ → Tri → List Row
new_rows site i t = flat_map (two_rows site) (triangles i t)

-- the whole table afterwards: the kept rows in order, then the new rows
unfoldable pub table_after : Site → Tri → List Row
table_after site t = site.kept ++ new_rows site 1 t

-- the rows afterwards: the kept ones, and two for each of the m - 2 triangles
abbrev pub rows_after : Site → ℕ
rows_after site = length site.kept + 2 * (m site - 2)
