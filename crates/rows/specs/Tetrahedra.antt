-- Even rearrangements of a row, each mark with its face, and when two tables have the same tetrahedra.
use Rattle.std.specs.Prelude.{ℕ, Bool, ◌&&◌, List, [], ◌∷◌, ◌≡◌, eqb}
use Rattle.lists.specs.Lists.{any, count, first_or}
use Rattle.rows.specs.declared.Row.{Row}
use Rattle.rows.specs.Labels.{same_marks}
use Rattle.rows.specs.Rows.{no_row}

-- A corner of a row: a point number, and the mark of the face opposite to it.
abbrev pub Corner : Type 0
Corner = ℕ × Bool

-- the row of a region and four corners
abbrev pub of_corners : ℕ → Corner → Corner → Corner → Corner → Row
of_corners region p q r s = record {
  p = p.0;
  q = q.0;
  r = r.0;
  s = s.0;
  region = region;
  marks = record { qrs = p.1; psr = q.1; pqs = r.1; prq = s.1 };
}

-- the twelve even rearrangements of a row
unfoldable pub evenly : Row → List Row
evenly row =
    let p : Corner = (row.p, row.marks.qrs) in
    let q : Corner = (row.q, row.marks.psr) in
    let r : Corner = (row.r, row.marks.pqs) in
    let s : Corner = (row.s, row.marks.prq) in
    let arranged : Corner → Corner → Corner → Corner → Row = of_corners row.region in
    arranged p q r s ∷ arranged p r s q ∷ arranged p s q r
    ∷ arranged q p s r ∷ arranged q r p s ∷ arranged q s r p
    ∷ arranged r p q s ∷ arranged r q s p ∷ arranged r s p q
    ∷ arranged s p r q ∷ arranged s q p r ∷ arranged s r q p ∷ []

-- the even rearrangement of a row that begins with x, y
unfoldable pub arranged_from : ℕ → ℕ → Row → Row
arranged_from x y row = first_or no_row (λ t. eqb t.p x && eqb t.q y) (evenly row)

-- the same numbers, region and marks
abbrev pub same_row : Row → Row → Bool
same_row t u =
    eqb t.p u.p && eqb t.q u.q && eqb t.r u.r && eqb t.s u.s && eqb t.region u.region
    && same_marks t.marks u.marks

-- t is u, evenly rearranged
unfoldable pub rearranged : Row → Row → Bool
rearranged t u = any (same_row t) (evenly u)

-- the same tetrahedra, up to even rearrangement and row order: each row stands as often in one table as in the other
abbrev pub SameTetrahedra : List Row → List Row → Type 0
SameTetrahedra rows others = (row : Row) → count (rearranged row) rows ≡ count (rearranged row) others
