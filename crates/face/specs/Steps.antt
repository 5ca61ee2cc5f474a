-- What only contracts of inner functions and proofs say: what one pass over the rows keeps of a face, and the three rows that are written for it.
use Rattle.std.specs.Prelude.{ℕ, ◌+◌, max, cond, List, [], ◌∷◌, eqb, ltb, length, Option, Some, None}
use Rattle.rows.specs.declared.Row.{Row}
use Rattle.rows.specs.declared.Regions.TheVariants.{One}
use Rattle.rows.specs.Steps.{regions_of, with_region}
use Rattle.face.specs.declared.Sharing.{Sharing}
use Rattle.calls.specs.Flipping.{Pair, pair_of}
use Rattle.rows.specs.Labels.{no_marks}

-- the rows that hold the face: how many, the smaller apex and the other, a's row, and their regions
abbrev pub sharing : Pair → Sharing
sharing pair = record { n = length pair.removed; a = pair.a; b = pair.b; row = pair.row_of_a; regions = regions_of pair.removed }

-- the face in a table of rows, if a row holds it: nothing that is kept turns on where the points are
abbrev pub sharing_in : List Row → List ℕ → Option Sharing
sharing_in rows face =
    let pair = pair_of (record { points = []; rows = rows }) face in
    cond (eqb (length pair.removed) 0) None (Some (sharing pair))

-- one row more, with its apex, behind those so far, if any
unfoldable pub with_row : Option Sharing → Row → ℕ → Sharing
with_row None row apex = record { n = 1; a = apex; b = apex; row = row; regions = One row.region }
with_row (Some found) row apex =
    let n = found.n + 1 in
    let b = max found.b apex in
    let regions = with_region found.regions row.region in
    cond (ltb apex found.a) (record { n = n; a = apex; b = b; row = row; regions = regions })
    (record { n = n; a = found.a; b = b; row = found.row; regions = regions })

-- the three rows of the edge a, b, of a region: (a,b,u,v), (a,b,v,w), (a,b,w,u)
abbrev pub three_of : Sharing → ℕ → ℕ → ℕ → ℕ → List Row
three_of found region u v w =
    record { p = found.a; q = found.b; r = u; s = v; region = region; marks = no_marks }
    ∷ record { p = found.a; q = found.b; r = v; s = w; region = region; marks = no_marks }
    ∷ record { p = found.a; q = found.b; r = w; s = u; region = region; marks = no_marks } ∷ []
