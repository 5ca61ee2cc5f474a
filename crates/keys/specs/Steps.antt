-- What only contracts of inner functions and proofs say: a directed face as one number, so that two faces are compared by one
-- comparison, and the numbers of the faces of a table in one array.
use Rattle.std.specs.Prelude.{ℕ, ◌+◌, ◌*◌, min, Bool, ◌||◌, eqb}
use mathlib.Core.List.{List, map, flat_map}
use Rattle.rows.specs.declared.Row.{Row}
use Rattle.rows.specs.Steps.{most_rows}
use Rattle.mesh.specs.Mesh.{Face, faces}

-- the faces of a row
abbrev pub row_faces : ℕ
row_faces = 4

-- the faces of a table
abbrev pub most_keys : ℕ
most_keys = row_faces * most_rows

-- three point numbers as one number
abbrev pub three_as_one : ℕ → ℕ → ℕ → ℕ
three_as_one x y z = x * 65536 + y * 256 + z

-- turning a face's three numbers round in a circle gives the same face:
-- of the three turns, the least as one number, so that the smallest is first
unfoldable pub face_key : Face → ℕ
face_key f =
    let x = f.0 in
    let y = f.1 in
    let z = f.2 in
    min (three_as_one x y z) (min (three_as_one y z x) (three_as_one z x y))

-- the keys of a row's four directed faces
abbrev pub row_keys : Row → List ℕ
row_keys row = map face_key (faces row)

-- the keys of the directed faces of a table's rows, in order
abbrev pub table_keys : List Row → List ℕ
table_keys rows = flat_map row_keys rows

-- a key is one of four
unfoldable pub one_of : ℕ → ℕ → ℕ → ℕ → ℕ → Bool
one_of a b c d key = eqb a key || eqb b key || eqb c key || eqb d key
