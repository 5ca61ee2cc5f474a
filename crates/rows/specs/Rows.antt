-- Requirement §2 and §3: the rows of a table in bytes, and the numbers that a row holds.
use Rattle.std.specs.Prelude.{ℕ, ◌+◌, ◌*◌, Bool, ◌&&◌, length, get_or, take, drop}
use mathlib.Core.List.{List, [], ◌∷◌, ◌++◌, map, flat_map}
use Rattle.lists.specs.Lists.{every, has, numbers_from}
use Rattle.rows.specs.declared.Labels.{Labels}
use Rattle.rows.specs.declared.Row.{Row}
use Rattle.rows.specs.Labels.{no_marks, labels_of, label_byte}

-- ---- the rows of a block; a table is the rows of a block, and is handed on as the block it stands in

-- byte 0: version
abbrev pub version : List ℕ → ℕ
version table = get_or table 0 0

-- the rows start at byte 208
abbrev pub rows_at : ℕ
rows_at = 208

-- rows of 5 bytes
abbrev pub row_size : ℕ
row_size = 5

-- row i of some bytes: four point numbers, then the byte of region and marks
unfoldable pub stored_row : ℕ → List ℕ → ℕ → Row
stored_row version bytes i =
    let byte : ℕ → ℕ = λ j. get_or bytes (row_size * i + j) 0 in
    let labels = labels_of version (byte 4) in
    record { p = byte 0; q = byte 1; r = byte 2; s = byte 3; region = labels.region; marks = labels.marks }

-- row i of a table
unfoldable pub row_in : List ℕ → ℕ → Row
row_in table i = stored_row (version table) (drop rows_at table) i

-- the first n rows of a table
unfoldable pub rows_in : List ℕ → ℕ → List Row
rows_in table n = map (row_in table) (numbers_from 0 n)

-- the region and the marks of a row
abbrev pub labels : Row → Labels
labels row = record { region = row.region; marks = row.marks }

-- four point numbers, then the byte of region and marks
abbrev pub row_bytes : ℕ → Row → List ℕ
row_bytes version row = row.p ∷ row.q ∷ row.r ∷ row.s ∷ label_byte version (labels row) ∷ []

-- the bytes are written from a place on; every other byte stays
abbrev pub pasted : List ℕ → ℕ → List ℕ → List ℕ
pasted table at bytes = take at table ++ bytes ++ drop (at + length bytes) table

-- rows are written from row number at on; every other byte stays
abbrev pub with_rows : List ℕ → ℕ → List Row → List ℕ
with_rows table at rows = pasted table (rows_at + row_size * at) (flat_map (row_bytes (version table)) rows)

-- ---- the numbers of a row

-- the four point numbers of a row
abbrev pub numbers : Row → List ℕ
numbers row = row.p ∷ row.q ∷ row.r ∷ row.s ∷ []

-- the row holds point n
abbrev pub holds : Row → ℕ → Bool
holds row n = has (numbers row) n

-- the row holds both ends of an edge
abbrev pub holds_edge : ℕ → ℕ → Row → Bool
holds_edge a b row = holds row a && holds row b

-- the row holds all numbers of a face
abbrev pub holds_face : List ℕ → Row → Bool
holds_face face row = every (holds row) face

-- what stands where a list has no row
abbrev pub no_row : Row
no_row = record { p = 0; q = 0; r = 0; s = 0; region = 0; marks = no_marks }
