-- What only contracts of inner functions and proofs say: the keys of marked faces.
use Rattle.std.specs.Prelude.{ℕ, Bool, cond}
use mathlib.Core.List.{List, map, flat_map}
use Rattle.lists.specs.Lists.{those}
use Rattle.rows.specs.declared.Row.{Row}
use Rattle.mesh.specs.Mesh.{Face, reversed}
use Rattle.keys.specs.Steps.{face_key}
use Rattle.marking.specs.Marking.{marked_faces}

-- the key of a face, or of the face turned over
abbrev pub key_of : Bool → Face → ℕ
key_of over f = face_key (cond over (reversed f) f)

-- the keys of the faces that a row marks
unfoldable pub marked_keys : Bool → Row → List ℕ
marked_keys over row = map (λ g. key_of over g.0) (those (λ g. g.1) (marked_faces row))

-- of all rows, each turned over or not
abbrev pub keys_marked : (Row → Bool) → List Row → List ℕ
keys_marked over rows = flat_map (λ row. marked_keys (over row) row) rows
