-- The key of a face stands for the face: for point numbers that are bytes, two faces have one key exactly when they are the same face.
use Prim.Native.Nat.{ℕ, ◌+◌, ◌*◌, ◌<◌, ◌≤◌, min}
use mathlib.Core.Bool.{not}
use mathlib.Core.List.{List, Memᴰ}
use mathlib.Core.Path.{◌≡◌, refl, sym, ap, ◌∙◌}
use native.Mathlib.Decide.{dec_le}
use native.Mathlib.Omega.{arith}
use lib.Dec.{T, eqb, eqb→eq}
use Rattle.lists.specs.Lists.{every, any, has}
use Rattle.lists.proofs.Tests.{same_test, eq_test}
use Rattle.lists.proofs.Images.{any_map, any_flat_map, every_map}
use Rattle.lists.proofs.Lists.{any_same, every_same}
use Rattle.rows.specs.declared.Row.{Row}
use Rattle.rows.proofs.RowsOfTables.{Bytes}
use Rattle.mesh.specs.Mesh.{Face, faces, same_face, uses}
use Rattle.mesh.proofs.TurnedFaces.{Turned, as_is, once, twice, same_turned, turned_same, turned_sym, turned_trans, turned_equal, each_face}
use Rattle.keys.specs.Steps.{three_as_one, face_key, row_keys, table_keys}

-- The three numbers of a face are bytes.
pub record Small (f : Face) : Type 0 where
  pub small_0 : f.0 < 256
  pub small_1 : f.1 < 256
  pub small_2 : f.2 < 256

abbrev as_one : Face → ℕ
as_one f = three_as_one f.0 f.1 f.2

abbrev turn : Face → Face
turn f = (f.1, f.2, f.0)

first_same : (a b c d k : ℕ) → b < 65536 → d < 65536 → a * 65536 + b ≡ c * 65536 + d → (a ≡ c) × (b ≡ d)
first_same a b c d k h l e = (omega arith, omega arith)

as_one_e : (f g : Face) → Small f → Small g → as_one f ≡ as_one g → Turned f g
as_one_e f g s t e =
    let k = first_same f.0 (f.1 * 256 + f.2) g.0 (g.1 * 256 + g.2) 0 (omega arith) (omega arith) (omega arith) in
    as_is k.0 (omega (arith, k.1)) (omega (arith, k.1))

key_turn : (f : Face) → face_key f ≡ face_key (turn f)
unfolding face_key
key_turn f = omega arith

-- the face of which the key is the number
key_of : (f : Face) → Small f → (g : Face) × Small g × Turned f g × (face_key f ≡ as_one g)
unfolding face_key
key_of f s = go (dec_le (as_one f) (as_one (turn f))) (dec_le (as_one f) (as_one (turn (turn f))))
    (dec_le (as_one (turn f)) (as_one (turn (turn f))))
  where
    go : Dec (as_one f ≤ as_one (turn f)) → Dec (as_one f ≤ as_one (turn (turn f))) → Dec (as_one (turn f) ≤ as_one (turn (turn f)))
        → (g : Face) × Small g × Turned f g × (min (as_one f) (min (as_one (turn f)) (as_one (turn (turn f)))) ≡ as_one g)
    go (yes a) (yes b) c = (f, s, as_is refl refl refl, omega arith)
    go (yes a) (no b) c =
        (turn (turn f), record { small_0 = s.small_2; small_1 = s.small_0; small_2 = s.small_1 }, once refl refl refl, omega arith)
    go (no a) b (yes c) =
        (turn f, record { small_0 = s.small_1; small_1 = s.small_2; small_2 = s.small_0 }, twice refl refl refl, omega arith)
    go (no a) b (no c) =
        (turn (turn f), record { small_0 = s.small_2; small_1 = s.small_0; small_2 = s.small_1 }, once refl refl refl, omega arith)

pub key_same : (f g : Face) → Small f → Small g → face_key f ≡ face_key g → T (same_face f g)
key_same f g s t e =
    let a = key_of f s in
    let b = key_of g t in
    turned_same f g (turned_trans a.2 (turned_trans (as_one_e a.0 b.0 a.1 b.1 (sym a.3 ∙ e ∙ b.3)) (turned_sym b.2)))

pub same_key : (f g : Face) → T (same_face f g) → face_key f ≡ face_key g
same_key f g h = turned_equal (λ x y z. face_key (x, y, z)) (λ x y z. key_turn (x, y, z)) f g (same_turned f g h)

-- two faces compared by their keys
pub key_test : (f g : Face) → Small f → Small g → eqb (face_key f) (face_key g) ≡ same_face f g
key_test f g s t =
    same_test (eqb (face_key f) (face_key g)) (same_face f g) (λ h. key_same f g s t (eqb→eq (face_key f) (face_key g) h))
    (λ h. eq_test (face_key f) (face_key g) (same_key f g h))

small : {x y z : ℕ} → x < 256 → y < 256 → z < 256 → Small (x, y, z)
small a b c = record { small_0 = a; small_1 = b; small_2 = c }

pub faces_small : (row : Row) → Bytes row → (f : Face) → Memᴰ f (faces row) → Small f
faces_small row b =
    each_face Small row (small b.byte_q b.byte_r b.byte_s) (small b.byte_p b.byte_s b.byte_r)
    (small b.byte_p b.byte_q b.byte_s) (small b.byte_p b.byte_r b.byte_q)

-- a face is used by a row exactly when its key is one of the row's
key_in_row : (f : Face) (row : Row) → Small f → Bytes row → has (row_keys row) (face_key f) ≡ uses f row
unfolding uses
key_in_row f row s b =
    any_map (eqb (face_key f)) face_key (faces row)
    ∙ any_same (λ g. eqb (face_key f) (face_key g)) (same_face f) (faces row) (λ g m. key_test f g s (faces_small row b g m))

-- and by a row of a table exactly when its key is one of the table's
key_in_table : (f : Face) (rows : List Row) → Small f → ((row : Row) → Memᴰ row rows → Bytes row)
    → has (table_keys rows) (face_key f) ≡ any (uses f) rows
key_in_table f rows s b =
    any_flat_map (eqb (face_key f)) row_keys rows
    ∙ any_same (λ row. has (row_keys row) (face_key f)) (uses f) rows (λ row m. key_in_row f row s (b row m))

-- a row has no face in common with the rows of a table exactly when it has no key in common with them
pub keys_apart : (row : Row) (rows : List Row) → Bytes row → ((row : Row) → Memᴰ row rows → Bytes row)
    → every (λ k. not (has (table_keys rows) k)) (row_keys row) ≡ every (λ f. not (any (uses f) rows)) (faces row)
keys_apart row rows b bs =
    every_map (λ k. not (has (table_keys rows) k)) face_key (faces row)
    ∙ every_same (λ f. not (has (table_keys rows) (face_key f))) (λ f. not (any (uses f) rows)) (faces row)
    (λ f m. ap not (key_in_table f rows (faces_small row b f m) bs))
