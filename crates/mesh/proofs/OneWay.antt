-- The faces of a proper row: no two of them are the same, and none is another reversed. They are the row read at the faces of four
-- places, different places hold different numbers, and of four places a computed test says it.
use Prim.Native.Nat.{ℕ, ◌+◌, ◌<◌}
use mathlib.Core.Bool.{not}
use mathlib.Core.List.Memᴰ
use mathlib.Core.List.{List, [], ◌∷◌, Memᴰ}
use mathlib.Core.Path.{◌≡◌, refl, sym, ap, subst}
use native.Mathlib.Omega.{arith}
use lib.Dec.{T, ltb, T_not}
use lib.ListN.{get_or}
use Rattle.lists.specs.Lists.{every, any, those, count, different}
use Rattle.lists.proofs.Tests.{and_l, and_r}
use Rattle.lists.proofs.Lists.{every_at}
use Rattle.lists.proofs.Counts.{ind_either, count_cons}
use Rattle.lists.proofs.Numbers.{different_places}
use Rattle.rows.specs.declared.Row.{Row}
use Rattle.rows.specs.Rows.{numbers}
use Rattle.rows.proofs.EvenGroup.{in_order}
use Rattle.mesh.specs.Mesh.{Face, faces, same_face, reversed, uses_either_way, uses, numbers_fit, Proper}
use Rattle.mesh.proofs.TurnedFaces.{Turned, as_is, once, twice, turned_same, turned_sym, turned_trans, turned_reversed, each_face}
use Rattle.mesh.proofs.TurnedFaces.{uses_e}
use Rattle.mesh.proofs.FacesCounted.{hits}
use Rattle.mesh.proofs.MeshRuleStated.{fit_proper, proper_fits}

-- the face of a row at three places
abbrev pub face_at : Row → Face → Face
face_at row g = (get_or (numbers row) g.0 0, get_or (numbers row) g.1 0, get_or (numbers row) g.2 0)

-- three of four places
abbrev pub OfFour : Face → Type 0
OfFour g = (g.0 < 4) × (g.1 < 4) × (g.2 < 4)

pub of_four : (g : Face) → Memᴰ g (faces in_order) → OfFour g
of_four =
    each_face OfFour in_order (omega arith, omega arith, omega arith) (omega arith, omega arith, omega arith)
    (omega arith, omega arith, omega arith) (omega arith, omega arith, omega arith)

-- the same face of a proper row is the same face of the places
pub places_turned : (count : ℕ) (row : Row) → Proper count row → (g h : Face) → OfFour g → OfFour h
    → Turned (face_at row g) (face_at row h) → Turned g h
unfolding numbers_fit
places_turned count row pr g h v w t = go t
  where
    one : (i j : ℕ) → i < 4 → j < 4 → get_or (numbers row) i 0 ≡ get_or (numbers row) j 0 → i ≡ j
    one i j k l e =
        let fit = and_r (every (λ n. ltb n count) (numbers row)) (different (numbers row)) (proper_fits count row pr) in
        different_places (numbers row) 0 i j fit k l e

    go : Turned (face_at row g) (face_at row h) → Turned g h
    go (as_is a b c) = as_is (one _ _ v.0 w.0 a) (one _ _ v.1 w.1 b) (one _ _ v.2 w.2 c)
    go (once a b c) = once (one _ _ v.0 w.1 a) (one _ _ v.1 w.2 b) (one _ _ v.2 w.0 c)
    go (twice a b c) = twice (one _ _ v.0 w.2 a) (one _ _ v.1 w.0 b) (one _ _ v.2 w.1 c)

-- a proper row uses a face one way only
pub one_way : (count : ℕ) (row : Row) → Proper count row → (f : Face) → T (uses f row) → T (uses (reversed f) row) → ⊥
unfolding faces every any same_face
one_way count row pr f a b =
    let g = uses_e f row a in
    let h = uses_e (reversed f) row b in
    let i = Memᴰ.of_map (face_at row) (faces in_order) g.1 in
    let j = Memᴰ.of_map (face_at row) (faces in_order) h.1 in
    let k = turned_trans (turned_sym (turned_reversed g.2)) h.2 in
    let l : Turned (face_at row (reversed i.0)) (face_at row j.0) =
    subst (λ w. Turned w (face_at row j.0)) (sym (ap reversed i.2)) (subst (Turned (reversed g.0)) (sym j.2) k) in
    let v = of_four i.0 i.1 in
    let m = places_turned count row pr (reversed i.0) j.0 (v.0, v.2, v.1) (of_four j.0 j.1) l in
    let never = every_at (λ h. not (same_face (reversed i.0) h)) (faces in_order)
    (every_at (λ g. every (λ h. not (same_face (reversed g) h)) (faces in_order)) (faces in_order) tt i.1) j.1 in
    T_not (same_face (reversed i.0) j.0) never (turned_same (reversed i.0) j.0 m)

-- the rows that use a face either way are those that use it as it is and those that use it reversed
pub either_way : (points : ℕ) (rows : List Row) → T (every (numbers_fit points) rows) → (f : Face)
    → count (uses_either_way f) rows ≡ hits f rows + hits (reversed f) rows
unfolding every those
either_way points [] h f = refl
either_way points (row ∷ rows) h f =
    let fit = and_l (numbers_fit points row) (every (numbers_fit points) rows) h in
    let rest = either_way points rows (and_r (numbers_fit points row) (every (numbers_fit points) rows) h) f in
    let own = ind_either (uses f row) (uses (reversed f) row) (one_way points row (fit_proper points row fit) f) in
    omega (arith, own, rest, count_cons (uses_either_way f) row rows, count_cons (uses f) row rows, count_cons (uses (reversed f)) row rows)
