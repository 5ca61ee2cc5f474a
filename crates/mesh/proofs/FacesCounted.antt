-- The faces of a table, counted: no directed face stands in two rows exactly when, for every face, at most one row uses it.
-- Counting is additive, so the order of the rows does not matter.
use Prim.Native.Nat.{ℕ, ◌+◌, ◌≤◌}
use mathlib.Core.Bool.{Bool, true, false, not, ◌&&◌}
use mathlib.Core.List.{List, [], ◌∷◌, ◌++◌, Memᴰ}
use mathlib.Core.Path.{◌≡◌, ◌∙◌}
use native.Mathlib.Omega.{arith}
use lib.Dec.{T}
use Rattle.lists.specs.Lists.{every, any, those, count}
use Rattle.lists.proofs.Tests.{and_l, and_r, and_i, same_test}
use Rattle.lists.proofs.Lists.{every_at, every_i}
use Rattle.lists.proofs.Counts.{ind, ind_yes, count_cons, count_append, count_same, count_none, none_counted}
use Rattle.rows.specs.declared.Row.{Row}
use Rattle.mesh.specs.Mesh.{Face, faces, uses, faces_apart}
use Rattle.mesh.proofs.TurnedFaces.{Turned, stay, FaceOf, uses_e, uses_i, face_uses, uses_turned}

-- the number of rows that use a directed face
abbrev pub hits : Face → List Row → ℕ
hits f rows = count (uses f) rows

pub hits_cons : (f : Face) (row : Row) (rows : List Row) → hits f (row ∷ rows) ≡ ind (uses f row) + hits f rows
hits_cons f row rows = count_cons (uses f) row rows

hits_append : (f : Face) (xs ys : List Row) → hits f (xs ++ ys) ≡ hits f xs + hits f ys
hits_append f xs ys = count_append (uses f) xs ys

pub hits_turned : (f g : Face) (rows : List Row) → Turned f g → hits f rows ≡ hits g rows
hits_turned f g rows e = count_same (uses f) (uses g) rows (λ row m. uses_turned f g row e)

-- a row whose face it is, is one that uses it
pub face_hit : (f : Face) (row : Row) → FaceOf f row → ind (uses f row) ≡ 1
face_hit f row h = ind_yes (uses f row) (face_uses f row h)

pub apart_hits : (rows : List Row) → T (faces_apart rows) → (f : Face) → hits f rows ≤ 1
unfolding faces_apart those
apart_hits [] h f = omega arith
apart_hits (row ∷ rows) h f =
    rw (hits_cons f row rows) (go (uses f row) none (apart_hits rows (and_r (every away (faces row)) (faces_apart rows) h) f))
  where
    away : Face → Bool
    away f = not (any (uses f) rows)

    none : T (uses f row) → hits f rows ≡ 0
    none u =
        let k = uses_e f row u in
        let n = every_at away (faces row) (and_l (every away (faces row)) (faces_apart rows) h) k.1 in
        hits_turned f k.0 rows k.2 ∙ count_none (uses k.0) rows n

    go : (b : Bool) → (T b → hits f rows ≡ 0) → hits f rows ≤ 1 → ind b + hits f rows ≤ 1
    go true e l = omega (arith, e tt)
    go false e l = omega arith

pub hits_apart : (rows : List Row) → ((f : Face) → hits f rows ≤ 1) → T (faces_apart rows)
unfolding faces_apart
hits_apart [] h = tt
hits_apart (row ∷ rows) h =
    and_i (every (λ f. not (any (uses f) rows)) (faces row)) (faces_apart rows)
    (every_i (λ f. not (any (uses f) rows)) (faces row) away)
    (hits_apart rows (λ f. omega (arith, h f, hits_cons f row rows)))
  where
    away : (f : Face) → Memᴰ f (faces row) → T (not (any (uses f) rows))
    away f m = none_counted (uses f) rows (omega (arith, h f, hits_cons f row rows, ind_yes (uses f row) (uses_i f f row m stay)))

-- tables whose faces are counted alike
pub apart_same : (xs ys : List Row) → ((f : Face) → hits f xs ≡ hits f ys) → faces_apart xs ≡ faces_apart ys
apart_same xs ys e =
    same_test (faces_apart xs) (faces_apart ys) (λ h. hits_apart ys (λ f. omega (arith, e f, apart_hits xs h f)))
    (λ h. hits_apart xs (λ f. omega (arith, e f, apart_hits ys h f)))

apart_swap : (xs ys : List Row) → faces_apart (xs ++ ys) ≡ faces_apart (ys ++ xs)
apart_swap xs ys = apart_same (xs ++ ys) (ys ++ xs) (λ f. omega (arith, hits_append f xs ys, hits_append f ys xs))

pub apart_front : (xs ys : List Row) → T (faces_apart (xs ++ ys)) → T (faces_apart xs)
apart_front xs ys h = hits_apart xs (λ f. omega (arith, hits_append f xs ys, apart_hits (xs ++ ys) h f))

-- one row more at the end
pub apart_more : (rows : List Row) (row : Row)
    → faces_apart (rows ++ row ∷ []) ≡ every (λ f. not (any (uses f) rows)) (faces row) && faces_apart rows
unfolding faces_apart
apart_more rows row = apart_swap rows (row ∷ [])
