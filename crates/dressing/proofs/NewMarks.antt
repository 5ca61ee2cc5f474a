-- Where both rows at a face agree, a face of a new row is marked exactly when a row that goes marks it, or a kept row marks it the other way
-- round: the three cases of the definition are one look-up.
use Prim.Native.Nat.{ℕ, ◌<◌}
use mathlib.Core.Bool.{Bool, true, false, cond, not, ◌&&◌, ◌||◌}
use mathlib.Core.List.Memᴰ
use mathlib.Core.List.{List, map, Memᴰ}
use mathlib.Core.Logic.{◌⊎◌, inl, inr}
use mathlib.Core.Path.{◌≡◌, refl, sym, ◌∙◌, subst}
use lib.Dec.{T}
use Rattle.lists.specs.Lists.{any, those, has}
use Rattle.lists.proofs.Tests.{and_l, and_r, and_i, or_l, or_r, or_e, yes_is, no_is, is_yes, is_no, same_test}
use Rattle.lists.proofs.Lists.{every_at, any_i, any_e, any_same, those_e, those_i}
use Rattle.lists.proofs.Images.{map_same}
use Rattle.rows.specs.declared.Row.{Row}
use Rattle.rows.proofs.RowsOfTables.{Bytes}
use Rattle.mesh.specs.Mesh.{Face, faces, same_face, uses, reversed}
use Rattle.mesh.proofs.TurnedFaces.{Turned, same_turned, turned_same, turned_sym, turned_trans, turned_reversed}
use Rattle.keys.specs.Steps.{face_key}
use Rattle.keys.proofs.FaceKeys.{Small}
use Rattle.marking.specs.Marking.{marked_faces, marks, agree, dress_by, new_mark, dressed}
use Rattle.marking.specs.Steps.{keys_marked}
use Rattle.marking.proofs.AgreeByKeys.{meets_unmarked, agree_one_sided, keys_marked_lem}

-- rows that pass a test are asked one thing, the others another
any_parted : {A : Type 0} (h p q : A → Bool) (xs : List A)
    → any (λ x. cond (h x) (p x) (q x)) xs ≡ any p (those h xs) || any q (those (λ x. not (h x)) xs)
any_parted h p q xs =
    same_test (any (λ x. cond (h x) (p x) (q x)) xs) (any p (those h xs) || any q (those (λ x. not (h x)) xs))
    (λ e. let (x, m, t) = any_e (λ x. cond (h x) (p x) (q x)) xs e in found x m (h x) refl t)
    (λ e. go (or_e (any p (those h xs)) (any q (those (λ x. not (h x)) xs)) e))
  where
    found : (x : _) → Memᴰ x xs → (b : Bool) → h x ≡ b → T (cond (h x) (p x) (q x)) → T (any p (those h xs) || any q (those (λ x. not (h x)) xs))
    found x m true b t =
        or_l (any p (those h xs)) (any q (those (λ x. not (h x)) xs)) (any_i p (those h xs) (those_i h xs m (is_yes (h x) b)) (rw b at t))
    found x m false b t =
        or_r (any p (those h xs)) (any q (those (λ x. not (h x)) xs))
        (any_i q (those (λ x. not (h x)) xs) (those_i (λ x. not (h x)) xs m (is_no (h x) b)) (rw b at t))

    go : T (any p (those h xs)) ⊎ T (any q (those (λ x. not (h x)) xs)) → T (any (λ x. cond (h x) (p x) (q x)) xs)
    go (inl e) =
        let (x, m, t) = any_e p (those h xs) e in
        let (k, y) = those_e h xs m in
        any_i (λ x. cond (h x) (p x) (q x)) xs k (rw (yes_is (h x) y) t)
    go (inr e) =
        let (x, m, t) = any_e q (those (λ x. not (h x)) xs) e in
        let (k, y) = those_e (λ x. not (h x)) xs m in
        any_i (λ x. cond (h x) (p x) (q x)) xs k (rw (no_is (h x) y) t)

-- ---- marks and uses of a face

pub turned_marks : (f g : Face) (row : Row) → Turned f g → T (marks f row) → T (marks g row)
unfolding marks
turned_marks f g row t h =
    let (e, m, k) = any_e (λ e. same_face f e.0 && e.1) (marked_faces row) h in
    any_i (λ e. same_face g e.0 && e.1) (marked_faces row) m
    (and_i (same_face g e.0) e.1
    (turned_same g e.0 (turned_trans (turned_sym t) (same_turned f e.0 (and_l (same_face f e.0) e.1 k))))
    (and_r (same_face f e.0) e.1 k))

pub marks_uses : (f : Face) (row : Row) → T (marks f row) → T (uses f row)
unfolding marks uses marked_faces faces
marks_uses f row h =
    let (e, m, k) = any_e (λ e. same_face f e.0 && e.1) (marked_faces row) h in
    any_i (same_face f) (faces row) (Memᴰ.map (λ e. e.0) m) (and_l (same_face f e.0) e.1 k)

-- ---- the words

-- where a face of the shell that a kept row marks is marked by the row that used it, the three cases are one look-up
pub one_look_up : (removed kept : List Row) (f : Face)
    → (T (any (uses f) removed) → T (any (marks (reversed f)) kept) → T (any (marks f) removed))
    → new_mark removed kept f ≡ any (marks f) removed || any (marks (reversed f)) kept
unfolding new_mark
one_look_up removed kept f =
    go (any (uses f) removed) (any (uses (reversed f)) kept) (any (marks f) removed) (any (marks (reversed f)) kept)
    (used f removed) (used (reversed f) kept)
  where
    used : (f : Face) (rows : List Row) → T (any (marks f) rows) → T (any (uses f) rows)
    used f rows h = let (row, m, k) = any_e (marks f) rows h in any_i (uses f) rows m (marks_uses f row k)

    go : (a b c d : Bool) → (T c → T a) → (T d → T b) → (T a → T d → T c) → cond a c (cond b d false) ≡ c || d
    go true b true d f g h = refl
    go true b false true f g h = absurd (h tt tt)
    go true b false false f g h = refl
    go false b true d f g h = absurd (f tt)
    go false true false d f g h = refl
    go false false false true f g h = absurd (g tt)
    go false false false false f g h = refl

module _ (goes : Row → Bool) (rows : List Row) (agrees : T (agree rows)) where
  abbrev removed : List Row
  removed = those goes rows

  abbrev kept : List Row
  kept = those (λ row. not (goes row)) rows

  -- the face of the shell is marked by the row that used it wherever a kept row marks it
  shell_marked : (f : Face) → T (any (uses f) removed) → T (any (marks (reversed f)) kept) → T (any (marks f) removed)
  unfolding marks uses marked_faces faces
  shell_marked f u k =
      let (t, m, at) = any_e (uses f) removed u in
      let (inside, gone) = those_e goes rows m in
      let (g, l, same) = any_e (same_face f) (faces t) at in
      let (e, n, is) = Memᴰ.of_map (λ e. e.0) (marked_faces t) l in
      let (other, o, marked) = any_e (marks (reversed f)) kept k in
      let turned : Turned (reversed f) (reversed e.0) = turned_reversed (same_turned f e.0 (rw is same)) in
      let beside = any_i (marks (reversed e.0)) rows (those_e (λ row. not (goes row)) rows o).0
      (turned_marks (reversed f) (reversed e.0) other turned marked) in
      let alone = every_at (λ e. e.1 || not (any (marks (reversed e.0)) rows)) (marked_faces t)
      (every_at (meets_unmarked rows) rows (subst T (agree_one_sided rows) agrees) inside) n in
      any_i (marks f) removed m (any_i (λ e. same_face f e.0 && e.1) (marked_faces t) n
      (and_i (same_face f e.0) e.1 (rw is same) (left e.1 (any (marks (reversed e.0)) rows) alone beside)))
    where
      left : (a b : Bool) → T (a || not b) → T b → T a
      left true b h k = tt
      left false true h k = absurd h
      left false false h k = absurd k

  words_short : (f : Face) → new_mark removed kept f ≡ any (marks f) removed || any (marks (reversed f)) kept
  words_short f = one_look_up removed kept f (shell_marked f)

  -- by the keys that are gathered
  key_found : ((row : Row) → Memᴰ row rows → Bytes row) → (f : Face) → Small f
      → has (keys_marked (λ row. not (goes row)) rows) (face_key f) ≡ new_mark removed kept f
  key_found b f s =
      keys_marked_lem (λ row. not (goes row)) f rows s b
      ∙ any_same (λ row. marks (cond (not (goes row)) (reversed f) f) row) (λ row. cond (goes row) (marks f row) (marks (reversed f) row)) rows
      (λ row m. turn (goes row) row)
      ∙ any_parted goes (marks f) (marks (reversed f)) rows
      ∙ sym (words_short f)
    where
      turn : (c : Bool) (row : Row) → marks (cond (not c) (reversed f) f) row ≡ cond c (marks f row) (marks (reversed f) row)
      turn true row = refl
      turn false row = refl

  -- a row of bytes is dressed by the keys as by the words
  dressed_alike : ((row : Row) → Memᴰ row rows → Bytes row) → (row : Row) → Bytes row
      → dress_by (λ f. has (keys_marked (λ row. not (goes row)) rows) (face_key f)) row ≡ dress_by (new_mark removed kept) row
  unfolding dress_by
  dressed_alike b row own =
      let small : (x y z : ℕ) → x < 256 → y < 256 → z < 256 → Small (x, y, z) = λ x y z a b c. record { small_0 = a; small_1 = b; small_2 = c } in
      rw (
        key_found b (row.q, row.r, row.s) (small _ _ _ own.byte_q own.byte_r own.byte_s),
        key_found b (row.p, row.s, row.r) (small _ _ _ own.byte_p own.byte_s own.byte_r),
        key_found b (row.p, row.q, row.s) (small _ _ _ own.byte_p own.byte_q own.byte_s),
        key_found b (row.p, row.r, row.q) (small _ _ _ own.byte_p own.byte_r own.byte_q),
      )

  -- and so are new rows of bytes
  pub all_dressed_alike : ((row : Row) → Memᴰ row rows → Bytes row) → (keys : List ℕ) → keys ≡ keys_marked (λ row. not (goes row)) rows
      → (new : List Row) → ((row : Row) → Memᴰ row new → Bytes row)
      → map (dress_by (λ f. has keys (face_key f))) new ≡ dressed removed kept new
  all_dressed_alike b keys e new own =
      map_same (dress_by (λ f. has keys (face_key f))) (dress_by (new_mark removed kept)) new (λ row m. rw e (dressed_alike b row (own row m)))
