-- What the keys of marked faces say: a key stands among them exactly when a row marks the face; and both rows at a face agree exactly when no
-- face that is unmarked has its key, turned over, among them.
use Prim.Native.Nat.{ℕ}
use mathlib.Core.Bool.{Bool, true, false, cond, not, ◌&&◌, ◌||◌, beq}
use mathlib.Core.List.Memᴰ
use mathlib.Core.List.{List, [], ◌∷◌, flat_map, Memᴰ}
use mathlib.Core.Logic.{◌⊎◌, inl, inr}
use mathlib.Core.Path.{◌≡◌, refl, sym, ap, ◌∙◌}
use lib.Dec.{T, eqb}
use Rattle.lists.specs.Lists.{every, any, those, has}
use Rattle.lists.proofs.Tests.{and_l, and_r, and_i, or_r, yes_is, is_yes, is_no, either, same_test}
use Rattle.lists.proofs.Lists.{every_at, every_i, every_same, any_i, any_e, any_same, not_any, each}
use Rattle.lists.proofs.Images.{flat_map_i, flat_map_e, any_map, any_flat_map}
use Rattle.rows.specs.declared.Marks.{Marks}
use Rattle.rows.specs.declared.Row.{Row}
use Rattle.rows.specs.Labels.{no_marks}
use Rattle.rows.proofs.RowsOfTables.{Bytes}
use Rattle.mesh.specs.Mesh.{Face, faces, same_face, reversed}
use Rattle.mesh.proofs.TurnedFaces.{same_turned, turned_same, turned_sym, turned_reversed}
use Rattle.keys.specs.Steps.{face_key}
use Rattle.keys.proofs.FaceKeys.{Small, key_test, faces_small}
use Rattle.marking.specs.Marking.{marked_faces, marks, agree}
use Rattle.marking.specs.Steps.{key_of, marked_keys, keys_marked}

-- ---- keys

any_those : {A : Type 0} (p q : A → Bool) (xs : List A) → any p (those q xs) ≡ any (λ x. p x && q x) xs
unfolding any those
any_those p q [] = refl
any_those {A} p q (x ∷ xs) = go (q x) (any_those p q xs)
  where
    go : (b : Bool) → any p (those q xs) ≡ any (λ x. p x && q x) xs
        → any p (cond b (x ∷ those q xs) (those q xs)) ≡ (p x && b) || any (λ x. p x && q x) xs
    go true e = first (p x) e
      where
        first : (a : Bool) → any p (those q xs) ≡ any (λ x. p x && q x) xs → a || any p (those q xs) ≡ (a && true) || any (λ x. p x && q x) xs
        first true e = refl
        first false e = e
    go false e = second (p x) e
      where
        second : (a : Bool) → any p (those q xs) ≡ any (λ x. p x && q x) xs → any p (those q xs) ≡ (a && false) || any (λ x. p x && q x) xs
        second true e = e
        second false e = e

pub small_reversed : (f : Face) → Small f → Small (reversed f)
small_reversed f s = record { small_0 = s.small_0; small_1 = s.small_2; small_2 = s.small_1 }

-- the faces with their marks are the row's faces
pub marked_small : (row : Row) → Bytes row → (g : Face × Bool) → Memᴰ g (marked_faces row) → Small g.0
unfolding marked_faces faces
marked_small row b g m = faces_small row b g.0 (Memᴰ.map (λ g. g.0) m)

-- a face compared with another by its key, or with the other turned over
key_over : (over : Bool) (f g : Face) → Small f → Small g → eqb (face_key f) (key_of over g) ≡ same_face (cond over (reversed f) f) g
key_over false f g s t = key_test f g s t
key_over true f g s t =
    key_test f (reversed g) s (small_reversed g t)
    ∙ same_test (same_face f (reversed g)) (same_face (reversed f) g)
    (λ h. turned_same (reversed f) g (turned_reversed (same_turned f (reversed g) h)))
    (λ h. turned_same f (reversed g) (turned_reversed (same_turned (reversed f) g h)))

-- a key is one of those of the marked faces of a row exactly when the row marks the face, or the face turned over
key_marked : (over : Bool) (f : Face) (row : Row) → Small f → Bytes row
    → has (marked_keys over row) (face_key f) ≡ marks (cond over (reversed f) f) row
unfolding marked_keys marks
key_marked over f row s b =
    any_map (eqb (face_key f)) (λ g. key_of over g.0) (those (λ g. g.1) (marked_faces row))
    ∙ any_those (λ g. eqb (face_key f) (key_of over g.0)) (λ g. g.1) (marked_faces row)
    ∙ any_same (λ g. eqb (face_key f) (key_of over g.0) && g.1) (λ g. same_face (cond over (reversed f) f) g.0 && g.1) (marked_faces row)
    (λ g m. ap (λ b. b && g.1) (key_over over f g.0 s (marked_small row b g m)))

-- and one of those of a table exactly when some row does
pub keys_marked_lem : (over : Row → Bool) (f : Face) (rows : List Row) → Small f → ((row : Row) → Memᴰ row rows → Bytes row)
    → has (keys_marked over rows) (face_key f) ≡ any (λ row. marks (cond (over row) (reversed f) f) row) rows
keys_marked_lem over f rows s b =
    any_flat_map (eqb (face_key f)) (λ row. marked_keys (over row) row) rows
    ∙ any_same (λ row. has (marked_keys (over row) row) (face_key f)) (λ row. marks (cond (over row) (reversed f) f) row) rows
    (λ row m. key_marked (over row) f row s (b row m))

-- ---- agreement

-- each face of a row is marked, or no row marks it the other way round
abbrev pub meets_unmarked : List Row → Row → Bool
meets_unmarked rows row = every (λ g. g.1 || not (any (marks (reversed g.0)) rows)) (marked_faces row)

-- a face that is the same the other way round
other_way : (f g : Face) → T (same_face (reversed f) g) → T (same_face (reversed g) f)
other_way f g h = turned_same (reversed g) f (turned_sym (turned_reversed (same_turned (reversed f) g h)))

module _ (rows : List Row) where
  abbrev all : List (Face × Bool)
  all = flat_map marked_faces rows

  abbrev meet : Face × Bool → Face × Bool → Bool
  meet g h = beq g.1 h.1 || not (same_face (reversed g.0) h.0)

  marked_by : (f : Face) → T (any (marks f) rows) → (g : Face × Bool) × Memᴰ g all × T (same_face f g.0) × (g.1 ≡ true)
  unfolding marks
  marked_by f h =
      let (row, m, k) = any_e (marks f) rows h in
      let (g, l, e) = any_e (λ g. same_face f g.0 && g.1) (marked_faces row) k in
      (g, flat_map_i marked_faces rows m l, and_l (same_face f g.0) g.1 e, yes_is g.1 (and_r (same_face f g.0) g.1 e))

  marks_it : (f : Face) (g : Face × Bool) → Memᴰ g all → T (same_face f g.0) → g.1 ≡ true → T (any (marks f) rows)
  unfolding marks
  marks_it f g m s e =
      let (row, k, l) = flat_map_e marked_faces rows m in
      any_i (marks f) rows k (any_i (λ g. same_face f g.0 && g.1) (marked_faces row) l (and_i (same_face f g.0) g.1 s (is_yes g.1 e)))

  -- a face that is not marked is marked by no row the other way round
  unmarked_alone : T (every (λ g. every (meet g) all) all) → (g : Face × Bool) → Memᴰ g all
      → (b : Bool) → g.1 ≡ b → T (g.1 || not (any (marks (reversed g.0)) rows))
  unmarked_alone h g k true e = rw e tt
  unmarked_alone h g k false e = rw e (go (either (any (marks (reversed g.0)) rows)))
    where
      go : T (any (marks (reversed g.0)) rows) ⊎ T (not (any (marks (reversed g.0)) rows)) → T (not (any (marks (reversed g.0)) rows))
      go (inl x) =
          let (u, l, s, t) = marked_by (reversed g.0) x in
          absurd (rw (e, t, yes_is (same_face (reversed g.0) u.0) s) at (every_at (meet g) all (every_at (λ g. every (meet g) all) all h k) l))
      go (inr x) = x

  alone_at : T (every (meets_unmarked rows) rows) → (g : Face × Bool) → Memᴰ g all → T (g.1 || not (any (marks (reversed g.0)) rows))
  alone_at h g m =
      let (row, k, l) = flat_map_e marked_faces rows m in
      every_at (λ g. g.1 || not (any (marks (reversed g.0)) rows)) (marked_faces row) (every_at (meets_unmarked rows) rows h k) l

  both_meet : T (every (meets_unmarked rows) rows) → (g : Face × Bool) → Memᴰ g all → (e : Face × Bool) → Memᴰ e all
      → (a b : Bool) → g.1 ≡ a → e.1 ≡ b → (s : Bool) → same_face (reversed g.0) e.0 ≡ s → T (meet g e)
  both_meet h g k e l a b p q false x =
      or_r (beq g.1 e.1) (not (same_face (reversed g.0) e.0)) (is_no (same_face (reversed g.0) e.0) x)
  both_meet h g k e l true true p q true x = rw (p, q) tt
  both_meet h g k e l false false p q true x = rw (p, q) tt
  both_meet h g k e l false true p q true x =
      absurd (rw (p, yes_is (any (marks (reversed g.0)) rows) (marks_it (reversed g.0) e l (is_yes _ x) q)) at (alone_at h g k))
  both_meet h g k e l true false p q true x =
      absurd (rw (q, yes_is (any (marks (reversed e.0)) rows) (marks_it (reversed e.0) g k (other_way g.0 e.0 (is_yes _ x)) p)) at (alone_at h e l))

  -- both rows at a face agree where no face that one of them leaves unmarked is marked by the other
  pub agree_one_sided : agree rows ≡ every (meets_unmarked rows) rows
  unfolding agree
  agree_one_sided =
      same_test (every (λ g. every (meet g) all) all) (every (meets_unmarked rows) rows)
      (λ h. every_i (meets_unmarked rows) rows λ row m. every_i (λ g. g.1 || not (any (marks (reversed g.0)) rows)) (marked_faces row)
      λ g k. unmarked_alone h g (flat_map_i marked_faces rows m k) g.1 refl)
      (λ h. every_i (λ g. every (meet g) all) all λ g k. every_i (meet g) all λ e l.
      both_meet h g k e l g.1 e.1 refl refl (same_face (reversed g.0) e.0) refl)

-- each face of a row is marked, or turned over not among some keys
abbrev pub row_test : List ℕ → Row → Bool
row_test keys row = every (λ g. g.1 || not (has keys (face_key (reversed g.0)))) (marked_faces row)

-- by the keys of all marked faces
pub agree_by_keys : (rows : List Row) → ((row : Row) → Memᴰ row rows → Bytes row)
    → agree rows ≡ every (row_test (keys_marked (λ row. false) rows)) rows
agree_by_keys rows b =
    agree_one_sided rows
    ∙ every_same (meets_unmarked rows) (row_test (keys_marked (λ row. false) rows)) rows (λ row m. every_same
    (λ g. g.1 || not (any (marks (reversed g.0)) rows))
    (λ g. g.1 || not (has (keys_marked (λ row. false) rows) (face_key (reversed g.0))))
    (marked_faces row) (λ g k.
    ap (λ x. g.1 || not x)
    (sym (keys_marked_lem (λ row. false) (reversed g.0) rows (small_reversed g.0 (marked_small row (b row m) g k)) b))))

-- ---- no marks

-- a row without marks marks no face, whichever is asked for
pub unmarked_none : (row : Row) → row.marks ≡ no_marks → (p : Face → Bool) → T (not (any (λ g. p g.0 && g.1) (marked_faces row)))
unfolding marked_faces
unmarked_none row e p =
    not_any (λ g. p g.0 && g.1) (marked_faces row)
    (every_i (λ g. not (p g.0 && g.1)) (marked_faces row) (λ g m. is_no _ (and_no (p g.0) g.1 (unmarked g m))))
  where
    unmarked : (g : Face × Bool) → Memᴰ g (marked_faces row) → g.1 ≡ false
    unmarked =
        each (λ g. g.1 ≡ false) (marked_faces row)
        (ap (λ (m : Marks). m.qrs) e, (ap (λ (m : Marks). m.psr) e, (ap (λ (m : Marks). m.pqs) e, (ap (λ (m : Marks). m.prq) e, tt))))

    and_no : (a b : Bool) → b ≡ false → a && b ≡ false
    and_no true b e = e
    and_no false b e = refl

-- where no row is marked all agree
pub unmarked_agree : (rows : List Row) → ((row : Row) → Memᴰ row rows → row.marks ≡ no_marks) → agree rows ≡ true
unfolding marks
unmarked_agree rows none =
    agree_one_sided rows
    ∙ yes_is _ (every_i (meets_unmarked rows) rows λ row m. every_i (λ g. g.1 || not (any (marks (reversed g.0)) rows)) (marked_faces row)
    λ g k. or_r g.1 (not (any (marks (reversed g.0)) rows)) (not_any (marks (reversed g.0)) rows
    (every_i (λ row. not (marks (reversed g.0) row)) rows λ row m. unmarked_none row (none row m) (same_face (reversed g.0)))))
