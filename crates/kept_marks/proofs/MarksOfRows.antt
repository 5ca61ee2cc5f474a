-- The faces that a row marks, as a view with four cases; what turning a face and rearranging a row keep of them. A row whose numbers
-- are different has its four faces apart, so that each of them has its own mark.
use Prim.Native.Nat.{ℕ, suc, ◌<◌}
use mathlib.Core.Bool.{Bool, true, false, not, ◌&&◌, ◌||◌}
use mathlib.Core.List.Memᴰ
use mathlib.Core.List.{List, [], ◌∷◌, Memᴰ}
use mathlib.Core.Path.{◌≡◌, refl, sym, ap, ◌∙◌, subst}
use native.Mathlib.Omega.{arith}
use lib.Dec.{T, ltb, lt→ltb, eqb, eqb→eq}
use lib.ListN.{get_or}
use Rattle.lists.specs.Lists.{every, sum, different}
use Rattle.lists.proofs.Tests.{and_l, and_r, and_i, same_test}
use Rattle.lists.proofs.Lists.{any_i, any_e, each, every_at, every_cons}
use Rattle.rows.specs.declared.Row.{Row}
use Rattle.rows.specs.Rows.{numbers}
use Rattle.rows.specs.Tetrahedra.{rearranged}
use Rattle.rows.proofs.EvenMoves.{spin, cross, even_test}
use Rattle.mesh.specs.Mesh.{Face, faces, same_face, uses, numbers_fit, Proper}
use Rattle.mesh.proofs.TurnedFaces.{Turned, stay, on, back, same_turned, turned_same, turned_sym, turned_trans}
use Rattle.mesh.proofs.TurnedFaces.{FaceOf, no_p, no_q, no_r, no_s, uses_face, face_uses}
use Rattle.mesh.proofs.MeshRuleStated.{fit_proper}
use Rattle.mesh.proofs.OneWay.{face_at, OfFour, of_four, places_turned}
use Rattle.dressing.proofs.NewMarks.{turned_marks}
use Rattle.marking.specs.Marking.{marked_faces, marks}

-- ---- the view

-- The face is the one of the row's four that leaves out p, q, r or s, and it is marked.
pub data MarkOf (f : Face) (row : Row) : Type 0 where
  at_p : Turned f (row.q, row.r, row.s) → T row.marks.qrs → MarkOf f row
  at_q : Turned f (row.p, row.s, row.r) → T row.marks.psr → MarkOf f row
  at_r : Turned f (row.p, row.q, row.s) → T row.marks.pqs → MarkOf f row
  at_s : Turned f (row.p, row.r, row.q) → T row.marks.prq → MarkOf f row

pub marks_e : (f : Face) (row : Row) → T (marks f row) → (g : Face × Bool) × Memᴰ g (marked_faces row) × Turned f g.0 × T g.1
unfolding marks
marks_e f row h =
    let k = any_e (λ g. same_face f g.0 && g.1) (marked_faces row) h in
    let g = k.0 in
    (g, k.1, same_turned f g.0 (and_l (same_face f g.0) g.1 k.2), and_r (same_face f g.0) g.1 k.2)

pub marks_i : (f : Face) (g : Face × Bool) (row : Row) → Memᴰ g (marked_faces row) → Turned f g.0 → T g.1 → T (marks f row)
unfolding marks
marks_i f g row m e h =
    any_i (λ g. same_face f g.0 && g.1) (marked_faces row) m (and_i (same_face f g.0) g.1 (turned_same f g.0 e) h)

-- a face that a row uses is one of its four, turned, and has a mark
pub uses_marked : (f : Face) (row : Row) → T (uses f row) → (g : Face × Bool) × Memᴰ g (marked_faces row) × Turned f g.0
unfolding marked_faces
uses_marked f row u = go (uses_face f row u)
  where
    go : FaceOf f row → (g : Face × Bool) × Memᴰ g (marked_faces row) × Turned f g.0
    go (no_p e) = (_, Memᴰ.head refl, e)
    go (no_q e) = (_, Memᴰ.tail (Memᴰ.head refl), e)
    go (no_r e) = (_, Memᴰ.tail (Memᴰ.tail (Memᴰ.head refl)), e)
    go (no_s e) = (_, Memᴰ.tail (Memᴰ.tail (Memᴰ.tail (Memᴰ.head refl))), e)

-- a row uses its faces
pub marked_uses : (g : Face × Bool) (row : Row) → Memᴰ g (marked_faces row) → T (uses g.0 row)
unfolding marked_faces
marked_uses g row m =
    let used : (f : Face) → FaceOf f row → T (uses f row) = λ f. face_uses f row in
    each (λ g. T (uses g.0 row)) (marked_faces row)
    (used _ (no_p stay), (used _ (no_q stay), (used _ (no_r stay), (used _ (no_s stay), tt)))) g m

pub marks_face : (f : Face) (row : Row) → T (marks f row) → MarkOf f row
unfolding marked_faces
marks_face f row h =
    let k = marks_e f row h in
    each (λ g. Turned f g.0 → T g.1 → MarkOf f row) (marked_faces row) (at_p, (at_q, (at_r, (at_s, tt)))) k.0 k.1 k.2 k.3

pub face_marks : (f : Face) (row : Row) → MarkOf f row → T (marks f row)
unfolding marked_faces
face_marks f row (at_p e h) = marks_i f _ row (Memᴰ.head refl) e h
face_marks f row (at_q e h) = marks_i f _ row (Memᴰ.tail (Memᴰ.head refl)) e h
face_marks f row (at_r e h) = marks_i f _ row (Memᴰ.tail (Memᴰ.tail (Memᴰ.head refl))) e h
face_marks f row (at_s e h) = marks_i f _ row (Memᴰ.tail (Memᴰ.tail (Memᴰ.tail (Memᴰ.head refl)))) e h

-- a row that marks a face marks it turned
pub marks_turned : (f g : Face) (row : Row) → Turned f g → marks f row ≡ marks g row
marks_turned f g row e = same_test (marks f row) (marks g row) (turned_marks f g row e) (turned_marks g f row (turned_sym e))

-- ---- even rearrangements

spin_mark : {f : Face} {t : Row} → MarkOf f t → MarkOf f (spin t)
spin_mark (at_p e h) = at_p (turned_trans e back) h
spin_mark (at_q e h) = at_s e h
spin_mark (at_r e h) = at_q e h
spin_mark (at_s e h) = at_r e h

cross_mark : {f : Face} {t : Row} → MarkOf f t → MarkOf f (cross t)
cross_mark (at_p e h) = at_q e h
cross_mark (at_q e h) = at_p e h
cross_mark (at_r e h) = at_s (turned_trans e back) h
cross_mark (at_s e h) = at_r (turned_trans e on) h

-- an even rearrangement moves each mark with its face
pub even_marks : (t u : Row) → T (rearranged t u) → (f : Face) → marks f t ≡ marks f u
even_marks t u e f =
    even_test (marks f) (λ t h. face_marks f (spin t) (spin_mark (marks_face f t h)))
    (λ t h. face_marks f (cross t) (cross_mark (marks_face f t h))) t u e

-- ---- a row with different numbers

-- the four faces of a row and their marks, by places
unfoldable four_places : List (Face × ℕ)
four_places = ((1, 2, 3), 0) ∷ ((0, 3, 2), 1) ∷ ((0, 1, 3), 2) ∷ ((0, 2, 1), 3) ∷ []

mark_at : Row → ℕ → Bool
mark_at t k = let m = t.marks in get_or (m.qrs ∷ m.psr ∷ m.pqs ∷ m.prq ∷ []) k false

different_proper : (t : Row) → T (different (numbers t)) → Proper (suc (sum (numbers t))) t
unfolding numbers_fit every
different_proper t d =
    let low : ℕ → Bool = λ n. ltb n (suc (sum (numbers t))) in
    let less : (n : ℕ) → n < suc (sum (numbers t)) → T (low n) = λ n h. lt→ltb n (suc (sum (numbers t))) h in
    fit_proper (suc (sum (numbers t))) t
    (and_i (every low (numbers t)) (different (numbers t))
    (every_cons low t.p (t.q ∷ t.r ∷ t.s ∷ []) (less t.p (omega arith))
    (every_cons low t.q (t.r ∷ t.s ∷ []) (less t.q (omega arith))
    (every_cons low t.r (t.s ∷ []) (less t.r (omega arith)) (every_cons low t.s [] (less t.s (omega arith)) tt)))) d)

-- a face of four places has one mark
one_place : (i j : Face × ℕ) → Memᴰ i four_places → Memᴰ j four_places → Turned i.0 j.0 → i.1 ≡ j.1
unfolding four_places every same_face
one_place i j mi mj e =
    let one = every_at (λ j. not (same_face i.0 j.0) || eqb i.1 j.1) four_places
    (every_at (λ i. every (λ j. not (same_face i.0 j.0) || eqb i.1 j.1) four_places) four_places tt mi) mj in
    eqb→eq i.1 j.1 (go (same_face i.0 j.0) (eqb i.1 j.1) (turned_same i.0 j.0 e) one)
  where
    go : (a b : Bool) → T a → T (not a || b) → T b
    go true b h k = k
    go false b h k = absurd h

-- so has a face of a row with different numbers
one_mark : (t : Row) → T (different (numbers t)) → (g h : Face × Bool) → Memᴰ g (marked_faces t) → Memᴰ h (marked_faces t)
    → Turned g.0 h.0 → g.1 ≡ h.1
unfolding marked_faces four_places mark_at faces
one_mark t d g h mg mh e =
    let at : Face × ℕ → Face × Bool = λ i. (face_at t i.0, mark_at t i.1) in
    let (i, mi, isG) = Memᴰ.of_map at four_places mg in
    let (j, mj, isH) = Memᴰ.of_map at four_places mh in
    let four : (i : Face × ℕ) → Memᴰ i four_places → OfFour i.0 = λ i mi. of_four i.0 (Memᴰ.map (λ (i : Face × ℕ). i.0) mi) in
    let turned = places_turned (suc (sum (numbers t))) t (different_proper t d) i.0 j.0 (four i mi) (four j mj)
    (subst (λ x. Turned (face_at t i.0) x.0) (sym isH) (subst (λ x. Turned x.0 h.0) (sym isG) e)) in
    ap (λ x. x.1) (sym isG) ∙ ap (mark_at t) (one_place i j mi mj turned) ∙ ap (λ x. x.1) isH

-- so it marks one of its faces exactly when that has the mark
pub mark_at_lem : (t : Row) → T (different (numbers t)) → (g : Face × Bool) → Memᴰ g (marked_faces t) → marks g.0 t ≡ g.1
mark_at_lem t d g m =
    same_test (marks g.0 t) g.1
    (λ marked. let k = marks_e g.0 t marked in subst T (sym (one_mark t d g k.0 m k.1 k.2)) k.3)
    (λ marked. marks_i g.0 g t m stay marked)
