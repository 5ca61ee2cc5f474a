-- Dressed rows. A marking is a test of faces that turning a face does not change; a row dressed by it uses the same faces and marks
-- those of them that the marking marks. Its numbers, region and measure, and with them the mesh rule and the totals, do not change.
use Prim.Native.Nat.{ℕ, ◌+◌}
use mathlib.Core.Bool.{Bool, true, false, ◌&&◌}
use mathlib.Core.List.Memᴰ
use mathlib.Core.List.{List, [], ◌∷◌, ◌++◌, map}
use mathlib.Core.Path.{◌≡◌, refl, sym, ap, ◌∙◌}
use lib.Dec.{T}
use lib.IntN.{◌+ℤ◌}
use Rattle.lists.specs.Lists.{every, count, those}
use Rattle.lists.proofs.Tests.{and_l, and_r, and_i, same_test}
use Rattle.lists.proofs.Lists.{every_append}
use Rattle.lists.proofs.Images.{every_map}
use Rattle.lists.proofs.Counts.{ind, count_cons, count_append}
use Rattle.volume.specs.declared.Point.{Point}
use Rattle.rows.specs.declared.Row.{Row}
use Rattle.rows.specs.Rows.{numbers, holds}
use Rattle.rows.specs.RowMeasure.{row_d, row_quality, total_d}
use Rattle.rows.specs.Tetrahedra.{evenly, rearranged}
use Rattle.rows.proofs.EvenMoves.{spin, cross, moved, even_i}
use Rattle.rows.proofs.EvenGroup.{even_refl, even_trans}
use Rattle.rows.proofs.EvenMeasure.{total_append}
use Rattle.rows.proofs.RegionsOfRows.{AllIn}
use Rattle.mesh.specs.Mesh.{Face, faces, uses, numbers_fit, keeps_mesh_rule}
use Rattle.mesh.proofs.TurnedFaces.{Turned, on, back, FaceOf, no_p, no_q, no_r, no_s, uses_face, face_uses}
use Rattle.mesh.proofs.FacesCounted.{apart_same}
use Rattle.marking.specs.Marking.{marks, dress_by}
use Rattle.kept_marks.proofs.MarksOfRows.{MarkOf, at_p, at_q, at_r, at_s, marks_face, face_marks}

-- ---- what stays

-- turning a face does not change its mark
abbrev pub Turns : (Face → Bool) → Type 0
Turns marked = (f g : Face) → Turned f g → marked f ≡ marked g

module _ (marked : Face → Bool) where
  -- a dressed row has the numbers and the region of the row, and it holds the same points

  pub dress_numbers : (t : Row) → numbers (dress_by marked t) ≡ numbers t
  unfolding dress_by
  dress_numbers t = refl

  pub dress_holds : (t : Row) (n : ℕ) → holds (dress_by marked t) n ≡ holds t n
  unfolding dress_by
  dress_holds t n = refl

  dress_region : (t : Row) → (dress_by marked t).region ≡ t.region
  unfolding dress_by
  dress_region t = refl

  pub dress_regions : (region : ℕ) (rows : List Row) → AllIn region rows → AllIn region (map (dress_by marked) rows)
  dress_regions region rows all row k =
      let (t, i, e) = Memᴰ.of_map (dress_by marked) rows k in
      ap (λ (row : Row). row.region) (sym e) ∙ dress_region t ∙ all t i

  -- it uses the faces of the row
  pub dress_uses : (f : Face) (t : Row) → uses f (dress_by marked t) ≡ uses f t
  unfolding dress_by uses faces
  dress_uses f t = refl

  dress_hits : (f : Face) (rows : List Row) → count (uses f) (map (dress_by marked) rows) ≡ count (uses f) rows
  unfolding dress_by uses faces those
  dress_hits f [] = refl
  dress_hits f (t ∷ ts) =
      count_cons (uses f) (dress_by marked t) (map (dress_by marked) ts)
      ∙ ap (λ n. ind (uses f t) + n) (dress_hits f ts) ∙ sym (count_cons (uses f) t ts)

  -- the table afterwards keeps the mesh rule exactly when it does without marks
  pub dress_keeps : (points : ℕ) (kept new : List Row)
      → keeps_mesh_rule points (kept ++ map (dress_by marked) new) ≡ keeps_mesh_rule points (kept ++ new)
  unfolding keeps_mesh_rule numbers_fit dress_by
  dress_keeps points kept new =
      let fit = numbers_fit points in
      let fits = every_append fit kept (map (dress_by marked) new)
      ∙ ap (λ b. every fit kept && b) (every_map fit (dress_by marked) new) ∙ sym (every_append fit kept new) in
      rw (
        fits,
        apart_same (kept ++ map (dress_by marked) new) (kept ++ new) (λ f.
            count_append (uses f) kept (map (dress_by marked) new)
            ∙ ap (λ n. count (uses f) kept + n) (dress_hits f new) ∙ sym (count_append (uses f) kept new)),
      )

  -- it is measured as the row is
  module _ (points : List Point) where
    pub dress_D : (t : Row) → row_d points (dress_by marked t) ≡ row_d points t
    unfolding dress_by row_d
    dress_D t = refl

    pub dress_quality : (t : Row) → row_quality points (dress_by marked t) ≡ row_quality points t
    unfolding dress_by row_quality
    dress_quality t = refl

    pub dress_qualities : (rows : List Row) → map (row_quality points) (map (dress_by marked) rows) ≡ map (row_quality points) rows
    dress_qualities [] = refl
    dress_qualities (t ∷ ts) = rw (dress_quality t, dress_qualities ts)

    dress_Ds : (rows : List Row) → total_d points (map (dress_by marked) rows) ≡ total_d points rows
    unfolding total_d
    dress_Ds [] = refl
    dress_Ds (t ∷ ts) = rw (dress_D t, dress_Ds ts)

    pub dress_total : (kept new : List Row) → total_d points (kept ++ map (dress_by marked) new) ≡ total_d points (kept ++ new)
    dress_total kept new =
        total_append points kept (map (dress_by marked) new)
        ∙ ap (λ d. total_d points kept +ℤ d) (dress_Ds new) ∙ sym (total_append points kept new)

-- ---- what a marking marks

module _ (marked : Face → Bool) (turns : Turns marked) where
  -- the dressed row marks those of its faces that the marking marks
  pub dress_marks : (f : Face) (t : Row) → marks f (dress_by marked t) ≡ uses f t && marked f
  unfolding dress_by
  dress_marks f t =
      same_test (marks f (dress_by marked t)) (uses f t && marked f) (λ h. to (marks_face f (dress_by marked t) h))
      (λ h. fro (uses_face f t (and_l (uses f t) (marked f) h)) (and_r (uses f t) (marked f) h))
    where
      both : {g : Face} → FaceOf f t → Turned f g → T (marked g) → T (uses f t && marked f)
      both {g} u e h = and_i (uses f t) (marked f) (face_uses f t u) (rw (turns f g e) h)

      to : MarkOf f (dress_by marked t) → T (uses f t && marked f)
      to (at_p e h) = both (no_p e) e h
      to (at_q e h) = both (no_q e) e h
      to (at_r e h) = both (no_r e) e h
      to (at_s e h) = both (no_s e) e h

      fro : FaceOf f t → T (marked f) → T (marks f (dress_by marked t))
      fro (no_p e) h = face_marks f (dress_by marked t) (at_p e (rw (turns f _ e) at h))
      fro (no_q e) h = face_marks f (dress_by marked t) (at_q e (rw (turns f _ e) at h))
      fro (no_r e) h = face_marks f (dress_by marked t) (at_r e (rw (turns f _ e) at h))
      fro (no_s e) h = face_marks f (dress_by marked t) (at_s e (rw (turns f _ e) at h))

  -- on a face that it uses
  pub dress_mark : (f : Face) (t : Row) → T (uses f t) → marks f (dress_by marked t) ≡ marked f
  dress_mark f t h = dress_marks f t ∙ go (uses f t) h
    where
      go : (a : Bool) → T a → a && marked f ≡ marked f
      go true h = refl
      go false h = absurd h

  -- each move, dressed, is an even rearrangement of the dressed row

  spin_dress : (t : Row) → T (rearranged (dress_by marked (spin t)) (dress_by marked t))
  unfolding dress_by evenly
  spin_dress t =
      even_i (dress_by marked (spin t)) (dress_by marked t)
      (Memᴰ.tail (Memᴰ.head (rw (turns (t.r, t.s, t.q) (t.q, t.r, t.s) on))))

  cross_dress : (t : Row) → T (rearranged (dress_by marked (cross t)) (dress_by marked t))
  unfolding dress_by evenly
  cross_dress t =
      even_i (dress_by marked (cross t)) (dress_by marked t)
      (Memᴰ.tail (Memᴰ.tail (Memᴰ.tail (Memᴰ.head
      (rw (turns (t.q, t.s, t.p) (t.p, t.q, t.s) on, turns (t.q, t.p, t.r) (t.p, t.r, t.q) back))))))

  -- rows that are one tetrahedron are one tetrahedron dressed
  pub dress_even : (t u : Row) → T (rearranged t u) → T (rearranged (dress_by marked t) (dress_by marked u))
  dress_even t u e =
      let d = dress_by marked in
      moved (λ t. T (rearranged (d t) (d u)))
      (λ t h. even_trans (d (spin t)) (d t) (d u) (spin_dress t) h)
      (λ t h. even_trans (d (cross t)) (d t) (d u) (cross_dress t) h)
      t u e (even_refl (d u))
