-- A row that marks, of the faces that it uses, just those that a marking marks is its own dressing; so is each row of a table in which both
-- rows at a face agree, by what the table marks. Rows with the same numbers and region are dressed alike, and so is a row by two markings
-- that agree on its faces.
use Prim.Native.Nat.{ℕ}
use mathlib.Core.Bool.{Bool}
use mathlib.Core.List.{List, [], ◌∷◌, map, Memᴰ}
use mathlib.Core.Path.{◌≡◌, refl, ap}
use lib.Dec.{T}
use lib.ListN.{get_or}
use Rattle.lists.specs.Lists.{different}
use Rattle.rows.specs.declared.Row.{Row}
use Rattle.rows.specs.Rows.{numbers}
use Rattle.mesh.specs.Mesh.{Face, uses, keeps_mesh_rule}
use Rattle.mesh.proofs.MeshRuleStated.{keeps_hits}
use Rattle.mesh.proofs.TurnedFaces.{stay, no_p, no_q, no_r, no_s, face_uses}
use Rattle.marking.specs.Marking.{marked_faces, marks, marked_in, agree, dress_by}
use Rattle.kept_marks.proofs.MarksOfRows.{mark_at_lem}
use Rattle.kept_marks.proofs.AgreementTested.{agree_stated}
use Rattle.kept_marks.proofs.PartedTables.{keeps_different}
use Rattle.kept_marks.proofs.MarksReplaced.{own_mark}

-- two markings that agree on the faces of a row, or of some rows

row_alike : (marked other : Face → Bool) (t : Row) → ((f : Face) → T (uses f t) → marked f ≡ other f) → dress_by marked t ≡ dress_by other t
unfolding dress_by
row_alike marked other t same =
    rw (
      same (t.q, t.r, t.s) (face_uses _ t (no_p stay)),
      same (t.p, t.s, t.r) (face_uses _ t (no_q stay)),
      same (t.p, t.q, t.s) (face_uses _ t (no_r stay)),
      same (t.p, t.r, t.q) (face_uses _ t (no_s stay)),
    )

pub dress_alike : (marked other : Face → Bool) (rows : List Row)
    → ((t : Row) → Memᴰ t rows → (f : Face) → T (uses f t) → marked f ≡ other f) → map (dress_by marked) rows ≡ map (dress_by other) rows
dress_alike marked other [] same = refl
dress_alike marked other (t ∷ ts) same =
    rw (row_alike marked other t (same t (Memᴰ.head refl)), dress_alike marked other ts (λ t k. same t (Memᴰ.tail k)))

-- two rows with the same numbers and region
pub dress_shape : (marked : Face → Bool) (t u : Row) → numbers t ≡ numbers u → t.region ≡ u.region → dress_by marked t ≡ dress_by marked u
unfolding dress_by
dress_shape marked t u same region = rw (at 0, at 1, at 2, at 3, region)
  where
    at : (i : ℕ) → get_or (numbers t) i 0 ≡ get_or (numbers u) i 0
    at i = ap (λ ns. get_or ns i 0) same

-- its own dressing
own_dress : (marked : Face → Bool) (t : Row) → T (different (numbers t)) → ((f : Face) → T (uses f t) → marks f t ≡ marked f)
    → dress_by marked t ≡ t
unfolding dress_by marked_faces
own_dress marked t apart like =
    rw (
      ← like (t.q, t.r, t.s) (face_uses _ t (no_p stay)),
      ← like (t.p, t.s, t.r) (face_uses _ t (no_q stay)),
      ← like (t.p, t.q, t.s) (face_uses _ t (no_r stay)),
      ← like (t.p, t.r, t.q) (face_uses _ t (no_s stay)),
      mark_at_lem t apart ((t.q, t.r, t.s), t.marks.qrs) (Memᴰ.head refl),
      mark_at_lem t apart ((t.p, t.s, t.r), t.marks.psr) (Memᴰ.tail (Memᴰ.head refl)),
      mark_at_lem t apart ((t.p, t.q, t.s), t.marks.pqs) (Memᴰ.tail (Memᴰ.tail (Memᴰ.head refl))),
      mark_at_lem t apart ((t.p, t.r, t.q), t.marks.prq) (Memᴰ.tail (Memᴰ.tail (Memᴰ.tail (Memᴰ.head refl)))),
    )

pub table_own : (count : ℕ) (rows : List Row) → T (keeps_mesh_rule count rows) → T (agree rows)
    → {t : Row} → Memᴰ t rows → dress_by (marked_in rows) t ≡ t
table_own count rows rule agrees {t} k =
    own_dress (marked_in rows) t (keeps_different count rows rule t k)
    (λ f used. own_mark rows (keeps_hits count rows rule) (agree_stated rows agrees) f t k used)
