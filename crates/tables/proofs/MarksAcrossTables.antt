-- Two tables of the same tetrahedra, in another order of rows and evenly rearranged, use and mark the same faces: so 23 is given in both
-- or in neither, and new rows take the same marks from both.
use Prim.Native.Nat.{ℕ}
use mathlib.Core.List.{List}
use mathlib.Core.Path.{◌≡◌, sym, subst, fun_ext}
use lib.Dec.{T}
use Rattle.lists.proofs.Tests.{same_test}
use Rattle.rows.specs.declared.Row.{Row}
use Rattle.rows.specs.Tetrahedra.{rearranged, SameTetrahedra}
use Rattle.mesh.specs.Mesh.{uses, reversed}
use Rattle.mesh.proofs.EvenFaces.{even_uses}
use Rattle.marking.specs.Marking.{marks, marks_over, mark_goes, new_mark}
use Rattle.kept_marks.proofs.MarksOfRows.{even_marks}
use Rattle.kept_marks.proofs.NumbersOfFaces.{over_e, over_i}
use Rattle.triangulation.proofs.AcrossTables.{any_across}

-- an even rearrangement marks a face with all these numbers exactly when the row does
even_over : (ns : List ℕ) (t u : Row) → T (rearranged t u) → marks_over ns t ≡ marks_over ns u
even_over ns t u even =
    same_test (marks_over ns t) (marks_over ns u)
    (λ h. let (f, all, marked) = over_e ns t h in over_i ns u f all (subst T (even_marks t u even f) marked))
    (λ h. let (f, all, marked) = over_e ns u h in over_i ns t f all (subst T (sym (even_marks t u even f)) marked))

-- 23
pub goes_across : (ns : List ℕ) (removed others : List Row) → SameTetrahedra removed others → mark_goes ns removed ≡ mark_goes ns others
goes_across ns removed others same = any_across (marks_over ns) (even_over ns) removed others same

-- the marks of new rows
pub new_mark_across : (removed kept others stay : List Row) → SameTetrahedra removed others → SameTetrahedra kept stay
    → new_mark removed kept ≡ new_mark others stay
unfolding new_mark
new_mark_across removed kept others stay gone kin =
    fun_ext λ f.
    rw (
      any_across (uses f) (λ t u even. even_uses t u even f) removed others gone,
      any_across (marks f) (λ t u even. even_marks t u even f) removed others gone,
      any_across (uses (reversed f)) (λ t u even. even_uses t u even (reversed f)) kept stay kin,
      any_across (marks (reversed f)) (λ t u even. even_marks t u even (reversed f)) kept stay kin,
    )
