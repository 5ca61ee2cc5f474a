-- No marked face goes, by the test and by its words: 23 asks of the rows that go alone, the words of every row of the table.
use Prim.Native.Nat.{ℕ, min, max}
use mathlib.Core.Bool.{false, ◌&&◌}
use mathlib.Core.List.{List, [], ◌∷◌}
use mathlib.Core.Path.{◌≡◌, sym, ap, ◌∙◌, subst}
use lib.Dec.{T}
use Rattle.lists.specs.Lists.{every, any}
use Rattle.lists.proofs.Lists.{any_i, any_e, those_same}
use Rattle.lists.proofs.Tests.{and_true, same_test}
use Rattle.rows.specs.declared.Row.{Row}
use Rattle.rows.specs.Rows.{holds, holds_edge, holds_face}
use Rattle.marking.specs.Marking.{marks_over, mark_goes}
use Rattle.dressing.proofs.MarksThatGo.{goes_among}
use Rattle.layout.specs.Layout.{Patch}
use Rattle.ring.specs.Ring.{site_of}
use Rattle.calls.specs.Removing.{mark_lost}
use Rattle.calls.specs.Flipping.{pair_of}
use Rattle.kept_marks.proofs.NumbersOfFaces.{over_e, over_i}
use Rattle.demands.specs.Premises.{NoneMarked, MarksStay}

-- of every row
all_stated : (ns : List ℕ) (rows : List Row) → any (marks_over ns) rows ≡ false → NoneMarked rows ns
all_stated ns rows clear row at f marked all = subst T clear (any_i (marks_over ns) rows at (over_i ns row f all marked))

all_tested : (ns : List ℕ) (rows : List Row) → NoneMarked rows ns → any (marks_over ns) rows ≡ false
all_tested ns rows stay =
    same_test (any (marks_over ns) rows) false
    (λ h. let (row, at, k) = any_e (marks_over ns) rows h in
    let (f, all, marked) = over_e ns row k in
    stay row at f marked all)
    (λ i. absurd i)

-- an edge
edge_among : (patch : Patch) (e f : ℕ) → any (marks_over (min e f ∷ max e f ∷ [])) patch.rows ≡ mark_lost (site_of patch e f)
unfolding site_of every
edge_among patch e f =
    let a = min e f in
    let b = max e f in
    goes_among (a ∷ b ∷ []) patch.rows
    ∙ ap (mark_goes (a ∷ b ∷ []))
    (those_same (holds_face (a ∷ b ∷ [])) (holds_edge a b) (λ row. ap (λ c. holds row a && c) (and_true (holds row b))) patch.rows)

pub marks_stay_stated : (patch : Patch) (e f : ℕ) → mark_lost (site_of patch e f) ≡ false → MarksStay patch e f
marks_stay_stated patch e f clear = all_stated (min e f ∷ max e f ∷ []) patch.rows (edge_among patch e f ∙ clear)

pub marks_stay_tested : (patch : Patch) (e f : ℕ) → MarksStay patch e f → mark_lost (site_of patch e f) ≡ false
marks_stay_tested patch e f stay = sym (edge_among patch e f) ∙ all_tested (min e f ∷ max e f ∷ []) patch.rows stay

-- a face
face_among : (patch : Patch) (face : List ℕ) → any (marks_over face) patch.rows ≡ mark_goes face (pair_of patch face).removed
unfolding pair_of
face_among patch face = goes_among face patch.rows

pub face_stated : (patch : Patch) (face : List ℕ) → mark_goes face (pair_of patch face).removed ≡ false → NoneMarked patch.rows face
face_stated patch face clear = all_stated face patch.rows (face_among patch face ∙ clear)

pub face_tested : (patch : Patch) (face : List ℕ) → NoneMarked patch.rows face → mark_goes face (pair_of patch face).removed ≡ false
face_tested patch face stay = sym (face_among patch face) ∙ all_tested face patch.rows stay
