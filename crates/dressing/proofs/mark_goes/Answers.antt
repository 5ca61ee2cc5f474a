-- The invariant of `mark_goes`: none of the first i rows marks such a face.
use Prim.Native.Nat.{ℕ}
use mathlib.Core.Bool.{false}
use mathlib.Core.List.{List, [], ◌∷◌}
use mathlib.Core.Path.{◌≡◌, refl, sym, ◌∙◌}
use native.Mathlib.Numerals.{add-one}
use native.Mathlib.Omega.{arith}
use Rattle.lists.specs.Lists.{every, any, has, numbers_from}
use Rattle.lists.proofs.Tests.{yes_is, no_is, is_yes}
use Rattle.lists.proofs.Lists.{any_snoc, any_i, every_i, not_any}
use Rattle.rows.specs.declared.Row.{Row}
use Rattle.rows.specs.Labels.{no_marks}
use Rattle.rows.specs.Rows.{row_in, rows_in}
use Rattle.rows.proofs.RowsOfTables.{among_rows, row_among, rows_more}
use Rattle.marking.specs.Marking.{marks_over}
use Rattle.marking.proofs.AgreeByKeys.{unmarked_none}
use Rattle.dressing.proofs.mark_goes.Goals as goal

unmarked_over : (numbers : List ℕ) (row : Row) → row.marks ≡ no_marks → marks_over numbers row ≡ false
unfolding marks_over
unmarked_over numbers row e = no_is _ (unmarked_none row e (λ f. every (has (f.0 ∷ f.1 ∷ f.2 ∷ [])) numbers))

pub returns-then-unmarked : goal.returns-then-unmarked
returns-then-unmarked c =
    let a = c.args in
    let table = a.table.now in
    let over = marks_over (a.x ∷ a.y ∷ a.z ∷ []) in
    let none = c.unmarked.ensures c.if-unmarked.true in
    sym (no_is (any over (rows_in table a.n)) (not_any over (rows_in table a.n) (every_i _ (rows_in table a.n) λ row m.
    let (i, h, e) = among_rows table a.n m in
    rw (unmarked_over (a.x ∷ a.y ∷ a.z ∷ []) row (rw e (none i))) tt)))

pub loop-i-init : goal.loop-i-init
unfolding any rows_in numbers_from
loop-i-init c = (omega arith, refl)

pub returns-then-marks_over : goal.returns-then-marks_over
returns-then-marks_over c =
    let a = c.args in
    let table = a.table.now in
    let over = marks_over (a.x ∷ a.y ∷ a.z ∷ []) in
    let told = rw c.row_in.ensures at c.marks_over.ensures in
    sym (yes_is (any over (rows_in table a.n)) (any_i over (rows_in table a.n) (row_among table a.n c.loop-i.i (omega arith))
    (is_yes (over (row_in table c.loop-i.i)) (sym told ∙ c.if-marks_over.true))))

pub loop-i-preserved : goal.loop-i-preserved
loop-i-preserved c =
    let a = c.args in
    let table = a.table.now in
    let i = c.loop-i.i in
    let over = marks_over (a.x ∷ a.y ∷ a.z ∷ []) in
    let told = rw c.row_in.ensures at c.marks_over.ensures in
    let no : over (row_in table i) ≡ false = sym told ∙ c.if-marks_over.false in
    (omega arith, rw (add-one i, rows_more table i, any_snoc over (rows_in table i) (row_in table i), c.loop-i.invariant.1, no))

pub returns : goal.returns
returns c =
    let a = c.args in
    let e : c.loop-i.i ≡ a.n = omega arith in
    sym (rw e at c.loop-i.invariant.1)
