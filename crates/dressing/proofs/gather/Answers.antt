-- The invariant of `gather`: the keys of the first i rows are stored.
use mathlib.Core.Bool.{Bool, not}
use mathlib.Core.List.{List, [], ◌∷◌, flat_map, Memᴰ}
use mathlib.Core.Path.{◌≡◌, refl, sym, ap, ◌∙◌}
use native.Mathlib.Numerals.{add-one}
use native.Mathlib.Omega.{arith}
use Rattle.lists.specs.Lists.{those, numbers_from}
use Rattle.lists.proofs.Images.{flat_map_snoc}
use Rattle.rows.specs.declared.Row.{Row}
use Rattle.rows.specs.Labels.{no_marks}
use Rattle.rows.specs.Rows.{row_in, rows_in, holds_face}
use Rattle.rows.proofs.RowsOfTables.{among_rows, rows_more}
use Rattle.marking.specs.Marking.{marked_faces}
use Rattle.marking.specs.Steps.{marked_keys, keys_marked}
use Rattle.dressing.proofs.gather.Goals as goal

-- where no row is marked there is no key
no_keys : (over : Row → Bool) (rows : List Row) → ((row : Row) → Memᴰ row rows → row.marks ≡ no_marks) → keys_marked over rows ≡ []
unfolding flat_map marked_keys marked_faces those
no_keys over [] none = refl
no_keys over (row ∷ rows) none = rw (none row (Memᴰ.head refl)) (no_keys over rows (λ r m. none r (Memᴰ.tail m)))

pub returns-then-unmarked : goal.returns-then-unmarked
returns-then-unmarked c =
    let a = c.args in
    let table = a.table.now in
    let none = c.unmarked.ensures c.if-unmarked.true in
    c.clear.ensures
    ∙ sym (no_keys (λ row. not (holds_face (a.x ∷ a.y ∷ a.z ∷ []) row)) (rows_in table a.n) λ row m.
    let (i, h, e) = among_rows table a.n m in
    rw e (none i))

pub loop-i-init : goal.loop-i-init
unfolding flat_map rows_in numbers_from
loop-i-init c = record { room = rw c.clear.ensures (omega arith); stored = c.clear.ensures }

pub loop-i-preserved : goal.loop-i-preserved
loop-i-preserved c =
    let a = c.args in
    let i = c.loop-i.i in
    let table = a.table.now in
    let over : Row → Bool = λ row. not (holds_face (a.x ∷ a.y ∷ a.z ∷ []) row) in record {
      room = omega arith;
      stored = c.store_marked.ensures.stored
          ∙ rw (c.loop-i.invariant.stored, c.holds_face.ensures, c.row_in-row.ensures)
          (sym (flat_map_snoc (λ row. marked_keys (over row) row) (rows_in table i) (row_in table i))
          ∙ ap (keys_marked over) (sym (rows_more table i) ∙ ap (rows_in table) (sym (add-one i))));
    }
