-- The keys of all rows, gathered once, say which faces of the new rows are marked.
use Prim.Native.Nat.{◌-◌}
use mathlib.Core.List.Memᴰ
use mathlib.Core.List.{[], ◌∷◌}
use mathlib.Core.Path.{ap, ◌∙◌, subst}
use native.Mathlib.Omega.{arith}
use Rattle.lists.specs.Lists.{numbers_from}
use Rattle.rows.specs.Rows.{row_in, rows_in, with_rows, holds_face}
use Rattle.rows.proofs.RowsOfTables.{Bytes, row_bytes_lem, rows_bytes}
use Rattle.dressing.proofs.NewMarks.{all_dressed_alike}
use Rattle.dressing.proofs.dress.Goals as goal

pub returns : goal.returns
returns c =
    let a = c.args in
    let table = a.table.now in
    let rows = a.rows.now in
    c.dress_all.ensures
    ∙ ap (with_rows rows a.from)
    (all_dressed_alike (holds_face (a.x ∷ a.y ∷ a.z ∷ [])) (rows_in table a.n) c.requires.n_in_bounds.2
    (rows_bytes table (λ j. omega (arith, c.type_inv.table j)) a.n) _ c.gather.ensures _
    (λ row m. let (i, k, e) = Memᴰ.of_map (row_in rows) (numbers_from a.from (a.end - a.from)) m in
    subst Bytes e (row_bytes_lem rows (λ j. omega (arith, c.slice_known-1.given j)) i)))
