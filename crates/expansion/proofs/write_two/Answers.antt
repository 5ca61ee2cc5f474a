-- `write_two` writes one row and the other after it.
use Prim.Native.Nat.{◌+◌}
use mathlib.Core.List.{[], ◌∷◌}
use mathlib.Core.Path.{refl, ap, ◌∙◌}
use native.Mathlib.Omega.{arith}
use Rattle.rows.specs.declared.Row.{Row}
use Rattle.rows.specs.Labels.{no_marks}
use Rattle.rows.specs.Rows.{with_rows}
use Rattle.rows.proofs.PastedRows.{with_more}
use Rattle.expansion.proofs.write_two.Goals as goal

pub returns : goal.returns
returns c =
    let a = c.args in
    let a_row_fact : Row = record { p = a.rows.a; q = a.rows.x; r = a.rows.y; s = a.rows.z; region = a.region; marks = no_marks } in
    let b_row_fact : Row = record { p = a.rows.x; q = a.rows.y; r = a.rows.z; s = a.rows.b; region = a.region; marks = no_marks } in
    c.put_row-2.ensures
    ∙ rw c.plain-b_row.ensures
    (ap (λ t. with_rows t (a.at + 1) (b_row_fact ∷ [])) (c.put_row.ensures ∙ ap (λ row. with_rows a.table.now a.at (row ∷ [])) c.plain-a_row.ensures))
    ∙ with_more a.table.now a.at (a.at + 1) (a_row_fact ∷ []) (b_row_fact ∷ []) refl (omega (arith, c.requires))
