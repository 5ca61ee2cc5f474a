-- `put_three` writes three rows, each behind the one before.
use Prim.Native.Nat.{ℕ, ◌+◌, ◌*◌, ◌≤◌}
use mathlib.Core.List.{List, [], ◌∷◌}
use mathlib.Core.Path.{◌≡◌, refl, ap, ◌∙◌}
use native.Mathlib.Omega.{arith}
use lib.ListN.{length}
use Rattle.rows.specs.declared.Row.{Row}
use Rattle.rows.specs.Labels.{no_marks}
use Rattle.rows.specs.Rows.{rows_at, row_size, with_rows}
use Rattle.rows.proofs.PastedRows.{with_more}
use Rattle.links.specs.Links.{Link}
use Rattle.face.specs.declared.Sharing.{Sharing}
use Rattle.face.specs.Steps.{three_of}
use Rattle.face.proofs.put_three.Goals as goal

-- a row of the edge a, b
abbrev row_of : Sharing → ℕ → ℕ → ℕ → Row
row_of found region r s = record { p = found.a; q = found.b; r = r; s = s; region = region; marks = no_marks }

module _ (table one two three : List ℕ) (at : ℕ) (found : Sharing) (region u v w : ℕ) (l : Link) (room : rows_at + row_size * (at + 3) ≤ length table)
    (follow : (v, w) ≡ l) where
  all_three : one ≡ with_rows table at (row_of found region u v ∷ []) → two ≡ with_rows one (at + 1) (row_of found region v w ∷ [])
      → three ≡ with_rows two (at + 2) (row_of found region w u ∷ []) → three ≡ with_rows table at (three_of found region u l.0 l.1)
  all_three e f g =
      let r = row_of found region u v in
      let s = row_of found region v w in
      let t = row_of found region w u in
      g
      ∙ ap (λ l. with_rows l (at + 2) (t ∷ [])) (f ∙ ap (λ l. with_rows l (at + 1) (s ∷ [])) e
      ∙ with_more table at (at + 1) (r ∷ []) (s ∷ []) refl (omega arith))
      ∙ with_more table at (at + 2) (r ∷ s ∷ []) (t ∷ []) refl (omega arith)
      ∙ ap (λ (l : Link). with_rows table at (three_of found region u l.0 l.1)) follow

pub returns : goal.returns
returns c =
    all_three c.args.rows.now _ _ _ c.args.at c.args.found c.args.region c.args.u c.link_of-after.result.v
    c.link_of-after.result.w _ c.requires.at_in_bounds c.link_of-after.ensures
    (rw c.plain.ensures at c.put_row.ensures) (rw c.plain-2.ensures at c.put_row-2.ensures)
    (rw c.plain-3.ensures at c.put_row-3.ensures)
