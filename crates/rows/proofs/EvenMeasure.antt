-- What even rearrangement keeps of the measure of a row: D and the quality. And a total D over parts of a table is that of the whole.
use mathlib.Core.Bool.{Bool, true, false, cond, not}
use mathlib.Core.List.{List, [], ◌∷◌, ◌++◌}
use mathlib.Core.Path.{◌≡◌, refl, sym, ap, ◌∙◌}
use lib.Dec.{T}
use lib.IntN.{◌+ℤ◌, +ℤ_idl, +ℤ_assoc, +ℤ_comm}
use Rattle.lists.specs.Lists.{those}
use Rattle.lists.proofs.Sums.{sum_append}
use Rattle.volume.specs.declared.Point.{Point}
use Rattle.volume.proofs.VolumeIdentities.{D_even}
use Rattle.quality.proofs.QualityArranged.{quality_even}
use Rattle.rows.specs.declared.Row.{Row}
use Rattle.rows.specs.RowMeasure.{place, row_d, row_quality, total_d}
use Rattle.rows.specs.Tetrahedra.{rearranged}
use Rattle.rows.proofs.EvenMoves.{moved}

module _ (points : List Point) where
  pub even_D : (t u : Row) → T (rearranged t u) → row_d points t ≡ row_d points u
  unfolding row_d
  even_D t u e =
      let at = place points in
      moved (λ t. row_d points t ≡ row_d points u)
      (λ t h. D_even.turned (at t.p) (at t.q) (at t.r) (at t.s) ∙ h)
      (λ t h. D_even.crossed (at t.p) (at t.q) (at t.r) (at t.s) ∙ h)
      t u e refl

  pub even_quality : (t u : Row) → T (rearranged t u) → row_quality points t ≡ row_quality points u
  unfolding row_quality
  even_quality t u e =
      let at = place points in
      moved (λ t. row_quality points t ≡ row_quality points u)
      (λ t h. quality_even.turned (at t.p) (at t.q) (at t.r) (at t.s) ∙ h)
      (λ t h. quality_even.crossed (at t.p) (at t.q) (at t.r) (at t.s) ∙ h)
      t u e refl

  -- the rows that pass and the others make up the total
  pub total_split : (p : Row → Bool) (rows : List Row)
      → total_d points (those p rows) +ℤ total_d points (those (λ row. not (p row)) rows) ≡ total_d points rows
  unfolding total_d those
  total_split p [] = +ℤ_idl _
  total_split p (row ∷ rows) = go (p row) (total_split p rows)
    where
      go : (b : Bool)
          → total_d points (those p rows) +ℤ total_d points (those (λ row. not (p row)) rows) ≡ total_d points rows
          → total_d points (cond b (row ∷ those p rows) (those p rows))
          +ℤ total_d points (cond (not b) (row ∷ those (λ row. not (p row)) rows) (those (λ row. not (p row)) rows))
          ≡ row_d points row +ℤ total_d points rows
      go true e =
          +ℤ_assoc (row_d points row) (total_d points (those p rows)) (total_d points (those (λ row. not (p row)) rows))
          ∙ ap (λ z. row_d points row +ℤ z) e
      go false e =
          let d = row_d points row in
          let x = total_d points (those p rows) in
          let y = total_d points (those (λ row. not (p row)) rows) in
          sym (+ℤ_assoc x d y) ∙ ap (λ z. z +ℤ y) (+ℤ_comm x d) ∙ +ℤ_assoc d x y ∙ ap (λ z. d +ℤ z) e

  -- the total of two tables together
  pub total_append : (rows others : List Row) → total_d points (rows ++ others) ≡ total_d points rows +ℤ total_d points others
  unfolding total_d
  total_append rows others = sum_append (row_d points) rows others
