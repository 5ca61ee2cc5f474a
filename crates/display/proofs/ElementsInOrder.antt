-- The elements that are shown, one by one: as many as a block can have rows, and a loop that writes them in order writes them all.
use Prim.Native.Nat.{ℕ, zero, suc, ◌+◌, ◌-◌, ◌≤◌, ◌<◌}
use mathlib.Core.List.{List, [], ◌∷◌, ◌++◌, append-nil}
use mathlib.Core.Path.{◌≡◌, refl, sym, ap, ◌∙◌}
use native.Mathlib.Nat.{zero-add}
use native.Mathlib.Numerals.{add-one}
use native.Mathlib.Omega.{arith}
use lib.Ieee.{Float}
use lib.ListN.{length, get_or, take, drop, set, replicate, length-append, length-map, length-replicate, drop_of_length-le}
use lib.ListN.{get_or-eq_default}
use lib.Seq.{paste-suc, take_all}
use Rattle.lists.proofs.Images.{map_at}
use Rattle.quality.specs.declared.Quality.{Quality}
use Rattle.page.specs.declared.Shown.{Shown}
use Rattle.page.specs.Page.{plus_zero, shown, signed_size}
use Rattle.rows.specs.Rows.{row_in, no_row}
use Rattle.rows.specs.RowMeasure.{row_quality}
use Rattle.display.specs.Display.{row_shown}
use Rattle.rows.proofs.RowsOfTables.{rows_length, rows_at_lem}
use Rattle.layout.specs.Layout.{Patch, max_rows}
use Rattle.tally.specs.declared.MeasuredRows.{MeasuredRows}
use Rattle.tally.specs.Patches.{patch_of}
use Rattle.display.specs.Display.{shown_sizes, shown_of}

-- behind a list stands what is taken where it has no element
behind : (xs : List Float) (k i : ℕ) (z : Float) → get_or (xs ++ replicate k z) i z ≡ get_or xs i z
behind [] zero i z = refl
behind [] (suc k) zero z = refl
behind [] (suc k) (suc i) z = behind [] k i z
behind (x ∷ xs) k zero z = refl
behind (x ∷ xs) k (suc i) z = behind xs k i z

module _ (patch : Patch) where
  sizes_length : length (shown_sizes patch) ≡ length patch.rows
  sizes_length = length-map patch.rows _

  -- element i, of a row and behind the rows

  element_of : (i : ℕ) → get_or (shown_of patch) i plus_zero ≡ get_or (shown_sizes patch) i plus_zero
  unfolding shown_of
  element_of i = behind (shown_sizes patch) (max_rows - length patch.rows) i plus_zero

  pub element_shown : (i : ℕ) → i < length patch.rows
      → get_or (shown_of patch) i plus_zero ≡ signed_size (row_shown patch.points (get_or patch.rows i no_row))
  element_shown i h =
      element_of i ∙ map_at (λ row. signed_size (row_shown patch.points row)) patch.rows i no_row plus_zero h

  pub element_zero : (i : ℕ) → length patch.rows ≤ i → get_or (shown_of patch) i plus_zero ≡ plus_zero
  element_zero i h = element_of i ∙ get_or-eq_default (shown_sizes patch) plus_zero (omega (arith, sizes_length))

  -- all elements

  -- the elements before i, and what stood in the output from there on
  abbrev pub up_to : List Float → ℕ → List Float
  up_to out i = take i (shown_of patch) ++ drop i out

  module _ (few : length patch.rows ≤ max_rows) where
    pub elements_length : length (shown_of patch) ≡ max_rows
    unfolding shown_of
    elements_length = simp (length-append, length-replicate) (omega (arith, sizes_length))

    module _ (out : List Float) (size : length out ≡ max_rows) where
      pub one_more : (i : ℕ) → i < max_rows → set (up_to out i) i (get_or (shown_of patch) i plus_zero) ≡ up_to out (i + 1)
      one_more i h =
          rw add-one
          (rw (zero-add i, zero-add (suc i)) at (paste-suc out 0 (shown_of patch) i plus_zero (omega arith) (omega (arith, elements_length))))

      pub all_written : up_to out max_rows ≡ shown_of patch
      all_written =
          ap (λ front. front ++ drop max_rows out) (take_all max_rows (shown_of patch) (omega (arith, elements_length)))
          ∙ (ap (λ rest. shown_of patch ++ rest) (drop_of_length-le out {i = max_rows} (omega arith)) ∙ append-nil (shown_of patch))

-- ---- element i of the rows of a table

module _ (rows : MeasuredRows) (i : ℕ) where
  -- row i, measured, shown and with its sign
  pub table_shown : i < rows.n → (q : Quality) (s : Shown) (x : Float)
      → q ≡ row_quality (patch_of rows).points (row_in rows.table.now i)
      → s ≡ shown q
      → x ≡ signed_size s
      → x ≡ get_or (shown_of (patch_of rows)) i plus_zero
  table_shown h q s x e1 e2 e3 =
      let own = rows_at_lem rows.table.now rows.n i no_row h in
      e3 ∙ (ap signed_size (e2 ∙ ap shown (e1 ∙ ap (row_quality (patch_of rows).points) (sym own)))
      ∙ sym (element_shown (patch_of rows) i (omega (arith, rows_length rows.table.now rows.n))))

  -- no row
  pub table_zero : rows.n ≤ i → get_or (shown_of (patch_of rows)) i plus_zero ≡ plus_zero
  table_zero h = element_zero (patch_of rows) i (omega (arith, rows_length rows.table.now rows.n))
