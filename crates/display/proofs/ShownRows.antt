-- What `shown` gives: the answers of opening; with 0 what is shown of each row and zeros behind them, with any other number nothing.
use Prim.Native.Nat.{ℕ, ◌≤◌, ◌<◌}
use mathlib.Core.Bool.{Bool, true, false, cond}
use mathlib.Core.List.{List, [], ◌∷◌}
use mathlib.Core.Path.{◌≡◌, refl, sym, ap, ◌∙◌}
use native.Mathlib.Omega.{arith}
use borrow.Author.Tests.{eqb-true, eq-eqb, ne_eqb}
use lib.Dec.{T, eqb}
use lib.Ieee.{Float}
use lib.ListN.{length, get_or}
use Rattle.lists.specs.Lists.{any, has}
use Rattle.page.specs.Page.{plus_zero, signed_size}
use Rattle.rows.specs.Rows.{no_row}
use Rattle.display.specs.Display.{row_shown}
use Rattle.std.specs.Prelude.{Result, Ok, Err}
use Rattle.answers.specs.declared.Refusal.{Refusal}
use Rattle.layout.specs.Layout.{Patch, max_rows, fields_of}
use Rattle.answers.specs.Answers.{answer_of}
use Rattle.block.specs.Opening.{open_answer}
use Rattle.block.proofs.OpenedAndSealed.{open_list}
use Rattle.answers.proofs.Refusals.{given_done, given_refused}
use Rattle.rows.proofs.RowsOfTables.{rows_length}
use Rattle.layout.proofs.PatchWritten.{rows_counted}
use Rattle.tally.specs.declared.MeasuredRows.{MeasuredRows}
use Rattle.tally.specs.Patches.{patch_of}
use Rattle.tally.proofs.OpensMeasured.{few_rows}
use Rattle.display.specs.Display.{shown_answer, shown_of, shown_elements}
use Rattle.display.proofs.ElementsInOrder.{element_shown, element_zero, elements_length}

module _ (block : List ℕ) (out : List Float) where
  -- ---- what the call promises

  -- the answers
  pub shown_list : T (has (0 ∷ 1 ∷ 2 ∷ 3 ∷ 4 ∷ 5 ∷ 7 ∷ 8 ∷ 22 ∷ []) (shown_answer block out))
  unfolding shown_answer any
  shown_list = go (eqb (length out) max_rows)
    where
      go : (b : Bool) → T (has (0 ∷ 1 ∷ 2 ∷ 3 ∷ 4 ∷ 5 ∷ 7 ∷ 8 ∷ 22 ∷ []) (cond b (open_answer block) 1))
      go true = open_list block
      go false = tt

  -- a refusal leaves every element
  pub shown_keeps : (shown_answer block out ≡ 0 → ⊥) → shown_elements block out ≡ out
  unfolding shown_elements
  shown_keeps refused = rw (ne_eqb (shown_answer block out) 0 refused)

  -- an output of the right length, and a block that opens
  pub shown_taken : length out ≡ max_rows → open_answer block ≡ 0 → shown_answer block out ≡ 0
  unfolding shown_answer
  shown_taken size opens = rw (eq-eqb (length out) max_rows size) opens

  module _ (done : shown_answer block out ≡ 0) where
    -- the output has an element for each row that a block can have, and the block opens
    pub shown_opens : (length out ≡ max_rows) × (open_answer block ≡ 0)
    unfolding shown_answer
    shown_opens = go (eqb (length out) max_rows) refl done
      where
        go : (b : Bool) → eqb (length out) max_rows ≡ b → cond b (open_answer block) 1 ≡ 0 → (length out ≡ max_rows) × (open_answer block ≡ 0)
        go true e h = (eqb-true (length out) max_rows e, h)
        go false e h = absurd (omega arith)

    -- every element is written
    pub shown_writes : shown_elements block out ≡ shown_of (fields_of block)
    unfolding shown_elements
    shown_writes = rw done

    -- there are 60
    pub shown_length : length (shown_elements block out) ≡ max_rows
    shown_length =
        let few = few_rows block shown_opens.1 in
        ap length shown_writes ∙ elements_length (fields_of block) (omega (arith, rows_counted block))

    element : (i : ℕ) (x : Float) → get_or (shown_of (fields_of block)) i plus_zero ≡ x → get_or (shown_elements block out) i plus_zero ≡ x
    element i x e = ap (λ elements. get_or elements i plus_zero) shown_writes ∙ e

    -- element i is what is shown of row i, with its sign
    pub shown_row : (i : ℕ) → i < length (fields_of block).rows
        → get_or (shown_elements block out) i plus_zero ≡ signed_size (row_shown (fields_of block).points (get_or (fields_of block).rows i no_row))
    shown_row i h = element i _ (element_shown (fields_of block) i h)

    -- behind the rows it is zero
    pub shown_behind : (i : ℕ) → length (fields_of block).rows ≤ i → get_or (shown_elements block out) i plus_zero ≡ plus_zero
    shown_behind i h = element i _ (element_zero (fields_of block) i h)

  -- ---- what the code gives, way out by way out

  abbrev Gives : Result (Unit {0}) Refusal → List Float → Type 0
  Gives answer elements = (answer ≡ answer_of (shown_answer block out)) × (elements ≡ shown_elements block out)

  -- an output of another length
  pub other_length : (length out ≡ max_rows → ⊥) → Gives (Err (record { number = 1 })) out
  unfolding shown_answer shown_elements
  other_length other = (rw (ne_eqb (length out) max_rows other), rw (ne_eqb (length out) max_rows other))

  module _ (size : length out ≡ max_rows) where
    is_opening : shown_answer block out ≡ open_answer block
    unfolding shown_answer
    is_opening = rw (eq-eqb (length out) max_rows size)

    -- a refusal of opening
    pub not_opened : (refusal : Refusal) → answer_of (open_answer block) ≡ Err refusal → Gives (Err refusal) out
    not_opened refusal refused =
        let same : answer_of (shown_answer block out) ≡ Err refusal = ap answer_of is_opening ∙ refused in
        (sym same, sym (shown_keeps (given_refused (shown_answer block out) tt refusal same)))

    module _ {done : Unit {0}} (opened : answer_of (open_answer block) ≡ Ok done) where
      pub opens : open_answer block ≡ 0
      opens = given_done (open_answer block) tt done opened

      -- all elements
      pub elements_written : (elements : List Float) → elements ≡ shown_of (fields_of block) → Gives (Ok done) elements
      elements_written elements own =
          (sym (ap answer_of is_opening ∙ opened), own ∙ sym (shown_writes (is_opening ∙ opens)))

      -- the rows of the block, measured, are few enough
      pub few_measured : (rows : MeasuredRows) → patch_of rows ≡ fields_of block → rows.n ≤ max_rows
      few_measured rows own =
          omega (
            arith,
            few_rows block opens,
            rows_counted block,
            rows_length rows.table.now rows.n,
            ap (λ (patch : Patch). length patch.rows) own,
          )
