-- Which rows stay, in the words of an edge and of a face; and the rows that stay, one row of the table after the other.
use Prim.Native.Nat.{ℕ, ◌+◌, ◌*◌, ◌≤◌}
use mathlib.Core.Bool.{Bool, true, false, not, ◌&&◌}
use mathlib.Core.List.{List, [], ◌∷◌, ◌++◌}
use mathlib.Core.Path.{◌≡◌, refl, sym, ap, ◌∙◌}
use native.Mathlib.Numerals.{add-one}
use native.Mathlib.Omega.{arith}
use lib.ListN.{length, length-append}
use Rattle.lists.specs.Lists.{every, those}
use Rattle.lists.proofs.Lists.{those_yes, those_no, those_same}
use Rattle.rows.specs.declared.Row.{Row}
use Rattle.rows.specs.Rows.{rows_at, row_size, row_in, rows_in, with_rows, holds, holds_edge, holds_face}
use Rattle.rows.proofs.RowsOfTables.{rows_more}
use Rattle.rows.proofs.PastedRows.{with_length, with_more}
use Rattle.output.specs.Output.{stays, staying}

twice : (a b : Bool) → a && (b && (b && true)) ≡ a && b
twice true true = refl
twice true false = refl
twice false b = refl

-- an edge
pub edge_stays : (x y : ℕ) (row : Row) → stays x y y row ≡ not (holds_edge x y row)
unfolding stays every
edge_stays x y row = ap not (twice (holds row x) (holds row y))

pub edge_staying : (x y : ℕ) (rows : List Row) → staying x y y rows ≡ those (λ row. not (holds_edge x y row)) rows
edge_staying x y rows = those_same (stays x y y) (λ row. not (holds_edge x y row)) (edge_stays x y) rows

pub edge_going : (x y : ℕ) (rows : List Row) → those (holds_face (x ∷ y ∷ y ∷ [])) rows ≡ those (holds_edge x y) rows
unfolding every
edge_going x y rows = those_same (holds_face (x ∷ y ∷ y ∷ [])) (holds_edge x y) (λ row. twice (holds row x) (holds row y)) rows

-- a face
pub face_stays : (x y z : ℕ) (row : Row) → stays x y z row ≡ not (holds_face (x ∷ y ∷ z ∷ []) row)
unfolding stays
face_stays x y z row = refl

pub face_staying : (x y z : ℕ) (rows : List Row) → staying x y z rows ≡ those (λ row. not (holds_face (x ∷ y ∷ z ∷ []) row)) rows
face_staying x y z rows = those_same (stays x y z) (λ row. not (holds_face (x ∷ y ∷ z ∷ []) row)) (face_stays x y z) rows

-- one row more of a table

module _ (x y z : ℕ) (table rest : List ℕ) where
  -- the rows that stay, of the first i, are k and stand at the front of a table
  abbrev pub Front : ℕ → ℕ → List ℕ → Type 0
  Front i k rows = (k ≡ length (staying x y z (rows_in table i))) × (rows ≡ with_rows rest 0 (staying x y z (rows_in table i)))

  -- a table with its front written is as long as it was
  pub front_length : (i k : ℕ) (rows : List ℕ) → Front i k rows → rows_at + row_size * k ≤ length rest → length rows ≡ length rest
  front_length i k rows front room =
      ap length front.1 ∙ with_length rest 0 (staying x y z (rows_in table i)) (omega (arith, front.0))

  module _ (i k : ℕ) (rows : List ℕ) (front : Front i k rows) (row : Row) (row_is : row ≡ row_in table i) (test : Bool)
      (test-is : test ≡ stays x y z row) where
    -- row i stays and is written behind them
    pub stays_more : rows_at ≤ length rest → test ≡ true → (after : List ℕ) (next : ℕ) → after ≡ with_rows rows k (row ∷ []) → next ≡ k + 1
        → Front (i + 1) next after
    stays_more room e after next a n =
        let yes : stays x y z (row_in table i) ≡ true = ap (stays x y z) (sym row_is) ∙ (sym test-is ∙ e) in
        let kept = staying x y z (rows_in table i) in
        let more : after ≡ with_rows rest 0 (kept ++ row ∷ []) =
        a ∙ ap (λ t. with_rows t k (row ∷ [])) front.1 ∙ with_more rest 0 k kept (row ∷ []) (omega (arith, front.0)) (omega arith) in
        let all = those_yes (stays x y z) (rows_in table i) (row_in table i) yes in
        rw (add-one i, rows_more table i, all, ← row_is, n) (omega (arith, length-append kept (row ∷ []), front.0), more)

    -- row i goes
    pub goes_more : test ≡ false → (after : List ℕ) (next : ℕ) → after ≡ rows → next ≡ k → Front (i + 1) next after
    goes_more e after next a n =
        let no' : stays x y z (row_in table i) ≡ false = ap (stays x y z) (sym row_is) ∙ (sym test-is ∙ e) in
        let all = those_no (stays x y z) (rows_in table i) (row_in table i) no' in
        rw (add-one i, rows_more table i, all, a, n) front
