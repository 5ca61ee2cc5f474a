-- What only contracts of inner functions and proofs say: the rows afterwards of a removal, and its page row.
use Rattle.std.specs.Prelude.{ℕ, List, ◌≡◌, length}
use Rattle.rows.specs.declared.Row.{Row}
use Rattle.rows.specs.Rows.{with_rows}
use Rattle.layout.specs.Layout.{fields_of}
use Rattle.ring.specs.Ring.{site_of}
use Rattle.calls.specs.Removing.{patch_after, page_afterwards}
use Rattle.outcome.specs.declared.After.{After}

-- the rows afterwards
abbrev pub rows_afterwards : List ℕ → ℕ → ℕ → List Row
rows_afterwards block e f = (patch_after (site_of (fields_of block) e f)).rows

-- The rows afterwards are written where they belong, and their number and the page row are told.
pub record Replaces (block : List ℕ) (e f : ℕ) (before rows : List ℕ) (after : After) : Type 0 where
  pub number : after.n ≡ length (rows_afterwards block e f)
  pub table : rows ≡ with_rows before 0 (rows_afterwards block e f)
  pub page : after.page ≡ page_afterwards block e f
