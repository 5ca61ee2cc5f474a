-- What only contracts of inner functions and proofs say: a block that is begun.
use Rattle.std.specs.Prelude.{ℕ, ◌-◌, List, ◌++◌, take, drop, replicate}
use Rattle.rows.specs.Rows.{rows_at}
use Rattle.layout.specs.Layout.{body_bytes}

-- 60 rows of 5 bytes
abbrev pub table_bytes : ℕ
table_bytes = body_bytes - rows_at

-- a block that is begun in the place of another: its version and its points, no rows yet, and the last four bytes as they were
abbrev pub begun : List ℕ → List ℕ → List ℕ
begun block out = take rows_at block ++ (replicate table_bytes 0 ++ drop body_bytes out)
