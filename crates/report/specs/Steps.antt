-- What only contracts of inner functions and proofs say: the lines of a removal or a flip that is done, from the block that was given and
-- the block that was written.
use Rattle.std.specs.Prelude.{ℕ, ◌-◌, ◌*◌, ◌≤◌, ◌≡◌, T, length, take, drop}
use mathlib.Core.List.{List, ◌++◌, flat_map}
use Rattle.lists.specs.Lists.{every}
use Rattle.layout.specs.Layout.{row_count, fields_of}
use Rattle.layout.specs.Within.{is_byte}
use Rattle.block.specs.Opening.{open_answer}
use Rattle.ring.specs.declared.Ring.{Ring}
use Rattle.ring.specs.Ring.{min_ring, max_ring}
use Rattle.summary.specs.Summary.{summary_of}
use Rattle.lines.specs.Lines.{answer_line, ring_line, row_line, summary_lines}

-- the first lines: `answer 0` and both summaries
abbrev pub first_lines : List ℕ → List ℕ → List ℕ
first_lines block output = answer_line 0 ++ summary_lines (summary_of (fields_of block)) (summary_of (fields_of output))

-- the lines of the last n rows
abbrev pub last_lines : ℕ → List ℕ → List ℕ
last_lines n output = flat_map row_line (drop (row_count output - n) (fields_of output).rows)

-- a removal has two new rows for each of the m - 2 triangles
abbrev pub rows_of : Ring → ℕ
rows_of ring = 2 * (ring.m - 2)

-- the lines of a removal, with the ring or the chain
abbrev pub removal_lines : List ℕ → Ring → List ℕ → List ℕ
removal_lines block ring output =
    first_lines block output ++ ring_line (take ring.m ring.v) ++ last_lines (rows_of ring) output

-- the lines of a flip with n new rows
abbrev pub flip_lines : List ℕ → ℕ → List ℕ → List ℕ
flip_lines block n output = first_lines block output ++ last_lines n output

-- Both blocks open, and the written one has n rows or more.
pub record Written (block output : List ℕ) (n : ℕ) : Type 0 where
  pub before : open_answer block ≡ 0
  pub after : open_answer output ≡ 0
  pub new_rows_fact : n ≤ row_count output

-- A ring or a chain of 3 to 10 points, each a byte.
pub record Printable (ring : Ring) : Type 0 where
  pub from_three : min_ring ≤ ring.m
  pub to_ten : ring.m ≤ max_ring
  pub points : length ring.v ≡ max_ring
  pub bytes : T (every is_byte (take ring.m ring.v))
