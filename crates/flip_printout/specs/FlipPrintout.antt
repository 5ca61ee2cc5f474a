-- Requirement §12.6: what the flip's program prints; `lines/Lines` has its lines.
use Rattle.std.specs.Prelude.{ℕ, cond, eqb, take, drop, replicate}
use mathlib.Core.List.{List, [], ◌++◌, flat_map}
use Rattle.layout.specs.Layout.{block_bytes, fields_of}
use Rattle.summary.specs.Summary.{summary_of}
use Rattle.lines.specs.Lines.{summary_lines, answer_line, row_line}
use Rattle.calls.specs.Flipping.{rows_flipped, flip_answer, flip_bytes}

-- of a block and numbers: `before` and `after`, and each `row` four numbers and the region of a new row, in written order; a refusal prints
-- the line `answer N` alone
unfoldable pub flip_printed : List ℕ → List ℕ → List ℕ
flip_printed block numbers =
    let out : List ℕ = replicate block_bytes 0 in
    let answer = flip_answer block out numbers in
    let summaries = summary_lines (summary_of (fields_of block)) (summary_of (fields_of (flip_bytes block out numbers))) in
    let done = summaries ++ flat_map row_line (rows_flipped (fields_of block) numbers) in
    answer_line answer ++ cond (eqb answer 0) done []

-- the program takes a block, then the numbers, one byte each, however many
abbrev pub flip_printout : List ℕ → List ℕ
flip_printout input = flip_printed (take block_bytes input) (drop block_bytes input)
