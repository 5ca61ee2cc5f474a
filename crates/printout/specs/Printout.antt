-- Requirement §12: what the program prints that removes an edge; `lines/Lines` has its lines.
use Rattle.std.specs.Prelude.{ℕ, suc, ◌+◌, cond, eqb, length, take, replicate}
use mathlib.Core.List.{List, [], ◌++◌, flat_map}
use Rattle.layout.specs.Layout.{block_bytes, byte, fields_of}
use Rattle.ring.specs.Ring.{Site, site_of}
use Rattle.summary.specs.Summary.{summary_of}
use Rattle.lines.specs.Lines.{summary_lines, answer_line, ring_line, row_line}
use Rattle.calls.specs.Removing.{rows_made, remove_answer, remove_bytes}

-- `before` and `after`, `ring` the ring or the chain, and each `row` four numbers and the region of a new row, in written order
unfoldable pub report : List ℕ → List ℕ → Site → List ℕ
report block output site =
    summary_lines (summary_of (fields_of block)) (summary_of (fields_of output))
    ++ ring_line site.ring
    ++ flat_map row_line (rows_made site)

-- the program takes 514 bytes, a block, then the two ends; a refusal prints the line `answer N` alone, as does a wrong length
unfoldable pub printout : List ℕ → List ℕ
printout input =
    let block = take block_bytes input in
    let e = byte input block_bytes in
    let f = byte input (suc block_bytes) in
    let out : List ℕ = replicate block_bytes 0 in
    let answer = cond (eqb (length input) (block_bytes + 2)) (remove_answer block out e f) 1 in
    let done = report block (remove_bytes block out e f) (site_of (fields_of block) e f) in
    answer_line answer ++ cond (eqb answer 0) done []
