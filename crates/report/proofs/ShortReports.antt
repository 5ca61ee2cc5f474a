-- A report has at most 512 bytes: counts, point numbers and regions have at most three digits and a score four, a ring or a chain has at
-- most ten points, and there are at most sixteen new rows, which are bytes of the written block.
use Prim.Native.Nat.{ℕ, ◌-◌, ◌*◌, ◌^◌, ◌≤◌, ◌<◌}
use mathlib.Core.Bool.{Bool, true, false, cond}
use mathlib.Core.List.{List, ◌++◌}
use mathlib.Core.Option.{Option, none, some}
use mathlib.Core.Path.{◌≡◌, refl}
use native.Mathlib.Omega.{arith}
use mir.Syntax.{w8}
use mir.Val.{Fits}
use lib.Dec.{T, eqb, leb, lt→ltb, ltb→lt}
use lib.ListN.{length, take, drop, length-append, length-map, length-take, length-drop}
use Rattle.std.specs.Prelude.{None, Some}
use Rattle.lists.specs.Lists.{every, largest, count}
use Rattle.lists.proofs.Counts.{count_most}
use Rattle.lists.proofs.Lists.{every_i, every_drop, every_weaken}
use Rattle.lists.proofs.Numbers.{largest_within}
use Rattle.lists.proofs.Tests.{yes_is}
use Rattle.quality.specs.declared.Quality.{Quality}
use Rattle.quality.specs.Quality.{is_upright, is_flat, is_inverted, worst}
use Rattle.score.specs.Score.{highest_score, score_factor, octave_limit, score, score_of, worst_score, octave_of, octave, total_badness}
use Rattle.rows.specs.Rows.{row_in}
use Rattle.rows.specs.RowMeasure.{row_quality}
use Rattle.rows.proofs.RowsOfTables.{among_rows, row_bytes_lem, row_region}
use Rattle.layout.specs.Layout.{byte, row_count, fields_of}
use Rattle.layout.specs.Within.{is_byte}
use Rattle.layout.proofs.BytesOfSlices.{all_bytes, byte_below}
use Rattle.layout.proofs.PatchWritten.{rows_counted}
use Rattle.block.specs.Opening.{open_answer}
use Rattle.block.proofs.RightBlocks.{right_block}
use Rattle.tally.specs.Tally.{qualities}
use Rattle.summary.specs.Summary.{summary_of}
use Rattle.ring.specs.declared.Ring.{Ring}
use Rattle.text.specs.Texts.{text_bytes}
use Rattle.text.proofs.DecimalDigits.{three_digits, four_digits, small}
use Rattle.lines.specs.Lines.{text, mark, score_field, number_or_mark, ring_line}
use Rattle.lines.proofs.LineLengths.{small_row, SmallSummary, answer_size, ring_size, rows_size, summary_size}
use Rattle.report.specs.Steps.{first_lines, last_lines, rows_of, removal_lines, flip_lines, Written, Printable}

-- ---- both summaries

score_short : (q : Quality) → length (score_field (Some (score q))) ≤ 4
unfolding score_of
score_short q = four_digits (score_of q) (go (is_upright q))
  where
    go : (b : Bool) → cond b (largest (λ n. leb (n ^ 3 * q.den) (score_factor * q.num)) highest_score) 0 < 10000
    go true = omega (arith, largest_within (λ n. leb (n ^ 3 * q.den) (score_factor * q.num)) highest_score)
    go false = omega arith

mark_size : length mark ≡ 1
unfolding mark text
mark_size = refl

worst_short : (qs : List Quality) → length (score_field (worst_score qs)) ≤ 4
unfolding worst_score
worst_short qs = go (worst qs)
  where
    go : (o : Option Quality) → length (score_field (elim o [ none ↦ None | some q ↦ Some (score q) ])) ≤ 4
    go none = omega (arith, mark_size)
    go (some q) = score_short q

octave_short : (qs : List Quality) → length (number_or_mark (octave qs)) ≤ 3
unfolding octave octave_of
octave_short qs = go (eqb (count is_upright qs) 0)
  where
    limited : octave_of (count is_upright qs) (total_badness qs) < 1000
    limited = omega (arith, largest_within (λ e. leb (2 ^ e * count is_upright qs) (total_badness qs)) octave_limit)

    go : (b : Bool) → length (number_or_mark (cond b None (Some (octave_of (count is_upright qs) (total_badness qs))))) ≤ 3
    go true = omega (arith, mark_size)
    go false = three_digits _ limited

-- the summary of a block that opens
small_summary : (block : List ℕ) → open_answer block ≡ 0 → SmallSummary (summary_of (fields_of block))
unfolding summary_of
small_summary block opens =
    let qs = qualities (fields_of block) in
    let rows = rows_counted block in
    let few = (right_block block opens).body.few_rows in
    let each = length-map (fields_of block).rows (row_quality (fields_of block).points) in
    record {
      upright = omega (arith, count_most is_upright qs);
      flat = omega (arith, count_most is_flat qs);
      inverted = omega (arith, count_most is_inverted qs);
      worst = worst_short qs;
      octave = octave_short qs;
    }

first_short : (block output : List ℕ) → open_answer block ≡ 0 → open_answer output ≡ 0 → length (first_lines block output) ≤ 66
unfolding text
first_short block output before after =
    let first = summary_size "before" (summary_of (fields_of block)) (small_summary block before) in
    let second = summary_size "after" (summary_of (fields_of output)) (small_summary output after) in
    let zero = answer_size 0 (omega arith) in
    simp length-append (omega arith)

-- ---- the last rows

three : (n : ℕ) → T (is_byte n) → T (small n)
three n h = lt→ltb n 1000 (omega (arith, ltb→lt n 256 h))

-- the rows of a block of bytes
row_small : (block : List ℕ) → T (every is_byte block) → (i : ℕ) → T (small_row (row_in block i))
unfolding every
row_small block bytes i =
    let below = byte_below block bytes in
    let row = row_bytes_lem block below i in
    let small_is : (n : ℕ) → n < 256 → small n ≡ true = λ n h. yes_is (small n) (lt→ltb n 1000 (omega arith)) in
    rw (
      small_is _ row.byte_p,
      small_is _ row.byte_q,
      small_is _ row.byte_r,
      small_is _ row.byte_s,
      small_is _ (row_region block below i),
    )
    tt

rows_small : (block : List ℕ) → T (every is_byte block) → T (every small_row (fields_of block).rows)
unfolding fields_of
rows_small block bytes = every_i small_row (fields_of block).rows λ row k.
    let (i, h, is) = among_rows block (row_count block) k in
    rw is (row_small block bytes i)

last_short : (output : List ℕ) (n : ℕ) → ((i : ℕ) → Fits w8 (byte output i)) → n ≤ row_count output
    → length (last_lines n output) ≤ 24 * n
last_short output n known h =
    let last = drop (row_count output - n) (fields_of output).rows in
    let each = every_drop small_row (row_count output - n) (fields_of output).rows (rows_small output (all_bytes output known)) in
    omega (arith, rows_size last each, length-drop (row_count output - n) (fields_of output).rows, rows_counted output)

-- ---- a whole report

module _ (block output : List ℕ) (known : (i : ℕ) → Fits w8 (byte output i)) where
  pub removal_short : (ring : Ring) → Printable ring → Written block output (rows_of ring) → length (removal_lines block ring output) ≤ text_bytes
  removal_short ring printable written =
      let points = take ring.m ring.v in
      let first = first_short block output written.before written.after in
      let line = ring_size points (every_weaken is_byte small three points printable.bytes) in
      let ten : length points ≤ 10 = omega (arith, length-take ring.m ring.v, printable.to_ten) in
      let last = last_short output (rows_of ring) known written.new_rows_fact in
      let front = length-append (first_lines block output) (ring_line points) in
      let all = length-append (first_lines block output ++ ring_line points) (last_lines (rows_of ring) output) in
      omega (arith, printable.to_ten)

  pub flip_short : (n : ℕ) → n ≤ 3 → Written block output n → length (flip_lines block n output) ≤ text_bytes
  flip_short n few written =
      let first = first_short block output written.before written.after in
      let last = last_short output n known written.new_rows_fact in
      omega (arith, length-append (first_lines block output) (last_lines n output))
