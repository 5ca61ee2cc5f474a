-- How long the lines are: a line is its word, its fields with a space before each, and its end.
use Prim.Native.Nat.{ℕ, suc, ◌+◌, ◌*◌, ◌≤◌, ◌<◌}
use Prim.Native.String.{String}
use mathlib.Core.Bool.{Bool}
use mathlib.Core.List.{List, [], ◌∷◌, map, flat_map}
use mathlib.Core.Path.{◌≡◌, refl}
use native.Mathlib.Omega.{arith}
use lib.Dec.{T, ltb→lt}
use lib.ListN.{length, length-append}
use Rattle.lists.specs.Lists.{every}
use Rattle.lists.proofs.Tests.{and_l, and_r}
use Rattle.rows.specs.declared.Row.{Row}
use Rattle.summary.specs.declared.Summary.{Summary}
use Rattle.text.specs.Decimal.{decimal}
use Rattle.text.proofs.DecimalDigits.{three_digits, small}
use Rattle.lines.specs.Lines.{text, spaced, line_end, ended, line, row_figures}
use Rattle.lines.specs.Lines.{score_field, number_or_mark, summary_fields, ring_line, row_line}

line_size : (word : String) (fields : List (List ℕ)) → length (line word fields) ≡ length (text word) + length (ended fields)
unfolding line
line_size word fields = length-append (text word) (ended fields)

-- one field more
field_size : (field : List ℕ) (fields : List (List ℕ)) → length (ended (field ∷ fields)) ≡ suc (length field) + length (ended fields)
unfolding ended flat_map spaced text
field_size field fields = simp length-append (omega arith)

end_size : length (ended []) ≡ 1
unfolding ended flat_map line_end text
end_size = refl

-- numbers of at most three digits
numbers_size : (ns : List ℕ) → T (every small ns) → length (ended (map decimal ns)) ≤ 4 * length ns + 1
unfolding every
numbers_size [] h = omega (arith, end_size)
numbers_size (n ∷ ns) h =
    let own = three_digits n (ltb→lt n 1000 (and_l (small n) (every small ns) h)) in
    let rest = numbers_size ns (and_r (small n) (every small ns) h) in
    omega (arith, field_size (decimal n) (map decimal ns))

-- the line of an answer
pub answer_size : (n : ℕ) → n < 1000 → length (line "answer" (decimal n ∷ [])) ≤ 11
unfolding text
answer_size n h = omega (arith, line_size "answer" (decimal n ∷ []), field_size (decimal n) [], end_size, three_digits n h)

-- the line of the ring
pub ring_size : (ring : List ℕ) → T (every small ring) → length (ring_line ring) ≤ 4 * length ring + 5
unfolding text
ring_size ring h = omega (arith, line_size "ring" (map decimal ring), numbers_size ring h)

-- all figures of a row
abbrev pub small_row : Row → Bool
small_row row = every small (row_figures row)

-- the line of a row
row_size_lem : (row : Row) → T (small_row row) → length (row_line row) ≤ 24
unfolding text
row_size_lem row h = omega (arith, line_size "row" (map decimal (row_figures row)), numbers_size (row_figures row) h)

-- the lines of rows
pub rows_size : (rows : List Row) → T (every small_row rows) → length (flat_map row_line rows) ≤ 24 * length rows
unfolding every flat_map
rows_size [] h = omega arith
rows_size (row ∷ rows) h =
    let own = row_size_lem row (and_l (small_row row) (every small_row rows) h) in
    let rest = rows_size rows (and_r (small_row row) (every small_row rows) h) in
    omega (arith, length-append (row_line row) (flat_map row_line rows))

-- A summary whose counts and octave have at most three digits, and whose score has four.
pub record SmallSummary (summary : Summary) : Type 0 where
  pub upright : summary.upright < 1000
  pub flat : summary.flat < 1000
  pub inverted : summary.inverted < 1000
  pub worst : length (score_field summary.worst) ≤ 4
  pub octave : length (number_or_mark summary.octave) ≤ 3

-- the line of a summary
pub summary_size : (word : String) (summary : Summary) → SmallSummary summary
    → length (line word (summary_fields summary)) ≤ length (text word) + 22
unfolding summary_fields
summary_size word summary fits =
    let upright = decimal summary.upright in
    let flat = decimal summary.flat in
    let inverted = decimal summary.inverted in
    let worst = score_field summary.worst in
    let octave = number_or_mark summary.octave in
    let a = field_size upright (flat ∷ inverted ∷ worst ∷ octave ∷ []) in
    let b = field_size flat (inverted ∷ worst ∷ octave ∷ []) in
    let c = field_size inverted (worst ∷ octave ∷ []) in
    let d = field_size worst (octave ∷ []) in
    let e = field_size octave [] in
    let x = three_digits summary.upright fits.upright in
    let y = three_digits summary.flat fits.flat in
    let z = three_digits summary.inverted fits.inverted in
    omega (arith, line_size word (summary_fields summary), end_size)
