-- Requirement §12: the lines that the program prints.
use Rattle.std.specs.Prelude.{ℕ, Option, None, Some, option_map}
use Prim.Native.Char.{code}
use Prim.Native.String.{String, [] as empty, ◌∷◌ as ◌then◌}
use mathlib.Core.List.{List, [], ◌∷◌, ◌++◌, map, flat_map}
use Rattle.score.specs.declared.Score.{Score}
use Rattle.rows.specs.declared.Row.{Row}
use Rattle.summary.specs.declared.Summary.{Summary}
use Rattle.text.specs.Decimal.{decimal}

-- the bytes of a text
unfoldable pub text : String → List ℕ
text empty = []
text (c then s) = code c ∷ text s

-- a field stands after a space
unfoldable pub spaced : List ℕ → List ℕ
spaced field = text " " ++ field

-- what ends a line
unfoldable pub line_end : List ℕ
line_end = text "\n"

-- the fields of a line and its end
unfoldable pub ended : List (List ℕ) → List ℕ
ended fields = flat_map spaced fields ++ line_end

-- a line: a word, then each field after a space
unfoldable pub line : String → List (List ℕ) → List ℕ
line word fields = text word ++ ended fields

-- `-` for a mark
unfoldable pub mark : List ℕ
mark = text "-"

-- a number, or the mark where there is none
abbrev pub number_or_mark : Option ℕ → List ℕ
number_or_mark (Some n) = decimal n
number_or_mark None = mark

-- worst score, or the mark
abbrev pub score_field : Option Score → List ℕ
score_field worst = number_or_mark (option_map (λ score. score.value) worst)

-- the patch's upright, flat and inverted counts, worst score and octave
unfoldable pub summary_fields : Summary → List (List ℕ)
summary_fields summary =
    decimal summary.upright ∷ decimal summary.flat ∷ decimal summary.inverted
    ∷ score_field summary.worst ∷ number_or_mark summary.octave ∷ []

-- `before` and `after` the summary of the block that was given, and of the block that was written
abbrev pub summary_lines : Summary → Summary → List ℕ
summary_lines before after = line "before" (summary_fields before) ++ line "after" (summary_fields after)

-- the line of an answer
abbrev pub answer_line : ℕ → List ℕ
answer_line answer = line "answer" (decimal answer ∷ [])

-- `ring` the ring, or the chain
abbrev pub ring_line : List ℕ → List ℕ
ring_line ring = line "ring" (map decimal ring)

-- the numbers of a row that are printed: its four points and the region, never the marks
abbrev pub row_figures : Row → List ℕ
row_figures row = row.p ∷ row.q ∷ row.r ∷ row.s ∷ row.region ∷ []

-- `row` four numbers and the region of a new row
abbrev pub row_line : Row → List ℕ
row_line row = line "row" (map decimal (row_figures row))
