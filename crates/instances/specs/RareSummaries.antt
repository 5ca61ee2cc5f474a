-- Summaries with what is rare, computed: an inverted row, and both marks.
use Rattle.std.specs.Prelude.{List, [], ◌∷◌, ◌≡◌, refl, Ok, None, Some}
use Rattle.rows.specs.declared.Row.{Row}
use Rattle.layout.specs.Layout.{Patch, bytes_of}
use Rattle.block.specs.Opening.{open_answer}
use Rattle.calls.specs.Summarising.{summary_gives}
use Rattle.facts.specs.AllDefinitions.{definitions}
use Rattle.facts.specs.Facts.{row, nothing, regular}
use Rattle.plate.specs.Plate.{plate_points, plate_of}

-- the points of the regular row, with other rows
unfoldable pub regular_with : List Row → Patch
regular_with rows = record { points = regular.points; rows = rows }

-- the regular row and the same the other way round: the block opens, and one row counts as inverted, with score 0 and no badness
pub inverted_row :
    (open_answer (bytes_of 1 (regular_with (row 0 1 2 3 ∷ row 1 0 2 3 ∷ []))) ≡ 0)
    × (summary_gives (bytes_of 1 (regular_with (row 0 1 2 3 ∷ row 1 0 2 3 ∷ [])))
    ≡ Ok (record { upright = 1; flat = 0; inverted = 1; worst = Some (record { value = 0 }); octave = Some 0 }))
unfolding regular regular_with summary_gives definitions
inverted_row = (refl, refl)

-- no rows: both are marks
pub no_rows :
    summary_gives (bytes_of 1 nothing) ≡ Ok (record { upright = 0; flat = 0; inverted = 0; worst = None; octave = None })
unfolding nothing summary_gives definitions
no_rows = refl

-- rows but no upright row: a worst score, and the mark of the octave; an inverted row alone, and a flat one
pub no_upright_inverted :
    summary_gives (bytes_of 1 (regular_with (row 1 0 2 3 ∷ [])))
    ≡ Ok (record { upright = 0; flat = 0; inverted = 1; worst = Some (record { value = 0 }); octave = None })
unfolding regular regular_with summary_gives definitions
no_upright_inverted = refl

pub no_upright_flat :
    summary_gives (bytes_of 1 (plate_of (row 0 1 2 3 ∷ [])))
    ≡ Ok (record { upright = 0; flat = 1; inverted = 0; worst = Some (record { value = 0 }); octave = None })
unfolding plate_points plate_of summary_gives definitions
no_upright_flat = refl
