-- The invariant of `worst`: what is kept is the worst of the first i rows, of which there is one.
use mathlib.Core.List.{map}
use mathlib.Core.Path.{◌≡◌, ap, ◌∙◌}
use native.Mathlib.Numerals.{add-one}
use native.Mathlib.Omega.{arith}
use Rattle.std.specs.Prelude.{Some, unwrap_or}
use Rattle.lists.specs.Lists.{numbers_from}
use Rattle.volume.specs.Volume.{points_in}
use Rattle.quality.specs.Quality.{worst, zero_quality}
use Rattle.rows.specs.Rows.{rows_in}
use Rattle.rows.specs.RowMeasure.{row_quality}
use Rattle.tally.specs.Steps.{worst_with}
use Rattle.tally.proofs.WorstRowByRow.{or_zero_of, row_met}
use Rattle.tally.proofs.MeasuredRows.worst.Goals as goal

pub returns-then-self-eq0 : goal.returns-then-self-eq0
unfolding rows_in numbers_from worst
returns-then-self-eq0 c =
    let none : c.args.self.now.n ≡ 0 = omega arith in
    rw none

pub loop-i-init : goal.loop-i-init
unfolding rows_in numbers_from worst
loop-i-init c = (omega arith, omega arith, rw c.quality-worst.ensures)

pub loop-i-preserved : goal.loop-i-preserved
loop-i-preserved c =
    let rows = c.args.self.now in
    let f = row_quality (points_in rows.coordinates.now rows.count) in (
      omega arith,
      omega arith,
      ap Some c.worse_of-worst.ensures
          ∙ ap (λ kept. worst_with kept c.quality.result) c.loop-i.invariant.2
          ∙ rw (c.quality.ensures, add-one) (row_met f rows.table.now c.loop-i.i),
    )

pub returns : goal.returns
returns c =
    let rows = c.args.self.now in
    let e : c.loop-i.i ≡ rows.n = omega arith in
    ap (λ w. unwrap_or w zero_quality) (rw e at c.loop-i.invariant.2)
    ∙ or_zero_of (worst (map (row_quality (points_in rows.coordinates.now rows.count)) (rows_in rows.table.now rows.n)))
