-- The invariant of `summary_of`: the tally is that of the first i rows.
use mathlib.Core.Path.{◌≡◌, refl, ap, ◌∙◌}
use native.Mathlib.Numerals.{add-one}
use native.Mathlib.Omega.{arith}
use Rattle.lists.specs.Lists.{numbers_from, those}
use Rattle.volume.specs.Volume.{points_in}
use Rattle.quality.specs.Quality.{worst}
use Rattle.score.specs.Score.{total_badness}
use Rattle.rows.specs.Rows.{rows_in}
use Rattle.rows.specs.RowMeasure.{row_quality}
use Rattle.tally.specs.Patches.{patch_of}
use Rattle.summary.specs.Steps.{tallied}
use Rattle.summary.proofs.TallyRowByRow.{tally_of, summary_is_lem, row_tally, unwrapped}
use Rattle.summary.proofs.summary_of.Goals as goal

pub loop-i-init : goal.loop-i-init
unfolding rows_in numbers_from those worst total_badness tally_of
loop-i-init c = (omega arith, refl)

pub with-tally-requires : goal.with-tally-requires
with-tally-requires c =
    let rows = c.args.rows.now in
    rw (c.loop-i.invariant.1, c.quality.ensures)
    (unwrapped rows.measured rows.bytes c.loop-i.i (omega arith))

pub loop-i-preserved : goal.loop-i-preserved
loop-i-preserved c =
    let rows = c.args.rows.now in (
      omega arith,
      c.with-tally.ensures
          ∙ rw (c.loop-i.invariant.1, c.quality.ensures, add-one)
          (row_tally (row_quality (points_in rows.coordinates.now rows.count)) rows.table.now c.loop-i.i),
    )

pub returns : goal.returns
returns c =
    let rows = c.args.rows.now in
    let e : c.loop-i.i ≡ rows.n = omega arith in
    c.summary.ensures
    ∙ ap tallied (rw e at c.loop-i.invariant.1)
    ∙ summary_is_lem (patch_of rows)
