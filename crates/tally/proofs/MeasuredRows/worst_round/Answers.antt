-- The invariant of `worst_round`: what was met is the worst of those of the first i rows that hold both ends.
use mathlib.Core.List.{map}
use mathlib.Core.Path.{◌≡◌, refl, sym, ap, ◌∙◌}
use native.Mathlib.Numerals.{add-one}
use native.Mathlib.Omega.{arith}
use Rattle.std.specs.Prelude.{unwrap_or}
use Rattle.lists.specs.Lists.{numbers_from, those}
use Rattle.volume.specs.Volume.{points_in}
use Rattle.quality.specs.Quality.{worst, zero_quality}
use Rattle.rows.specs.Rows.{row_in, rows_in, holds_edge}
use Rattle.rows.specs.RowMeasure.{row_quality}
use Rattle.tally.proofs.RowsMeasured.{measured_row}
use Rattle.tally.proofs.WorstRowByRow.{or_zero_of, passing_met, other_met}
use Rattle.tally.proofs.MeasuredRows.worst_round.Goals.{then-holds_edge, else-holds_edge}
use Rattle.tally.proofs.MeasuredRows.worst_round.Goals as goal

pub loop-k-init : goal.loop-k-init
unfolding rows_in numbers_from those worst
loop-k-init c = (omega arith, refl)

pub row_quality-requires : goal.row_quality-requires
row_quality-requires c =
    rw c.row_in-row.ensures (measured_row c.args.self.now.measured c.loop-k.k (omega arith))

pub loop-k-preserved : goal.loop-k-preserved
loop-k-preserved c =
    let rows = c.args.self.now in
    let i = c.loop-k.k in
    let table = rows.table.now in
    let f = row_quality (points_in rows.coordinates.now rows.count) in
    let p = holds_edge c.args.a c.args.b in
    let is = c.row_in-row.ensures in
    let test : p (row_in table i) ≡ c.holds_edge.result = ap p (sym is) ∙ sym c.holds_edge.ensures in (
      omega arith,
      elim c.if-holds_edge.branch [
        | then-holds_edge w ↦
            w.met-is ∙ w.worst_with-met.ensures
            ∙ rw (c.loop-k.invariant.1, w.row_quality.ensures, is, add-one) (passing_met f table i p (test ∙ w.if-holds_edge.true))
        | else-holds_edge w ↦ w.met-is ∙ c.loop-k.invariant.1 ∙ rw add-one (other_met f table i p (test ∙ w.if-holds_edge.false))
      ],
    )

pub returns : goal.returns
returns c =
    let rows = c.args.self.now in
    let e : c.loop-k.k ≡ rows.n = omega arith in
    c.unwrap_or.ensures
    ∙ ap (λ w. unwrap_or w zero_quality) (rw e at c.loop-k.invariant.1)
    ∙ or_zero_of (worst (map (row_quality (points_in rows.coordinates.now rows.count))
    (those (holds_edge c.args.a c.args.b) (rows_in rows.table.now rows.n))))
