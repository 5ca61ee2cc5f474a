-- `volume::determinant` is the determinant of its rows, and no step leaves the range of i64.
use mathlib.Core.Path.{◌∙◌}
use borrow.Author.Rules.{rules}
use Rattle.volume.proofs.VolumeComputed.{determinant_from}
use Rattle.volume.proofs.VolumeFits.{entry_read, term_fits, two_fit, three_fit}
use Rattle.volume.proofs.determinant.Goals as goal

pub overflow_mul-result : goal.overflow_mul-result
overflow_mul-result c = search (rules, term_fits)

pub overflow_mul-result-2 : goal.overflow_mul-result-2
overflow_mul-result-2 c = search (rules, term_fits)

pub overflow_sub-result : goal.overflow_sub-result
overflow_sub-result c = search (rules, term_fits, two_fit)

pub overflow_mul-result-3 : goal.overflow_mul-result-3
overflow_mul-result-3 c = search (rules, term_fits)

pub overflow_add-result : goal.overflow_add-result
overflow_add-result c = search (rules, term_fits, two_fit, three_fit)

pub returns : goal.returns
returns c =
    let v = c.v.inside in
    let w = c.w.inside in
    let vx = entry_read v.x c.v.invariant.0 in
    let vy = entry_read v.y c.v.invariant.1 in
    let vz = entry_read v.z c.v.invariant.2 in
    let wx = entry_read w.x c.w.invariant.0 in
    let wy = entry_read w.y c.w.invariant.1 in
    let wz = entry_read w.z c.w.invariant.2 in
    search (rules, term_fits, two_fit, three_fit)
    ∙ determinant_from
    c.u.view_is
    c.v.view_is
    c.w.view_is
    (rw (vy, vz, wy, wz) at c.minor-x.ensures.0)
    (rw (vx, vz, wx, wz) at c.minor-y.ensures.0)
    (rw (vx, vy, wx, wy) at c.minor-z.ensures.0)
