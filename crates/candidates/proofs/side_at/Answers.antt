-- `side_at` is the side that the arrays hold: neighbours, a used closing side, or what the cell keeps.
use mathlib.Core.Option.{none, some}
use mathlib.Core.Path.{sym}
use Rattle.candidates.proofs.SideRead.{side_near, side_used_lem, side_read}
use Rattle.candidates.proofs.side_at.Goals as goal

pub returns-then-j-i : goal.returns-then-j-i
returns-then-j-i c =
    let a = c.args in
    sym (side_near a.table.now a.used.now a.i a.j c.if-j-i.true)

pub returns-then-used-at : goal.returns-then-used-at
returns-then-used-at c =
    let a = c.args in
    let used = rw c.cell_at-at.ensures.0 at c.if-used-at.true in
    sym (side_used_lem a.table.now a.used.now a.i a.j c.if-j-i.false used)

pub returns-in-None : goal.returns-in-None
returns-in-None c =
    let a = c.args in
    let used = rw c.cell_at-at.ensures.0 at c.if-used-at.false in
    let best = rw c.cell_at-at.ensures.0 at c.best_at.ensures in
    sym (side_read a.table.now a.used.now a.i a.j c.if-j-i.false used none
    (rw c.in-None.is at best))

pub returns-in-Some : goal.returns-in-Some
returns-in-Some c =
    let a = c.args in
    let used = rw c.cell_at-at.ensures.0 at c.if-used-at.false in
    let best = rw c.cell_at-at.ensures.0 at c.best_at.ensures in
    sym (side_read a.table.now a.used.now a.i a.j c.if-j-i.false used (some _)
    (rw c.in-Some.is at best))
