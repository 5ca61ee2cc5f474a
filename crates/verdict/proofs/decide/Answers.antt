-- Each way out is one case of the laws on answers 19, 20, 23 and 14 to 16.
use mathlib.Core.Path.{sym, ◌∙◌}
use Rattle.flatness.proofs.RowAcross.{crossed, flat_is}
use Rattle.verdict.proofs.VerdictAnswers.{countable, lost_is, one_told, has_room}
use Rattle.verdict.proofs.VerdictAnswers.{gives_19, gives_20, gives_23, gives_14, gives_15, gives_16, gives_0}
use Rattle.verdict.proofs.decide.Goals as goal

pub not_flat-requires : goal.not_flat-requires
not_flat-requires c = crossed c.args.edge.now

pub returns-then-not_flat : goal.returns-then-not_flat
returns-then-not_flat c = gives_19 c.args.edge.now (sym (c.not_flat.ensures ∙ flat_is c.args.edge.now) ∙ c.if-not_flat.true)

pub returns-in_default : goal.returns-in_default
returns-in_default c =
    gives_20 c.args.edge.now _ c.requires (sym (c.not_flat.ensures ∙ flat_is c.args.edge.now) ∙ c.if-not_flat.false) c.in_default.is

pub returns-then-mark_goes : goal.returns-then-mark_goes
returns-then-mark_goes c =
    let edge = c.args.edge.now in
    let (one, own) = one_told edge _ c.requires _ c.in-One.is in
    gives_23 edge (sym (c.not_flat.ensures ∙ flat_is c.args.edge.now) ∙ c.if-not_flat.false) one (lost_is edge _ c.mark_goes.ensures ∙ c.if-mark_goes.true)

pub rows_after-requires : goal.rows_after-requires
rows_after-requires c = countable c.args.edge.now

pub returns-then-rows_after-gt-MAX_ROWS : goal.returns-then-rows_after-gt-MAX_ROWS
returns-then-rows_after-gt-MAX_ROWS c =
    let edge = c.args.edge.now in
    let (one, own) = one_told edge _ c.requires _ c.in-One.is in
    gives_14 edge (sym (c.not_flat.ensures ∙ flat_is c.args.edge.now) ∙ c.if-not_flat.false) one (lost_is edge _ c.mark_goes.ensures ∙ c.if-mark_goes.false) _
    c.rows_after.ensures c.if-rows_after-gt-MAX_ROWS.true

pub returns-in_default-best_way : goal.returns-in_default-best_way
returns-in_default-best_way c =
    let edge = c.args.edge.now in
    let (one, own) = one_told edge _ c.requires _ c.in-One.is in
    gives_15 edge (sym (c.not_flat.ensures ∙ flat_is c.args.edge.now) ∙ c.if-not_flat.false) one (lost_is edge _ c.mark_goes.ensures ∙ c.if-mark_goes.false)
    (has_room edge _ c.rows_after.ensures c.if-rows_after-gt-MAX_ROWS.false) _ c.best_way.ensures c.in_default-best_way.is

pub returns-then-not-worse : goal.returns-then-not-worse
returns-then-not-worse c =
    let edge = c.args.edge.now in
    let (one, own) = one_told edge _ c.requires _ c.in-One.is in
    gives_16 edge (sym (c.not_flat.ensures ∙ flat_is c.args.edge.now) ∙ c.if-not_flat.false) one (lost_is edge _ c.mark_goes.ensures ∙ c.if-mark_goes.false)
    (has_room edge _ c.rows_after.ensures c.if-rows_after-gt-MAX_ROWS.false) _ c.best_way.ensures _ c.in-Some.is _ c.worst_held-now.ensures
    (sym c.worse.ensures ∙ c.if-not-worse.true)

pub returns : goal.returns
returns c =
    let edge = c.args.edge.now in
    let (one, own) = one_told edge _ c.requires _ c.in-One.is in
    gives_0 edge (sym (c.not_flat.ensures ∙ flat_is c.args.edge.now) ∙ c.if-not_flat.false) one (lost_is edge _ c.mark_goes.ensures ∙ c.if-mark_goes.false)
    (has_room edge _ c.rows_after.ensures c.if-rows_after-gt-MAX_ROWS.false) _ c.best_way.ensures _ c.in-Some.is _ c.worst_held-now.ensures
    (sym c.worse.ensures ∙ c.if-not-worse.false) _ own
