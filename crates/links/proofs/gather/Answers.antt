-- `gather` takes the rows in order, and adds the place, the link and the region of each that holds both ends.
use mathlib.Core.Path.{◌≡◌, refl, sym, ap, ◌∙◌}
use native.Mathlib.Omega.{arith}
use lib.ListN.{length, length-map}
use Rattle.lists.specs.Lists.{those, numbers_from}
use Rattle.lists.proofs.Tests.{is_yes}
use Rattle.rows.specs.Rows.{rows_in, holds_edge}
use Rattle.rows.proofs.RegionsRowByRow.{none_met}
use Rattle.links.specs.Steps.{links_in, places_in}
use Rattle.links.specs.Links.{link}
use Rattle.links.proofs.LinksRowByRow.{row_fits_lem, table_more, table_same, places_more, places_same, regions_more, regions_same}
use Rattle.links.proofs.LinkArrays.{in_length}
use Rattle.links.proofs.gather.Goals.{then-holds_edge, else-holds_edge}
use Rattle.links.proofs.gather.Goals as goal

pub loop-i-init : goal.loop-i-init
unfolding links_in rows_in numbers_from those
loop-i-init c = (omega arith, omega arith, refl, refl, sym none_met)

pub overflow_cast-i : goal.overflow_cast-i
overflow_cast-i c = omega (arith, c.requires.few)

pub link_of-requires : goal.link_of-requires
link_of-requires c =
    let pre = c.requires in
    let table = c.args.table.now in
    record {
      count = pre.count;
      fits =
          rw c.row_in-row.ensures
          (row_fits_lem pre.count table c.args.n c.loop-i.i pre.rule (omega arith));
      apart = λ e. omega (arith, pre.order);
      held = is_yes _ (sym c.holds_edge.ensures ∙ c.if-holds_edge.true);
    }

pub loop-i-preserved : goal.loop-i-preserved
loop-i-preserved c =
    let args = c.args in
    let row = c.row_in-row.ensures in
    let held = c.holds_edge.ensures in
    let many : c.loop-i.links.n ≡ length (those (holds_edge args.a args.b) (rows_in args.table.now c.loop-i.i)) =
    sym (in_length c.loop-i.links) ∙ ap length c.loop-i.invariant.2
    ∙ length-map (those (holds_edge args.a args.b) (rows_in args.table.now c.loop-i.i)) (link args.a args.b) in
    elim c.if-holds_edge.branch [
      | then-holds_edge w ↦ (
        omega arith,
        omega (arith, ap (λ links. links.n) w.links-is, w.added-links.ensures.0),
        ap links_in w.links-is ∙ w.added-links.ensures.1 ∙ table_more args.a args.b args.table.now c.loop-i.i
            c.loop-i.invariant.2 row (sym held ∙ w.if-holds_edge.true) w.link_of.ensures,
        ap places_in w.links-is ∙ w.added-links.ensures.2
            ∙ places_more args.a args.b args.table.now c.loop-i.i c.loop-i.invariant.3 row (sym held ∙ w.if-holds_edge.true),
        w.regions-is ∙ w.joined-regions.ensures
            ∙ regions_more args.a args.b args.table.now c.loop-i.i c.loop-i.links.n c.loop-i.invariant.4 row many
            (sym held ∙ w.if-holds_edge.true),
      )
      | else-holds_edge w ↦ (
        omega arith,
        omega (arith, ap (λ links. links.n) w.links-is),
        ap links_in w.links-is ∙ table_same args.a args.b args.table.now c.loop-i.i c.loop-i.invariant.2 row (sym held ∙ w.if-holds_edge.false),
        ap places_in w.links-is ∙ places_same args.a args.b args.table.now c.loop-i.i c.loop-i.invariant.3 row (sym held ∙ w.if-holds_edge.false),
        w.regions-is
            ∙ regions_same args.a args.b args.table.now c.loop-i.i c.loop-i.links.n c.loop-i.invariant.4 row
            (sym held ∙ w.if-holds_edge.false),
      )
    ]

pub returns : goal.returns
returns c =
    let e : c.loop-i.i ≡ c.args.n = omega arith in
    (omega (arith, c.requires.few), rw e at c.loop-i.invariant.2, rw e at c.loop-i.invariant.3, rw e at c.loop-i.invariant.4)
