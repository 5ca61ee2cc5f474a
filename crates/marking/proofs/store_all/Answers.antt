-- The invariant of `store_all`: the keys of the marked faces of the first i rows are stored.
use mathlib.Core.Bool.{false}
use mathlib.Core.List.{flat_map}
use mathlib.Core.Path.{sym, ap, ◌∙◌}
use native.Mathlib.Numerals.{add-one}
use native.Mathlib.Omega.{arith}
use Rattle.lists.specs.Lists.{numbers_from}
use Rattle.lists.proofs.Images.{flat_map_snoc}
use Rattle.rows.specs.Rows.{row_in, rows_in}
use Rattle.rows.proofs.RowsOfTables.{rows_more}
use Rattle.marking.specs.Steps.{marked_keys, keys_marked}
use Rattle.marking.proofs.store_all.Goals as goal

pub loop-i-init : goal.loop-i-init
unfolding flat_map rows_in numbers_from
loop-i-init c = record { room = rw c.clear.ensures (omega arith); stored = c.clear.ensures }

pub loop-i-preserved : goal.loop-i-preserved
loop-i-preserved c =
    let i = c.loop-i.i in
    let table = c.args.table.now in record {
      room = omega arith;
      stored = c.store_marked.ensures.stored
          ∙ rw (c.loop-i.invariant.stored, c.row_in.ensures)
          (sym (flat_map_snoc (marked_keys false) (rows_in table i) (row_in table i))
          ∙ ap (keys_marked (λ row. false)) (sym (rows_more table i) ∙ ap (rows_in table) (sym (add-one i))));
    }
