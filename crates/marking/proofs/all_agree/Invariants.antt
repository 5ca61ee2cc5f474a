use mathlib.Core.Bool.{true}
use mathlib.Core.Path.{◌≡◌}
use Rattle.lists.specs.Lists.{every}
use Rattle.rows.specs.Rows.{rows_in}
use Rattle.marking.proofs.AgreeByKeys.{row_test}
use Rattle.marking.proofs.all_agree.Given as goal

abbrev pub invariant-loop-i : goal.invariant-loop-i
invariant-loop-i l = every (row_test l.keys) (rows_in l.table l.i) ≡ true
