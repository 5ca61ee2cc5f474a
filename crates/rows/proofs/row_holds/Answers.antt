-- `row_holds` looks for n among the four numbers.
use Rattle.std.proofs.Common.{◌∙◌}
use Rattle.lists.proofs.Numbers.{has_any}
use Rattle.rows.proofs.row_holds.Goals as goal

pub returns : goal.returns
returns c = c.contains.ensures.value ∙ has_any _ c.args.n
