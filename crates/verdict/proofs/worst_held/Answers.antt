-- The worst of the rows that hold both ends is read from the table of the edge, which can be measured.
use mathlib.Core.Path.{◌∙◌}
use Rattle.verdict.proofs.VerdictAnswers.{round_now}
use Rattle.verdict.proofs.worst_held.Goals as goal

pub of_table-requires : goal.of_table-requires
of_table-requires c = c.args.edge.now.ringed.measured

pub returns : goal.returns
returns c = c.worst_round.ensures ∙ round_now c.args.edge.now _ c.of_table.ensures
