-- The summary is the definition's.
use Rattle.agreement.proofs.summary_agrees.Goals as goal

pub returns : goal.returns
returns c = rw c.summary.ensures at c.summarised_is.ensures
