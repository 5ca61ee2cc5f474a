-- What is counted is whether the record's own call gives what is stored.
use Rattle.std.proofs.Common.{ap, ◌∙◌}
use Rattle.records.specs.Records.{call_in, answer_in}
use Rattle.counts.specs.CaseCounts.{counted}
use Rattle.vectors.proofs.with_record.Goals as goal

pub returns : goal.returns
returns c =
    let stored = c.args.stored.now in
    c.with_case.ensures ∙ ap (counted c.args.counts (call_in stored) (answer_in stored)) c.agrees-agreed.ensures
