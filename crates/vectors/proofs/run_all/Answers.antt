-- Of each record that is read whole the counts have one more; they are those of whole records at the start, and where the file ends.
use Rattle.std.proofs.Common.{◌≡◌, length, rules}
use Rattle.records.specs.Records.{record_bytes}
use Rattle.vectors.proofs.RecordsCounted.{none_counted, one_counted}
use Rattle.vectors.proofs.run_all.Goals as goal

pub loop-init : goal.loop-init
loop-init g c = none_counted _ c.no_cases-counts.ensures

pub loop-preserved : goal.loop-preserved
loop-preserved g c =
    let stored = c.read_full.new.buf in
    let size : length stored ≡ record_bytes = search rules in
    one_counted _ _ stored c.loop.invariant size c.with_record-counts.ensures
