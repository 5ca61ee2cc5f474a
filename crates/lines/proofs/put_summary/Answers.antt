-- `put_summary` puts five fields and the end of the line.
use mathlib.Core.Path.{◌≡◌, ◌∙◌}
use Rattle.std.proofs.Common.{rules}
use Rattle.std.proofs.lemmas.Iterator.Adapters.{option_map_id}
use Rattle.std.specs.Prelude.{option_map}
use Rattle.lines.specs.Lines.{summary_fields}
use Rattle.lines.proofs.FieldsOfALine.{field_put, end_put}
use Rattle.lines.proofs.put_summary.Goals as goal

pub returns : goal.returns
unfolding summary_fields
returns c =
    let summary = c.args.summary in
    let score : c.map.result ≡ option_map (λ score. score.value) summary.worst = search rules in
    let octave : c.map-2.result ≡ option_map (λ n. n) summary.octave = search rules in
    field_put _ _ c.put_number-upright.ensures
    (field_put _ _ c.put_number-flat.ensures
    (field_put _ _ c.put_number-inverted.ensures
    (field_put _ _ (rw score at c.put_number_or_mark-score.ensures)
    (field_put _ _ (rw (octave ∙ option_map_id summary.octave) at c.put_number_or_mark.ensures) (end_put c.put_end.ensures)))))
