-- `put_row` puts the word, the five bytes of the row and the end of the line.
use Rattle.lines.specs.Lines.{text, line}
use Rattle.text.proofs.BytesBehindAText.{then_put}
use Rattle.lines.proofs.FieldsOfALine.{field_put, end_put}
use Rattle.lines.proofs.put_row.Goals as goal

pub returns : goal.returns
unfolding line text
returns c =
    then_put c.put_word-word.ensures
    (field_put _ _ c.put_number-p.ensures
    (field_put _ _ c.put_number-q.ensures
    (field_put _ _ c.put_number-r.ensures
    (field_put _ _ c.put_number-s.ensures
    (field_put _ _ c.put_number.ensures (end_put c.put_end.ensures))))))
