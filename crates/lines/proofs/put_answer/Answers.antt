-- `put_answer` puts the word, the number and the end of the line.
use Rattle.lines.specs.Lines.{text, line}
use Rattle.text.proofs.BytesBehindAText.{then_put}
use Rattle.lines.proofs.FieldsOfALine.{field_put, end_put}
use Rattle.lines.proofs.put_answer.Goals as goal

pub returns : goal.returns
unfolding line text
returns c =
    then_put c.put_word.ensures
    (field_put _ _ c.put_number.ensures (end_put c.put_end.ensures))
