-- `put_end` puts a newline.
use Rattle.lines.specs.Lines.{text, line_end}
use Rattle.lines.proofs.put_end.Goals as goal

pub returns : goal.returns
unfolding line_end text
returns c = c.put_byte.ensures
