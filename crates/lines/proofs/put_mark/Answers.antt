-- `put_mark` puts a space and the mark.
use Rattle.lines.specs.Lines.{text, spaced, mark}
use Rattle.lines.proofs.put_mark.Goals as goal

pub returns : goal.returns
unfolding spaced mark text
returns c = c.put_word.ensures
