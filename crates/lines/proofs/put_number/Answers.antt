-- `put_number` puts a space and the number.
use Rattle.lines.specs.Lines.{text, spaced}
use Rattle.text.proofs.BytesBehindAText.{then_put}
use Rattle.lines.proofs.put_number.Goals as goal

pub returns : goal.returns
unfolding spaced text
returns c = then_put c.put_byte.ensures c.put_decimal.ensures
