-- `put_byte` stores a byte behind the text, or leaves a full text as it is.
use Rattle.text.proofs.BytesBehindAText.{byte_dropped, byte_put}
use Rattle.text.proofs.put_byte.Goals as goal

pub returns-then-n-ge-TEXT_BYTES : goal.returns-then-n-ge-TEXT_BYTES
returns-then-n-ge-TEXT_BYTES c = byte_dropped _ _ c.if-n-ge-TEXT_BYTES.true

pub returns : goal.returns
returns c = byte_put _ _ c.if-n-ge-TEXT_BYTES.false
