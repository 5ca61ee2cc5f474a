use lib.ListN.{take}
use Rattle.text.specs.Steps.{Behind}
use Rattle.text.proofs.put_word.Given as goal

-- the bytes so far stand behind the text
abbrev pub invariant-loop-byte : goal.invariant-loop-byte
invariant-loop-byte l = Behind l.initial.longer (take l.byte-index l.word) l.longer
