-- `face_key` takes the least of the three turns.
use borrow.Author.Rules.{rules}
use Rattle.keys.specs.Steps.{face_key}
use Rattle.keys.proofs.face_key.Goals as goal

pub returns : goal.returns
unfolding face_key
returns c = search rules
