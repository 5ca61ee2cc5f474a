-- `no_text` is zeros, none of them counted.
use mathlib.Core.Path.{refl}
use Rattle.text.specs.Texts.{text_of}
use Rattle.text.specs.Steps.{held}
use Rattle.text.proofs.no_text.Goals as goal

pub returns : goal.returns
unfolding held text_of
returns c = refl
