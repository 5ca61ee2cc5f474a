-- `volume::square` is the square of its number's size: in i64 it fits, and it is not negative.
use borrow.Author.Rules.{rules}
use Rattle.volume.proofs.VolumeFits.{square_fits, square_cast, square_size}
use Rattle.volume.proofs.square.Goals as goal

pub overflow_mul-result : goal.overflow_mul-result
overflow_mul-result c = search (rules, square_fits)

pub overflow_cast-result : goal.overflow_cast-result
overflow_cast-result c = search (rules, square_fits, square_cast)

pub returns : goal.returns
returns c = search (rules, square_fits, square_size)
