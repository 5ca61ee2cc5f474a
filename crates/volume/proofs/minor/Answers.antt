-- `volume::minor` is a 2 by 2 determinant, and no step leaves the range of i64.
use borrow.Author.Rules.{rules}
use Rattle.volume.proofs.VolumeFits.{product_fits, minor_fits, minor_most}
use Rattle.volume.proofs.minor.Goals as goal

pub overflow_mul-result : goal.overflow_mul-result
overflow_mul-result c = search (rules, product_fits)

pub overflow_mul-result-2 : goal.overflow_mul-result-2
overflow_mul-result-2 c = search (rules, product_fits)

pub overflow_sub-result : goal.overflow_sub-result
overflow_sub-result c = search (rules, product_fits, minor_fits)

pub returns : goal.returns
returns c = search (rules, product_fits, minor_fits, minor_most)
