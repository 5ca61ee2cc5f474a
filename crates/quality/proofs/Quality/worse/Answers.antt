-- `Quality::worse` is `worse`: the two orders of sizes are the two sides of the order of signed fractions.
use Rattle.quality.proofs.SidesOfZero.{worse_is}
use Rattle.quality.proofs.Quality.worse.Goals as goal

pub returns-then-less : goal.returns-then-less
returns-then-less c =
    rw (worse_is c.args.self c.args.other, ← c.over.ensures, ← c.over-2.ensures, ← c.less.ensures, c.if-less.true)

pub returns-else-less : goal.returns-else-less
returns-else-less c =
    rw (
      worse_is c.args.self c.args.other,
      ← c.over.ensures,
      ← c.over-2.ensures,
      ← c.less.ensures,
      c.if-less.false,
      ← c.under.ensures,
      ← c.under-else-less.ensures,
      ← c.less-else-less.ensures,
    )
