-- `worst_of_two` measures the two rows over their five places.
use Rattle.candidates.specs.Steps.{worst_over}
use Rattle.candidates.proofs.worst_of_two.Goals as goal

pub returns : goal.returns
unfolding worst_over
returns c =
    let two = c.of-2 in
    rw (
      c.worse_of.ensures,
      c.of.ensures,
      two.ensures,
      c.point_in-b.ensures,
      c.point_in-z.ensures,
      c.point_in-y.ensures,
      c.point_in-x.ensures,
      c.point_in-a.ensures,
    )
