-- `probes::probe_ring` is the length of the ring.
use mathlib.Core.Path.{ap}
use Rattle.ring.specs.declared.Ring.{Ring}
use Rattle.probes.proofs.probe_ring.Goals as goal

pub returns : goal.returns
returns c = ap (λ (ring : Ring). ring.m) c.ring_at-ring.ensures
