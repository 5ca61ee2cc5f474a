-- `probes::probe_score` is the score of the upright quality: the casts keep it.
use Rattle.probes.proofs.probe_score.Goals as goal

pub returns : goal.returns
returns c = rw (c.value.ensures, c.of.ensures, c.of_parts.ensures)
