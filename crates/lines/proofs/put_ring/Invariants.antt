use mathlib.Core.List.{map, flat_map}
use lib.ListN.{take}
use Rattle.lines.specs.Lines.{spaced}
use Rattle.text.specs.Decimal.{decimal}
use Rattle.text.specs.Steps.{Behind}
use Rattle.lines.proofs.put_ring.Given as goal

abbrev pub invariant-loop-point : goal.invariant-loop-point
invariant-loop-point l = Behind l.initial.line (flat_map spaced (map decimal (take l.point-index l.point-items))) l.line
