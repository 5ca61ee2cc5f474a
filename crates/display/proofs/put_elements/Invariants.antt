use mathlib.Core.Path.{◌≡◌}
use Rattle.tally.specs.Patches.{patch_of}
use Rattle.display.proofs.ElementsInOrder.{up_to}
use Rattle.display.proofs.put_elements.Given as goal

abbrev pub invariant-loop-i : goal.invariant-loop-i
invariant-loop-i l = l.out ≡ up_to (patch_of l.rows) l.initial.out l.i
