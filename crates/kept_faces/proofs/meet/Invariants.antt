use Prim.Native.Nat.{ℕ, ◌<◌}
use mathlib.Core.Bool.{true}
use mathlib.Core.Path.{◌≡◌}
use lib.ListN.{get_or}
use Rattle.kept_faces.specs.Steps.{met_at}
use Rattle.kept_faces.proofs.meet.Given as goal

abbrev pub invariant-loop-v : goal.invariant-loop-v
invariant-loop-v l = record {
  a : met_at l.met l.fn.rim.a ≡ true;
  b : met_at l.met l.fn.rim.b ≡ true;
  v : (k : ℕ) → k < l.v-index → met_at l.met (get_or l.v-items k 0) ≡ true;
}
