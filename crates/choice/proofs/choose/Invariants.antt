use Prim.Native.Nat.{suc, ◌≤◌, ◌<◌, ◌-◌}
use mathlib.Core.Path.{◌≡◌}
use Rattle.ring.specs.Ring.{Site, m}
use Rattle.triangulation.specs.Steps.{candidate, leading}
use Rattle.kept_faces.specs.Steps.{SiteRim}
use Rattle.choice.specs.Steps.{Smaller}
use Rattle.cells.specs.Steps.{best_in, option_of}
use Rattle.choice.proofs.choose.Given as goal

abbrev pub invariant-loop-k : goal.invariant-loop-k
invariant-loop-k l =
    (l.i < l.k) × (l.k ≤ l.j)
    × ((site : Site)
    → SiteRim site l.coordinates l.rim l.keys
    → l.j ≤ m site
    → Smaller site l.table l.used l.i l.j
    → option_of l.found ≡ leading (λ k. candidate site (best_in l.table) l.i k l.j) (suc l.i) (l.k - suc l.i))

abbrev pub decreases-loop-k : goal.decreases-loop-k
decreases-loop-k l = l.j - l.k
