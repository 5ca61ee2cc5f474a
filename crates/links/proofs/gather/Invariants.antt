use Prim.Native.Nat.{◌≤◌, ◌-◌}
use mathlib.Core.Path.{◌≡◌}
use Rattle.lists.specs.Lists.{those}
use Rattle.rows.specs.Rows.{rows_in, holds_edge}
use Rattle.rows.specs.Steps.{regions_of}
use Rattle.links.specs.Steps.{links_in, places_in, places_of}
use Rattle.links.specs.Links.{links_of}
use Rattle.links.proofs.gather.Given as goal

abbrev pub invariant-loop-i : goal.invariant-loop-i
invariant-loop-i l =
    (l.i ≤ l.n) × (l.links.n ≤ l.i) × (links_in l.links ≡ links_of l.a l.b (rows_in l.table l.i)) × (places_in l.links ≡ places_of l.a l.b l.table l.i)
    × (l.regions ≡ regions_of (those (holds_edge l.a l.b) (rows_in l.table l.i)))

abbrev pub decreases-loop-i : goal.decreases-loop-i
decreases-loop-i l = l.n - l.i
