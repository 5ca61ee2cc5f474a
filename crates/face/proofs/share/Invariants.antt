use mathlib.Core.List.{[], ◌∷◌}
use mathlib.Core.Path.{◌≡◌}
use Rattle.rows.specs.Rows.{rows_in}
use Rattle.face.specs.Steps.{sharing_in}
use Rattle.face.proofs.share.Given as goal

abbrev pub invariant-loop-i : goal.invariant-loop-i
invariant-loop-i l = l.found ≡ sharing_in (rows_in l.table l.i) (l.x ∷ l.y ∷ l.z ∷ [])
