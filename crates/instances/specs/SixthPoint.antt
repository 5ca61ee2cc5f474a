-- Facts 8 and 9 (requirement §13) speak of a sixth point and say no place for it: the answers are the same at every place.
use Rattle.std.specs.Prelude.{ℕ, ◌≤◌, List, [], ◌∷◌, ◌≡◌}
use Rattle.rows.specs.declared.Row.{Row}
use Rattle.layout.specs.Layout.{Patch}
use Rattle.facts.specs.Facts.{at, row, answer, block_a_with}

-- block A with a sixth point at a place, and more rows
abbrev pub sixth_at : ℕ → ℕ → ℕ → List Row → Patch
sixth_at x y z rows = block_a_with (at 4 4 12) (at x y z ∷ []) rows

-- every place on the grid
pub record AnyPlace : Type 0 where
  pub fact_8 : (x y z : ℕ) → x ≤ 255 → y ≤ 255 → z ≤ 255
      → answer (sixth_at x y z (row 5 2 3 4 ∷ [])) 0 1 ≡ 15
  pub fact_9 : (x y z : ℕ) → x ≤ 255 → y ≤ 255 → z ≤ 255
      → answer (sixth_at x y z []) 0 5 ≡ 10
