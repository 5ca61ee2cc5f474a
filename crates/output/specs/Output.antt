-- Requirement §7.7 and §8: the block afterwards, from the rows that stay and the new rows behind them.
use Rattle.std.specs.Prelude.{ℕ, Bool, not, List, [], ◌∷◌}
use Rattle.lists.specs.Lists.{those}
use Rattle.volume.specs.declared.Point.{Point}
use Rattle.rows.specs.declared.Row.{Row}
use Rattle.rows.specs.Rows.{holds_face}
use Rattle.layout.specs.Layout.{Patch}

-- a row is kept that does not hold all three numbers of a face; an edge is given with its second end twice
unfoldable pub stays : ℕ → ℕ → ℕ → Row → Bool
stays x y z row = not (holds_face (x ∷ y ∷ z ∷ []) row)

-- the kept rows in order
abbrev pub staying : ℕ → ℕ → ℕ → List Row → List Row
staying x y z rows = those (stays x y z) rows

-- points stay
abbrev pub patch_with : List Point → List Row → Patch
patch_with points rows = record { points = points; rows = rows }
