-- The side of a triangle that a cell stands for.
use Prim.Native.Nat.{ℕ, ◌+◌, ◌-◌, ◌≤◌, ◌<◌}
use mathlib.Core.Bool.{Bool, true, false}
use mathlib.Core.List.{List}
use mathlib.Core.Option.{Option, none, some}
use mathlib.Core.Path.{◌≡◌, refl}
use native.Mathlib.Omega.{arith}
use lib.Dec.{leb, le→leb, leb→le}
use lib.ListN.{get_or}
use Rattle.lists.proofs.Tests.{is_yes, yes_is}
use Rattle.quality.specs.declared.Quality.{Quality}
use Rattle.candidates.specs.declared.Side.{Side}
use Rattle.candidates.specs.declared.Side.TheVariants.{Neighbours, Diagonal, Barred}
use Rattle.cells.specs.declared.Table.{Table}
use Rattle.cells.specs.Steps.{cell_at, best_in}
use Rattle.candidates.specs.Steps.{read_side}

-- a diagonal that no kept row uses, by what its cell keeps
abbrev pub side_of : Option Quality → Side
side_of o = elim o [ none ↦ Barred | some q ↦ Diagonal q ]

module _ (table : Table) (used : List Bool) (i j : ℕ) where
  abbrev read : Option Quality
  read = best_in table i j

  pub side_near : j ≤ i + 1 → read_side table used i j ≡ Neighbours
  unfolding read_side
  side_near h = rw (yes_is (leb (j - i) 1) (le→leb (j - i) 1 (omega arith)))

  far : i + 1 < j → leb (j - i) 1 ≡ false
  far h = go (leb (j - i) 1) refl
    where
      go : (b : Bool) → leb (j - i) 1 ≡ b → b ≡ false
      go true e = absurd (omega (arith, leb→le (j - i) 1 (is_yes (leb (j - i) 1) e)))
      go false e = refl

  pub side_used_lem : i + 1 < j → get_or used (cell_at i j) false ≡ true → read_side table used i j ≡ Barred
  unfolding read_side
  side_used_lem h e = rw (far h, e)

  pub side_read : i + 1 < j → get_or used (cell_at i j) false ≡ false → (o : Option Quality) → o ≡ read
      → read_side table used i j ≡ side_of o
  unfolding read_side
  side_read h e o r = rw (far h, e, ← r)
