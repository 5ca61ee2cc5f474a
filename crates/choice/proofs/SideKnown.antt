-- What stands beside a side of a triangle, by what the cells that are filled keep.
use Prim.Native.Nat.{ℕ, ◌+◌, ◌-◌, ◌≤◌}
use mathlib.Core.Bool.{Bool, true, false, cond}
use mathlib.Core.List.{List}
use mathlib.Core.Option.{Option, none, some, map}
use mathlib.Core.Path.{◌≡◌, refl, ap, ◌∙◌}
use native.Mathlib.Omega.{arith}
use lib.Dec.{leb, nleb→lt}
use lib.ListN.{get_or}
use Rattle.lists.specs.Lists.{any}
use Rattle.lists.proofs.Tests.{is_no}
use Rattle.quality.specs.declared.Quality.{Quality}
use Rattle.quality.specs.Quality.{worse_of}
use Rattle.ring.specs.Ring.{Site}
use Rattle.candidates.specs.declared.Side.TheVariants.{Neighbours, Barred}
use Rattle.triangulation.specs.Admissible.{kept_uses, diagonal_faces}
use Rattle.cells.specs.declared.Table.{Table}
use Rattle.cells.specs.Steps.{cell_at, best_in}
use Rattle.candidates.specs.Steps.{read_side, beside_of}
use Rattle.choice.specs.Steps.{KnownIn}
use Rattle.triangulation.specs.Steps.{beside}
use Rattle.candidates.proofs.SideRead.{side_of}

module _ (table : Table) (used : List Bool) (i j : ℕ) where
  abbrev read : Option Quality
  read = best_in table i j

  -- what stands beside a side, by what is read
  pub side_is : (site : Site) (q : Quality) → (i + 2 ≤ j → KnownIn site table used i j)
      → beside_of (read_side table used i j) q ≡ beside site (best_in table) i j q
  unfolding read_side beside
  side_is site q known = go (leb (j - i) 1) refl
    where
      inner : (u : Bool) (o : Option Quality) → beside_of (cond u Barred (side_of o)) q ≡ cond u none (map (worse_of q) o)
      inner true o = refl
      inner false none = refl
      inner false (some r) = refl

      go : (b : Bool) → leb (j - i) 1 ≡ b
          → beside_of (cond b Neighbours (cond (get_or used (cell_at i j) false) Barred (side_of read))) q
          ≡ cond b (some q) (cond (any (kept_uses site) (diagonal_faces site (i, j))) none (map (worse_of q) read))
      go true e = refl
      go false e =
          let k = known (omega (arith, nleb→lt (j - i) 1 (is_no (leb (j - i) 1) e))) in
          inner (get_or used (cell_at i j) false) read ∙ ap (λ u. cond u none (map (worse_of q) read)) k.used
