-- `volume::squared_length` is the sum of three squares of entries.
use mathlib.Core.Path.{ap, ◌∙◌}
use Prim.Native.Nat.{◌+◌, ◌^◌}
use lib.IntN.{nat_abs}
use native.Mathlib.Nat.{pow-le-pow_left}
use native.Mathlib.Omega.{arith}
use Rattle.volume.specs.Volume.{Arrow, squared_length}
use Rattle.volume.proofs.VolumeFits.{entry_read}
use Rattle.volume.proofs.squared_length.Goals as goal

pub returns : goal.returns
unfolding squared_length
returns c =
    let u = c.u.inside in
    let most = c.u.invariant in
    rw (
      c.square.ensures,
      c.square-2.ensures,
      c.square-3.ensures,
      entry_read u.x most.0,
      entry_read u.y most.1,
      entry_read u.z most.2,
    ) (
      ap (λ (a : Arrow). nat_abs a.0 ^ 2 + nat_abs a.1 ^ 2 + nat_abs a.2 ^ 2) (c.u.view_is ∙ c.beyond-u.ensures),
      omega (arith, pow-le-pow_left most.0 2, pow-le-pow_left most.1 2, pow-le-pow_left most.2 2),
    )
