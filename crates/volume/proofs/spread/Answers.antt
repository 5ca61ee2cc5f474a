-- `volume::spread` is S, the sum of six squared lengths; the bound is that of bytes.
use mathlib.Core.Path.{refl}
use native.Mathlib.Omega.{arith}
use Rattle.volume.specs.Volume.{S}
use Rattle.volume.proofs.VolumeBounds.{S_of_bytes}
use Rattle.volume.proofs.spread.Goals as goal

pub returns : goal.returns
unfolding S
returns c =
    let a = c.args in
    let bytes = c.well_formed in
    rw (
      c.squared_length.ensures.0,
      c.squared_length-2.ensures.0,
      c.squared_length-3.ensures.0,
      c.squared_length-4.ensures.0,
      c.squared_length-5.ensures.0,
      c.squared_length-6.ensures.0,
    )
    (refl, S_of_bytes a.p a.q a.r a.s (omega (arith, bytes)) (omega (arith, bytes)) (omega (arith, bytes)) (omega (arith, bytes)))
