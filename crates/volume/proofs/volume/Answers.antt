-- `volume::volume` is D: the determinant of the arrows from s; the bound is that of bytes.
use mathlib.Core.Path.{refl}
use native.Mathlib.Omega.{arith}
use Rattle.volume.specs.Volume.{D}
use Rattle.volume.proofs.VolumeComputed.{read}
use Rattle.volume.proofs.VolumeBounds.{D_of_bytes}
use Rattle.volume.proofs.volume.Goals as goal

pub returns : goal.returns
unfolding D
returns c =
    let a = c.args in
    let bytes = c.well_formed in
    rw (read c.determinant.type_inv c.determinant.ensures, c.beyond.ensures, c.beyond-2.ensures, c.beyond-3.ensures)
    (refl, D_of_bytes a.p a.q a.r a.s (omega (arith, bytes)) (omega (arith, bytes)) (omega (arith, bytes)) (omega (arith, bytes)))
