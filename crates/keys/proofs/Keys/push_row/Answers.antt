-- The four faces, one after the other, in their order.
use Prim.Native.Nat.{◌+◌, ◌≤◌}
use mathlib.Core.Path.{ap, ◌∙◌}
use native.Mathlib.Omega.{arith}
use lib.ListN.{length}
use lib.Seq.{length-take-le}
use Rattle.mesh.specs.Mesh.{faces}
use Rattle.keys.proofs.FourStored.{four_stored}
use Rattle.keys.proofs.Keys.push_row.Goals as goal

pub returns : goal.returns
unfolding faces
returns c =
    let all = c.self.inside.all in
    let at = c.self.inside.n in
    let size = length-take-le at all (omega arith) in
    let room : at + 4 ≤ length all = omega (arith, ap length c.self.view_is) in
    four_stored all at room c.face_key.result c.face_key-2.result c.face_key-3.result c.face_key-4.result
    ∙ rw (c.self.view_is, c.face_key.ensures, c.face_key-2.ensures, c.face_key-3.ensures, c.face_key-4.ensures)
