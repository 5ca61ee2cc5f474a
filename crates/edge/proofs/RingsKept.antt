-- What a `RingedEdge` keeps of its ring or chain says as much as `Ringed`: each part of its sound ring or chain can be had again.
use Prim.Native.Nat.{ℕ, suc, ◌≤◌}
use mathlib.Core.Bool.{Bool}
use mathlib.Core.List.Memᴰ
use mathlib.Core.List.{List, Memᴰ}
use mathlib.Core.Logic.{∥∥₁_elim}
use mathlib.Core.Path.{refl, ap, ap₂}
use native.Mathlib.Omega.{arith}
use lib.Dec.{T, T_prop}
use lib.ListN.{length}
use Rattle.std.proofs.Math.Nat.{ℕ_set}
use Rattle.lists.proofs.Lists.{any_i, any_e}
use Rattle.lists.proofs.Counts.{count_split}
use Rattle.volume.proofs.PointsInBytes.{points_length}
use Rattle.rows.specs.declared.Row.{Row}
use Rattle.rows.specs.Rows.{rows_in, holds_edge}
use Rattle.mesh.specs.Mesh.{Face, uses, keeps_mesh_rule}
use Rattle.mesh.proofs.FacesCounted.{hits}
use Rattle.mesh.proofs.MeshRuleStated.{keeps_hits, hits_keep}
use Rattle.links.specs.Links.{Link}
use Rattle.ring.specs.declared.Ring.{Ring}
use Rattle.ring.specs.Ring.{Site, site_of}
use Rattle.ring.specs.SoundRing.{SoundRing, point_after}
use Rattle.triangulation.specs.Steps.{site_in}
use Rattle.triangulation.proofs.TreesTriangulate.{same_side, side→, →side}
use Rattle.edge.specs.Steps.{Ringed, RingedFact}

-- what stands among the links, as a truncated fact tells, stands among them
link_kept : {A : Type 0} (link : Link) (links : List Link) → ∥ A ∥₁ → (A → Memᴰ link links) → Memᴰ link links
link_kept link links kept stands =
    let (other, there, alike) = any_e (same_side link) links
    (∥∥₁_elim kept (T_prop _) (λ a. any_i (same_side link) links (stands a) (→side link link refl refl))) in
    let (first, second) = side→ link other alike in
    Memᴰ.cast (ap₂ (λ (v w : ℕ). (v, w)) first second) there

module _ {coordinates : List ℕ} {count : ℕ} {table : List ℕ} {n a b : ℕ} {closed : Bool} {ring : Ring}
    (given : RingedFact coordinates count table n a b closed ring) where
  abbrev its : Site
  its = site_in coordinates count table n a b

  abbrev rows : List Row
  rows = rows_in table n

  -- no directed face stands in two rows, since those that go and those that stay are all of the table
  once : SoundRing its → (f : Face) → hits f rows ≤ 1
  unfolding site_of
  once sound f =
      let chain = sound.chain in
      omega (
        arith,
        count_split (uses f) (holds_edge its.a its.b) rows,
        count_split (uses f) (holds_edge its.a its.b) chain.table,
        ap (hits f) chain.going,
        ap (hits f) chain.staying,
        keeps_hits (length its.points) chain.table chain.meshed f,
      )

  rule : T (keeps_mesh_rule (length its.points) rows)
  unfolding site_of
  rule =
      ∥∥₁_elim given.sound (T_prop _) (λ sound.
      hits_keep (length its.points) rows (rw (points_length coordinates count) given.measured.proper) (once sound))

  pub ringed_of : Ringed coordinates count table n a b closed ring
  unfolding site_of
  ringed_of = record {
    ready = given.ready;
    measured = given.measured;
    sound = record {
      chain = record {
        ordered = omega (arith, given.ready.ordered);
        table = rows;
        meshed = rule;
        going = refl;
        staying = refl;
        linked = refl;
        steps = λ i h. link_kept (point_after its i, point_after its (suc i)) its.links given.sound (λ sound. sound.chain.steps i h);
        different = λ i j h k q. ∥∥₁_elim given.sound (ℕ_set _ _) (λ sound. sound.chain.different i j h k q);
      };
      closing = λ c i h. link_kept (point_after its i, point_after its 0) its.links given.sound (λ sound. sound.closing c i h);
      size = ∥∥₁_elim given.sound (ℕ_set _ _) (λ sound. sound.size);
    };
    agrees = given.agrees;
  }
