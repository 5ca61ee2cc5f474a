-- A table that keeps the mesh rule and links that go round the edge make a sound ring or chain: the premise of what is shown of its
-- triangulations. So it is where answers 9 to 12 are not given.
use Prim.Native.Nat.{ℕ, suc, ◌+◌, ◌<◌}
use mathlib.Core.Bool.{Bool, true, false, cond, not}
use mathlib.Core.List.{List, map, Memᴰ}
use mathlib.Core.Path.{◌≡◌, refl, ap, subst}
use native.Mathlib.Omega.{arith}
use borrow.Author.Tests.{eq-eqb, ne_eqb}
use lib.Dec.{T}
use lib.ListN.{length, get_or, length-map}
use Rattle.lists.specs.Lists.{those}
use Rattle.lists.proofs.Numbers.{different_places}
use Rattle.rows.specs.declared.Row.{Row}
use Rattle.rows.specs.Rows.{holds_edge}
use Rattle.mesh.specs.Mesh.{keeps_mesh_rule}
use Rattle.layout.specs.Layout.{Patch}
use Rattle.links.specs.Links.{Link, link}
use Rattle.ring.specs.Ring.{Site, site_of}
use Rattle.ring.specs.SoundRing.{SoundRing}
use Rattle.ring.proofs.OneRing.{GoesRound}
use Rattle.ring.proofs.EdgeGoesRound.{OneRound, site_goes_round}

-- the next point is the one behind, but for the last
module _ (links : List Link) (closed : Bool) (ring : List ℕ) (round : GoesRound links closed ring) where
  step_linked : (i : ℕ) → suc i < length ring → Memᴰ (get_or ring i 0, get_or ring (suc i) 0) links
  step_linked i h =
      rw (ne_eqb (suc i) (length ring) (λ e. omega arith)) at (round.linked i (before closed round.size))
    where
      before : (c : Bool) → length ring ≡ length links + cond c 0 1 → i < length links
      before true e = omega arith
      before false e = omega arith

  last_linked : closed ≡ true → (i : ℕ) → suc i ≡ length ring → Memᴰ (get_or ring i 0, get_or ring 0 0) links
  last_linked c i h =
      let size = subst (λ c. length ring ≡ length links + cond c 0 1) c round.size in
      rw (eq-eqb (suc i) (length ring) h) at (round.linked i (omega arith))

module _ (site : Site) (ordered : site.a < site.b) (table : List Row) (rule : T (keeps_mesh_rule (length site.points) table))
    (going : site.removed ≡ those (holds_edge site.a site.b) table)
    (staying : site.kept ≡ those (λ row. not (holds_edge site.a site.b row)) table)
    (linked : site.links ≡ map (link site.a site.b) site.removed)
    (round : GoesRound site.links site.closed site.ring) where
  pub round_sound : SoundRing site
  round_sound = record {
    chain = record {
      ordered = ordered;
      table = table;
      meshed = rule;
      going = going;
      staying = staying;
      linked = linked;
      steps = step_linked site.links site.closed site.ring round;
      different = λ i j h k q. different_places site.ring 0 i j round.apart h k q;
    };
    closing = last_linked site.links site.closed site.ring round;
    size = omega (arith, round.size, ap length linked, length-map site.removed (link site.a site.b));
  }

pub sound_ring : (patch : Patch) (e f : ℕ) → (e ≡ f → ⊥) → T (keeps_mesh_rule (length patch.points) patch.rows)
    → OneRound (site_of patch e f) → SoundRing (site_of patch e f)
unfolding site_of
sound_ring patch e f apart rule one =
    round_sound (site_of patch e f) (omega arith) patch.rows rule refl refl refl
    (site_goes_round (length patch.points) patch e f apart rule one)
