-- What a block that opens and an edge without answers 9 to 12 give: a sound ring, or a sound chain, and ends that fit.
use Prim.Native.Nat.{ℕ, ◌+◌, ◌≤◌, ◌<◌}
use mathlib.Core.Bool.{Bool, true, false, cond}
use mathlib.Core.List.{List, [], ◌∷◌, Memᴰ}
use mathlib.Core.Path.{◌≡◌}
use native.Mathlib.Omega.{arith}
use borrow.Author.Tests.{eqb-false}
use lib.Dec.{T}
use lib.ListN.{length}
use Rattle.mesh.specs.Mesh.{keeps_mesh_rule}
use Rattle.layout.specs.Layout.{fields_of}
use Rattle.block.specs.Opening.{open_answer}
use Rattle.block.proofs.RightBlocks.{right_block}
use Rattle.ring.specs.Ring.{Site, site_of, m, numbers_wrong}
use Rattle.ring.specs.SoundRing.{SoundRing}
use Rattle.ring.proofs.EdgeGoesRound.{OneRound, PointFits, tests_passed, numbers_right, site_point}
use Rattle.ring.proofs.RingIsSound.{sound_ring}
use Rattle.calls.specs.Removing.{Sound}

-- a block that opens keeps the mesh rule
pub opens_rule : (block : List ℕ) → open_answer block ≡ 0 → T (keeps_mesh_rule (length (fields_of block).points) (fields_of block).rows)
opens_rule block opens = (right_block block opens).body.rule

module _ (block : List ℕ) (e f : ℕ) (sound : Sound block e f) where
  abbrev pub the_site : Site
  the_site = site_of (fields_of block) e f

  abbrev pub point_count_of : ℕ
  point_count_of = length (fields_of block).points

  rule : T (keeps_mesh_rule point_count_of (fields_of block).rows)
  rule = opens_rule block sound.opens

  passes : (numbers_wrong point_count_of (e ∷ f ∷ []) ≡ false) × OneRound the_site
  unfolding site_of
  passes = tests_passed the_site e f sound.one

  pub ends_fit : (e < point_count_of) × (f < point_count_of) × (e ≡ f → ⊥)
  ends_fit = numbers_right point_count_of e f passes.0

  -- the ring, or the chain, is sound
  pub sound_site : SoundRing the_site
  sound_site = sound_ring (fields_of block) e f ends_fit.2 rule passes.1

  -- a < b, both below the count
  pub site_ends : (the_site.a < the_site.b) × (the_site.b < point_count_of)
  unfolding site_of
  site_ends = let (a, b, c) = ends_fit in (omega arith, omega arith)

  -- some row goes
  pub some_removed : 0 < length the_site.removed
  some_removed = let d = eqb-false (length the_site.removed) 0 passes.1.held in omega arith

  -- a point of the ring, or of the chain, is below the count and neither a nor b
  pub ring_point : {v : ℕ} → Memᴰ v the_site.ring → PointFits point_count_of the_site.a the_site.b v
  unfolding site_of
  ring_point k = site_point point_count_of (fields_of block) e f ends_fit.2 rule passes.1 k

-- of a ring or a chain of three points at least two rows go
pub two_go : (site : Site) → SoundRing site → m site ≡ 3 → 2 ≤ length site.removed
two_go site sound three = go site.closed sound.size
  where
    go : (closed : Bool) → length site.removed + cond closed 0 1 ≡ m site → 2 ≤ length site.removed
    go true size = omega arith
    go false size = omega arith
