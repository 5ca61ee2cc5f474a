-- The third demand's premises are no narrower than what the tests pass: where 9 to 12 are not given the rows are one ring or one chain.
use Prim.Native.Nat.{ℕ, ◌-◌, min, max}
use mathlib.Core.Bool.{false, ◌||◌}
use mathlib.Core.List.{List}
use mathlib.Core.Path.{◌≡◌, sym, ap, ◌∙◌}
use native.Mathlib.Omega.{arith}
use borrow.Author.Tests.{ltb-false, not-false}
use lib.IntN.{pos}
use lib.ListN.{length, get_or}
use Rattle.lists.proofs.Counts.{some_counted}
use Rattle.volume.specs.Volume.{D}
use Rattle.rows.specs.Rows.{holds_edge}
use Rattle.rows.specs.RowMeasure.{place}
use Rattle.rows.specs.Regions.{mixed}
use Rattle.rows.proofs.RegionsOfRows.{one_region}
use Rattle.layout.specs.Layout.{block_bytes, max_rows, fields_of}
use Rattle.block.proofs.RightBlocks.{right_block}
use Rattle.ring.specs.Ring.{Site, site_of, m, flat, length_wrong, not_flat}
use Rattle.ring.proofs.EdgeGoesRound.{tests_passed, numbers_right, site_goes_round}
use Rattle.triangulation.specs.Triangulation.{Tri, triangles, rows_after}
use Rattle.triangulation.proofs.TotalStays.{flat_zero}
use Rattle.triangulation.proofs.WholeRing.{RingWay}
use Rattle.calls.specs.Removing.{mark_lost, no_room, Sound}
use Rattle.calls.proofs.SoundEdges.{opens_rule, some_removed}
use Rattle.tables.specs.RoundAnEdge.{Round}
use Rattle.tables.proofs.RingReplaced.{length_fits}
use Rattle.tables.proofs.RoundByWords.{round_of}
use Rattle.accepted.proofs.AcceptedCalls.{rows_after_lem}
use Rattle.demands.specs.Premises.{TwoPoints, Premises}
use Rattle.demands.specs.RingTotals.{Surrounded}
use Rattle.demands.proofs.MarksByWords.{marks_stay_stated}
use Rattle.demands.proofs.WaysAndTrees.{tree_way}

module _ (block : List ℕ) (e f : ℕ) (sound : Sound block e f) where
  abbrev site : Site
  site = site_of (fields_of block) e f

  -- answer 9 is not given
  sound_ends : TwoPoints block e f
  unfolding site_of
  sound_ends =
      let (low, high, apart) = numbers_right (length (fields_of block).points) e f (tests_passed site e f sound.one).0 in
      record { below_e = low; below_f = high; apart = apart }

  pub sound_round : Round (fields_of block).rows (min e f) (max e f) site.closed site.ring
  unfolding site_of
  sound_round =
      let patch = fields_of block in
      let points = length patch.points in
      let rule = opens_rule block sound.opens in
      let apart = sound_ends.apart in
      round_of (min e f) (max e f) points patch.rows rule (λ i. apart (omega arith)) site.closed site.ring
      (site_goes_round points patch e f apart rule (tests_passed site e f sound.one).1)

  -- so it is an edge whose total stays, or grows by what `RingTotals` says
  pub sound_surrounded : Surrounded (fields_of block) e f site.closed site.ring
  unfolding site_of
  sound_surrounded = record {
    rule = opens_rule block sound.opens;
    apart = sound_ends.apart;
    some_row = some_counted (holds_edge (min e f) (max e f)) (fields_of block).rows (some_removed block e f sound);
    round = sound_round;
  }

pub flat_chain : (site : Site) → not_flat site ≡ false → site.closed ≡ false
    → let at = place site.points in
    D (at site.a) (at site.b) (at (get_or site.ring 0 0)) (at (get_or site.ring (m site - 1) 0)) ≡ pos 0
flat_chain site h open-one =
    flat_zero site (ap (λ c. c || flat site) (sym open-one) ∙ not-false (site.closed || flat site) h)

-- so with 13, 19, 20, 23 and 14 passed, and with a tree that keeps the mesh rule, the third demand's premises are met
pub premises_by : (block out : List ℕ) (e f : ℕ) → Sound block e f → length out ≡ block_bytes
    → let site = site_of (fields_of block) e f in
    length_wrong site ≡ false → not_flat site ≡ false → mixed site.removed ≡ false → mark_lost site ≡ false
    → no_room site ≡ false → (t : Tri) → RingWay site t
    → Premises block out e f site.closed site.ring
unfolding site_of
premises_by block out e f sound size length_right flat unmixed unmarked room t way =
    let site = site_of (fields_of block) e f in
    let (low, high) = length_fits site length_right in
    record {
      ringed = record {
        right = right_block block sound.opens;
        right_length = size;
        ends = sound_ends block e f sound;
        round = sound_round block e f sound;
        from_three = low;
        to_ten = high;
      };
      flat = flat_chain site flat;
      one_region = one_region site.removed unmixed;
      no_marked_face_goes = marks_stay_stated (fields_of block) e f unmarked;
      room = omega (arith, rows_after_lem block e f sound low, ltb-false max_rows (rows_after site) room);
      some_way = (triangles 1 t, tree_way site (omega (arith, low)) t way);
    }
