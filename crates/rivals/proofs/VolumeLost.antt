-- A chain that is not flat cannot be replaced, whatever the kernel and however it cuts: the total D would not be the block's. So one that
-- takes such a chain does not meet demand 2; nor does one that turns a new row over.
use Prim.Native.Nat.{ℕ}
use mathlib.Core.Bool.{Bool, false}
use mathlib.Core.List.{List, [], ◌∷◌}
use mathlib.Core.Path.{◌≡◌, refl, sym, ap, ◌∙◌}
use native.Mathlib.Omega.{arith}
use lib.Dec.{T}
use lib.IntN.{pos, nat_abs}
use lib.ListN.{length}
use Rattle.lists.specs.Lists.{every, any}
use Rattle.volume.specs.declared.Point.{Point}
use Rattle.rows.specs.declared.Row.{Row}
use Rattle.rows.specs.RowMeasure.{total_d}
use Rattle.marking.specs.Marking.{new_mark}
use Rattle.layout.specs.Layout.{fields_of, bytes_of}
use Rattle.triangulation.specs.Triangulation.{Triangle}
use Rattle.polygon.specs.Polygon.{sides, overtakes, cross, same_triangle, overlap, apart, within, cuts}
use Rattle.kept_marks.proofs.DressedRows.{dress_total}
use Rattle.accepted.specs.Accepted.{Accepted}
use Rattle.demands.specs.Kernels.{removes}
use Rattle.demands.specs.TriangleSets.{rows_of, table_made}
use Rattle.demands.specs.Premises.{edge_at}
use Rattle.demands.specs.RingTotals.{Surrounded, volume_at, first_of, last_of, total_of}
use Rattle.demands.specs.Demands.{Demand2}
use Rattle.demands.proofs.PremisesMet.{sound_surrounded}
use Rattle.demands.proofs.TotalFromRing.{ring_totals}
use Rattle.facts.specs.AllDefinitions.{definitions}
use Rattle.facts.specs.Facts.{blank, block_a_with, block_a}
use Rattle.plate.specs.Plate.{plate_points, plate_rows, bent_plate}
use Rattle.rivals.specs.Volumes.{taking_bent, turning_first}
use Rattle.rivals.proofs.RivalBlocks.{done_A}
use Rattle.rivals.proofs.ShutOut.{done_too}

-- ---- any kernel

-- what is left of a chain by any triangles is accepted only if the chain is flat
pub accepted_flat : (block output : List ℕ) (e f : ℕ) (vs : List ℕ) (goes : Row → Bool) (new : List Row) (ts : List Triangle)
    → Surrounded (fields_of block) e f false vs → T (cuts (length vs) ts)
    → (fields_of output).rows ≡ table_made (edge_at (fields_of block) e f false vs) ts
    → Accepted block output goes new → volume_at (fields_of block) e f (first_of vs) (last_of vs) ≡ pos 0
accepted_flat block output e f vs goes new ts given h rows accepted =
    let site = edge_at (fields_of block) e f false vs in
    ring_totals.only_flat (fields_of block) e f vs given ts h
    (sym (dress_total (new_mark site.removed site.kept) site.points site.kept (rows_of site ts))
    ∙ ap (λ (points : List Point). total_d points (table_made site ts)) (sym accepted.points)
    ∙ ap (total_d (fields_of output).points) (sym rows)
    ∙ accepted.volume)

-- ---- one that takes the bent plate

abbrev bent_block : List ℕ
bent_block = bytes_of 1 bent_plate

abbrev bent_chain : List ℕ
bent_chain = 3 ∷ 5 ∷ 4 ∷ 2 ∷ []

abbrev bent_way : List Triangle
bent_way = (1, 2, 4) ∷ (2, 3, 4) ∷ []

bent_surrounded : Surrounded (fields_of bent_block) 0 1 false bent_chain
unfolding plate_points plate_rows bent_plate definitions
bent_surrounded = sound_surrounded bent_block 0 1 (record { opens = refl; one = refl })

bent_cut : T (cuts 4 bent_way)
unfolding cuts within apart overlap cross overtakes sides same_triangle every any
bent_cut = tt

bent_taken : removes taking_bent bent_block blank 0 1 ≡ 0
unfolding plate_points plate_rows bent_plate definitions
bent_taken = refl

bent_rows : (fields_of (taking_bent.remove bent_block blank 0 1).1).rows ≡ table_made (edge_at (fields_of bent_block) 0 1 false bent_chain) bent_way
unfolding plate_points plate_rows bent_plate definitions
bent_rows = refl

-- its D is 144
bent_across : volume_at (fields_of bent_block) 0 1 3 2 ≡ pos 144
unfolding plate_points plate_rows bent_plate definitions
bent_across = refl

pub taken_bent : Demand2 taking_bent → ⊥
taken_bent meets =
    let its = meets.remove bent_block blank 0 1 bent_taken in
    let flat = accepted_flat bent_block _ 0 1 bent_chain _ _ bent_way bent_surrounded bent_cut bent_rows its.accepted in
    omega (arith, ap nat_abs (sym bent_across ∙ flat))

-- ---- one that turns a new row of block A over: the other is as large

whole_A : total_of (fields_of (bytes_of 1 block_a)) ≡ pos 1728
unfolding block_a_with block_a total_d definitions
whole_A = refl

turned_A : total_of (fields_of (turning_first.remove (bytes_of 1 block_a) blank 0 1).1) ≡ pos 0
unfolding block_a_with block_a total_d definitions
turned_A = refl

pub turned_row : Demand2 turning_first → ⊥
turned_row meets =
    let volume = (meets.remove (bytes_of 1 block_a) blank 0 1 (done_too (bytes_of 1 block_a) done_A)).accepted.volume in
    omega (arith, ap nat_abs (sym turned_A ∙ volume ∙ whole_A))
