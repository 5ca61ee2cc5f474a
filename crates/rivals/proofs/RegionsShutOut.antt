-- A ring of two regions cannot be replaced, whatever the kernel: each new row has the region of each row that went. And wrong kernels by their
-- numbers (demand 1) or by what they leave of a region (demand 2).
use Prim.Native.Nat.{ℕ}
use mathlib.Core.Bool.{Bool}
use mathlib.Core.List.{List, [], ◌∷◌, Memᴰ}
use mathlib.Core.Path.{◌≡◌, refl, sym, ap, ◌∙◌}
use native.Mathlib.Omega.{arith}
use lib.IntN.{pos, nat_abs}
use Rattle.lists.specs.Lists.{those}
use Rattle.rows.specs.declared.Row.{Row}
use Rattle.rows.specs.RowMeasure.{total_d}
use Rattle.rows.specs.Regions.{OneRegion, region_d}
use Rattle.layout.specs.Layout.{fields_of, bytes_of}
use Rattle.calls.specs.Removing.{remove_answer}
use Rattle.accepted.specs.Accepted.{Accepted}
use Rattle.demands.specs.Kernels.{Kernel, ours, removes}
use Rattle.demands.specs.Demands.{Demand1, Demand2}
use Rattle.facts.specs.AllDefinitions.{definitions}
use Rattle.facts.specs.Facts.{blank}
use Rattle.full_blocks.specs.FullBlocks.{strip, six_ring}
use Rattle.facts.specs.Joint.{joint_of, joint}
use Rattle.rivals.specs.Materials.{looking_at_two, room_first, taking_several, flipping_several, full_of_two}
use Rattle.rivals.proofs.FlipsShutOut.{shut}

-- ---- any kernel

-- where a new row comes, the rows that went had one region
pub accepted_one : (block output : List ℕ) (goes : Row → Bool) (new : List Row) {its : Row} → Accepted block output goes new
    → Memᴰ its new → OneRegion (those goes (fields_of block).rows)
accepted_one block output goes new {its} accepted k s t i j = sym (accepted.region s its i k) ∙ accepted.region t its j k

-- ---- by their numbers

-- one input with another number is enough
removal_shut : (k : Kernel) (block : List ℕ) (n its : ℕ) → remove_answer block blank 0 1 ≡ n → removes k block blank 0 1 ≡ its
    → (its ≡ n → ⊥) → Demand1 k → ⊥
removal_shut k block n its table told other meets = other (sym told ∙ meets.numbers.remove_number block blank 0 1 ∙ table)

-- the joint, whose first two rows are copper: 20
pub two_looked_at : Demand1 looking_at_two → ⊥
unfolding ours joint_of joint definitions
two_looked_at = removal_shut looking_at_two (bytes_of 1 joint) 20 0 refl refl (λ e. omega arith)

-- a full block: 20 too
pub room_first_lem : Demand1 room_first → ⊥
unfolding ours strip six_ring full_of_two definitions
room_first_lem = removal_shut room_first (bytes_of 1 full_of_two) 20 14 refl refl (λ e. omega arith)

-- the face 0, 1, 2 of the joint, between copper and epoxy: 20
pub several_flipped : Demand1 flipping_several → ⊥
unfolding ours joint_of joint definitions
several_flipped = shut flipping_several (bytes_of 1 joint) (0 ∷ 1 ∷ 2 ∷ []) 20 0 refl refl (λ e. omega arith)

-- ---- by the total D of a region

taken_joint : removes taking_several (bytes_of 1 joint) blank 0 1 ≡ 0
unfolding ours joint_of joint definitions
taken_joint = refl

-- the copper of the joint
copper_before : let patch = fields_of (bytes_of 1 joint) in region_d patch.points 1 patch.rows ≡ pos 1728
unfolding joint_of joint total_d definitions
copper_before = refl

-- all of it is copper then
copper_after : let patch = fields_of (taking_several.remove (bytes_of 1 joint) blank 0 1).1 in region_d patch.points 1 patch.rows ≡ pos 3456
unfolding ours joint_of joint total_d definitions
copper_after = refl

pub several_taken : Demand2 taking_several → ⊥
several_taken meets =
    let volumes = (meets.remove (bytes_of 1 joint) blank 0 1 taken_joint).accepted.volumes in
    omega (arith, ap nat_abs (sym copper_after ∙ volumes 1 ∙ copper_before))
