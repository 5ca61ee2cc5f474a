-- The refusals of a flip by their words, as statements about any kernel: where no number before it is given, each is given exactly when its
-- words are true of the block and the numbers. That a flip gives no other numbers stands in the first demand.
use Rattle.std.specs.Prelude.{ℕ, ◌+◌, ◌≤◌, ◌<◌, min, max, true, not, List, [], ◌∷◌, ◌↔◌, ◌≡◌, T, length}
use Rattle.lists.specs.Lists.{any, those, different}
use Rattle.rows.specs.declared.Row.{Row}
use Rattle.rows.specs.Rows.{holds_edge, holds_face}
use Rattle.rows.specs.Regions.{OneRegion}
use Rattle.mesh.specs.Mesh.{uses_either_way}
use Rattle.layout.specs.Layout.{Patch, block_bytes, max_rows, fields_of}
use Rattle.block.specs.Holding.{RightBlock}
use Rattle.ring.specs.Ring.{min_ring}
use Rattle.tables.specs.RoundAnEdge.{Round, AllClose, TwoCircles}
use Rattle.tables.specs.FlipRows.{KeepsRule, off, after32, facing, OneApex, Apexes, ReadFrom, after23}
use Rattle.demands.specs.Premises.{TwoPoints, Held, OneMaterial, NoneMarked, MarksStay}
use Rattle.demands.specs.Kernels.{Kernel, opens, flips}

-- ---- how many numbers

-- 21 exactly where neither two numbers nor three are given, whatever they are; a block that is not right has the number of opening it first.
pub record Tells21 (k : Kernel) : Type 0 where
  pub block_first : (block out numbers : List ℕ) → (RightBlock block → ⊥) → length out ≡ block_bytes
      → flips k block out numbers ≡ opens k block
  pub twenty_one : (block out numbers : List ℕ) → RightBlock block → length out ≡ block_bytes
      → (flips k block out numbers ≡ 21) ↔ ((length numbers ≡ 2 → ⊥) × (length numbers ≡ 3 → ⊥))

-- ---- two numbers: the 3-2 flip

-- a closed ring, but not of three points
abbrev pub NotThree : List Row → ℕ → ℕ → Type 0
NotThree rows a b = (vs : List ℕ) × Round rows a b true vs × (length vs ≡ min_ring → ⊥)

-- A valid block, an output block of the right length, and an edge in a closed ring u, v, w.
pub record RingOfThree (block out : List ℕ) (e f u v w : ℕ) : Type 0 where
  pub right : RightBlock block
  pub right_length : length out ≡ block_bytes
  pub round : Round (fields_of block).rows (min e f) (max e f) true (u ∷ v ∷ w ∷ [])

-- 9 and 10; 11, 12 and 13, where some row holds the edge; in a ring of three, 20 where its rows have more than one region, in one region 23
-- where a marked face would go, and with none such 15 where the table afterwards would break the mesh rule, which is where one of the other rows has the triangle for a face; and otherwise 0.
pub record Tells32 (k : Kernel) : Type 0 where
  pub nine : (block out : List ℕ) (e f : ℕ) → RightBlock block → length out ≡ block_bytes
      → (flips k block out (e ∷ f ∷ []) ≡ 9) ↔ (TwoPoints block e f → ⊥)
  pub ten : (block out : List ℕ) (e f : ℕ) → RightBlock block → length out ≡ block_bytes → TwoPoints block e f
      → (flips k block out (e ∷ f ∷ []) ≡ 10) ↔ T (not (any (holds_edge (min e f) (max e f)) (fields_of block).rows))
  pub eleven : (block out : List ℕ) (e f : ℕ) → Held block out e f
      → (flips k block out (e ∷ f ∷ []) ≡ 11) ↔ (AllClose (fields_of block).rows (min e f) (max e f) → ⊥)
  pub twelve : (block out : List ℕ) (e f : ℕ) → Held block out e f
      → let rows = (fields_of block).rows in
      (flips k block out (e ∷ f ∷ []) ≡ 12) ↔ (AllClose rows (min e f) (max e f) × TwoCircles rows (min e f) (max e f))
  pub thirteen : (block out : List ℕ) (e f : ℕ) → Held block out e f
      → (flips k block out (e ∷ f ∷ []) ≡ 13) ↔ NotThree (fields_of block).rows (min e f) (max e f)
  pub twenty : (block out : List ℕ) (e f u v w : ℕ) → RingOfThree block out e f u v w
      → (flips k block out (e ∷ f ∷ []) ≡ 20) ↔ (OneMaterial (fields_of block) e f → ⊥)
  pub twenty_three : (block out : List ℕ) (e f u v w : ℕ) → RingOfThree block out e f u v w → OneMaterial (fields_of block) e f
      → (flips k block out (e ∷ f ∷ []) ≡ 23) ↔ (MarksStay (fields_of block) e f → ⊥)
  pub fifteen : (block out : List ℕ) (e f u v w : ℕ) → RingOfThree block out e f u v w → OneMaterial (fields_of block) e f
      → MarksStay (fields_of block) e f
      → let patch = fields_of block in
      (flips k block out (e ∷ f ∷ []) ≡ 15) ↔ (KeepsRule patch (after32 patch.rows (min e f) (max e f) u v w) → ⊥)
  pub fifteen_by_triangle : (block out : List ℕ) (e f u v w : ℕ) → RingOfThree block out e f u v w → OneMaterial (fields_of block) e f
      → MarksStay (fields_of block) e f
      → (flips k block out (e ∷ f ∷ []) ≡ 15) ↔ T (any (uses_either_way (u, v, w)) (off (fields_of block).rows (min e f) (max e f)))
  pub done : (block out : List ℕ) (e f u v w : ℕ) → RingOfThree block out e f u v w → OneMaterial (fields_of block) e f
      → MarksStay (fields_of block) e f
      → let patch = fields_of block in
      (flips k block out (e ∷ f ∷ []) ≡ 0) ↔ KeepsRule patch (after32 patch.rows (min e f) (max e f) u v w)

-- ---- three numbers: the 2-3 flip

-- three different points of the block
pub record ThreePoints (block : List ℕ) (x y z : ℕ) : Type 0 where
  pub below_x : x < length (fields_of block).points
  pub below_y : y < length (fields_of block).points
  pub below_z : z < length (fields_of block).points
  pub apart : T (different (x ∷ y ∷ z ∷ []))

-- A valid block, an output block of the right length, and a face in two rows with different apexes.
pub record Faced (block out : List ℕ) (x y z a b : ℕ) : Type 0 where
  pub right : RightBlock block
  pub right_length : length out ≡ block_bytes
  pub apexes : Apexes (fields_of block).rows x y z a b

-- one region: both rows at the face have the same
abbrev pub OneMaterialAt : Patch → ℕ → ℕ → ℕ → Type 0
OneMaterialAt patch x y z = OneRegion (those (holds_face (x ∷ y ∷ z ∷ [])) patch.rows)

-- the face is not marked, by either row
abbrev pub Unmarked : Patch → ℕ → ℕ → ℕ → Type 0
Unmarked patch x y z = NoneMarked patch.rows (x ∷ y ∷ z ∷ [])

-- Such a face in one region and unmarked, with room for one row more; a is the smaller apex and its row reads (a,u,v,w).
pub record Roomy (block out : List ℕ) (x y z a b u v w : ℕ) : Type 0 where
  pub faced : Faced block out x y z a b
  pub smaller : a < b
  pub read : ReadFrom (fields_of block).rows x y z a u v w
  pub one_region : OneMaterialAt (fields_of block) x y z
  pub unmarked : Unmarked (fields_of block) x y z
  pub room : length (fields_of block).rows + 1 ≤ max_rows

-- 9; 10, 11 and 18 of three different points; of two rows with different apexes, 20 where they have different regions, in one region 23
-- where the face is marked, and if it is not 14 where one row more is too many, 15 where the table afterwards would break the mesh rule, and otherwise 0.
pub record Tells23 (k : Kernel) : Type 0 where
  pub nine : (block out : List ℕ) (x y z : ℕ) → RightBlock block → length out ≡ block_bytes
      → (flips k block out (x ∷ y ∷ z ∷ []) ≡ 9) ↔ (ThreePoints block x y z → ⊥)
  pub ten : (block out : List ℕ) (x y z : ℕ) → RightBlock block → length out ≡ block_bytes → ThreePoints block x y z
      → (flips k block out (x ∷ y ∷ z ∷ []) ≡ 10) ↔ (facing (fields_of block).rows x y z ≡ 0)
  pub eleven : (block out : List ℕ) (x y z : ℕ) → RightBlock block → length out ≡ block_bytes → ThreePoints block x y z
      → (flips k block out (x ∷ y ∷ z ∷ []) ≡ 11) ↔ (facing (fields_of block).rows x y z ≡ 1)
  pub eighteen : (block out : List ℕ) (x y z : ℕ) → RightBlock block → length out ≡ block_bytes → ThreePoints block x y z
      → (flips k block out (x ∷ y ∷ z ∷ []) ≡ 18) ↔ ((a : ℕ) × OneApex (fields_of block).rows x y z a)
  pub twenty : (block out : List ℕ) (x y z a b : ℕ) → Faced block out x y z a b
      → (flips k block out (x ∷ y ∷ z ∷ []) ≡ 20) ↔ (OneMaterialAt (fields_of block) x y z → ⊥)
  pub twenty_three : (block out : List ℕ) (x y z a b : ℕ) → Faced block out x y z a b → OneMaterialAt (fields_of block) x y z
      → (flips k block out (x ∷ y ∷ z ∷ []) ≡ 23) ↔ (Unmarked (fields_of block) x y z → ⊥)
  pub fourteen : (block out : List ℕ) (x y z a b : ℕ) → Faced block out x y z a b → OneMaterialAt (fields_of block) x y z
      → Unmarked (fields_of block) x y z
      → (flips k block out (x ∷ y ∷ z ∷ []) ≡ 14) ↔ (max_rows < length (fields_of block).rows + 1)
  pub fifteen : (block out : List ℕ) (x y z a b u v w : ℕ) → Roomy block out x y z a b u v w
      → let patch = fields_of block in
      (flips k block out (x ∷ y ∷ z ∷ []) ≡ 15) ↔ (KeepsRule patch (after23 patch.rows (x ∷ y ∷ z ∷ []) a b u v w) → ⊥)
  pub done : (block out : List ℕ) (x y z a b u v w : ℕ) → Roomy block out x y z a b u v w
      → let patch = fields_of block in
      (flips k block out (x ∷ y ∷ z ∷ []) ≡ 0) ↔ KeepsRule patch (after23 patch.rows (x ∷ y ∷ z ∷ []) a b u v w)
