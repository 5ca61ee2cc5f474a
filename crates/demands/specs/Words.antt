-- The answers of a removal by their words: when each is given, said of the block without its test.
use Rattle.std.specs.Prelude.{ℕ, min, max, Bool, not, List, [], ◌∷◌, ◌↔◌, ◌≡◌, T, length}
use Rattle.lists.specs.Lists.{any, has}
use Rattle.rows.specs.Rows.{holds_edge}
use Rattle.layout.specs.Layout.{block_bytes, fields_of}
use Rattle.block.specs.Holding.{RightBlock}
use Rattle.triangulation.specs.Triangulation.{Triangle}
use Rattle.tables.specs.RoundAnEdge.{AllClose, TwoCircles, OneChain, WrongLength}
use Rattle.demands.specs.Kernels.{Kernel, removes}
use Rattle.demands.specs.TriangleSets.{Way}
use Rattle.demands.specs.Premises.{edge_at, Ringed, FlatChain, OneMaterial, MarksStay, HasRoom, Premises, TwoPoints, Held}

-- 16 is given under the third demand's premises alone; so is 0, by the second demand
abbrev pub Only16 : Kernel → Type 0
Only16 k =
    (block out : List ℕ) (e f : ℕ) → removes k block out e f ≡ 16 → (closed : Bool) × (vs : List ℕ) × Premises block out e f closed vs

-- What is left for an edge in one ring or one chain of 3 to 10: none of 1 to 13; if it is flat nor 19; of one region nor 20; with no marked
-- face that goes nor 23; with room nor 14.
pub record Passes (k : Kernel) : Type 0 where
  pub by_13 : (block out : List ℕ) (e f : ℕ) (closed : Bool) (vs : List ℕ) → Ringed block out e f closed vs
      → T (has (0 ∷ 19 ∷ 20 ∷ 23 ∷ 14 ∷ 15 ∷ 16 ∷ []) (removes k block out e f))
  pub by_19 : (block out : List ℕ) (e f : ℕ) (closed : Bool) (vs : List ℕ) → Ringed block out e f closed vs
      → FlatChain block e f closed vs → T (has (0 ∷ 20 ∷ 23 ∷ 14 ∷ 15 ∷ 16 ∷ []) (removes k block out e f))
  pub by_20 : (block out : List ℕ) (e f : ℕ) (closed : Bool) (vs : List ℕ) → Ringed block out e f closed vs
      → FlatChain block e f closed vs → OneMaterial (fields_of block) e f → T (has (0 ∷ 23 ∷ 14 ∷ 15 ∷ 16 ∷ []) (removes k block out e f))
  pub by_23 : (block out : List ℕ) (e f : ℕ) (closed : Bool) (vs : List ℕ) → Ringed block out e f closed vs
      → FlatChain block e f closed vs → OneMaterial (fields_of block) e f → MarksStay (fields_of block) e f
      → T (has (0 ∷ 14 ∷ 15 ∷ 16 ∷ []) (removes k block out e f))
  pub by_14 : (block out : List ℕ) (e f : ℕ) (closed : Bool) (vs : List ℕ) → Ringed block out e f closed vs
      → FlatChain block e f closed vs → OneMaterial (fields_of block) e f → MarksStay (fields_of block) e f → HasRoom block closed vs
      → T (has (0 ∷ 15 ∷ 16 ∷ []) (removes k block out e f))

-- Each is given exactly when its words are true of the block, where those before it are not: 9 and 10; 11, 12 and 13, where some row
-- holds the edge; 19, 20, 23, 14 and 15 of one ring or chain of 3 to 10.
pub record Tells (k : Kernel) : Type 0 where
  pub nine : (block out : List ℕ) (e f : ℕ) → RightBlock block → length out ≡ block_bytes
      → (removes k block out e f ≡ 9) ↔ (TwoPoints block e f → ⊥)
  pub ten : (block out : List ℕ) (e f : ℕ) → RightBlock block → length out ≡ block_bytes → TwoPoints block e f
      → (removes k block out e f ≡ 10) ↔ T (not (any (holds_edge (min e f) (max e f)) (fields_of block).rows))
  pub eleven : (block out : List ℕ) (e f : ℕ) → Held block out e f
      → let rows = (fields_of block).rows in
      (removes k block out e f ≡ 11) ↔ ((AllClose rows (min e f) (max e f) → ⊥) × (OneChain rows (min e f) (max e f) → ⊥))
  pub twelve : (block out : List ℕ) (e f : ℕ) → Held block out e f
      → let rows = (fields_of block).rows in
      (removes k block out e f ≡ 12) ↔ (AllClose rows (min e f) (max e f) × TwoCircles rows (min e f) (max e f))
  pub thirteen : (block out : List ℕ) (e f : ℕ) → Held block out e f
      → (removes k block out e f ≡ 13) ↔ WrongLength (fields_of block).rows (min e f) (max e f)
  pub nineteen : (block out : List ℕ) (e f : ℕ) (closed : Bool) (vs : List ℕ) → Ringed block out e f closed vs
      → (removes k block out e f ≡ 19) ↔ (FlatChain block e f closed vs → ⊥)
  pub twenty : (block out : List ℕ) (e f : ℕ) (closed : Bool) (vs : List ℕ) → Ringed block out e f closed vs
      → FlatChain block e f closed vs → (removes k block out e f ≡ 20) ↔ (OneMaterial (fields_of block) e f → ⊥)
  pub twenty_three : (block out : List ℕ) (e f : ℕ) (closed : Bool) (vs : List ℕ) → Ringed block out e f closed vs
      → FlatChain block e f closed vs → OneMaterial (fields_of block) e f → (removes k block out e f ≡ 23) ↔ (MarksStay (fields_of block) e f → ⊥)
  pub fourteen : (block out : List ℕ) (e f : ℕ) (closed : Bool) (vs : List ℕ) → Ringed block out e f closed vs
      → FlatChain block e f closed vs → OneMaterial (fields_of block) e f → MarksStay (fields_of block) e f
      → (removes k block out e f ≡ 14) ↔ (HasRoom block closed vs → ⊥)
  pub fifteen : (block out : List ℕ) (e f : ℕ) (closed : Bool) (vs : List ℕ) → Ringed block out e f closed vs
      → FlatChain block e f closed vs → OneMaterial (fields_of block) e f → MarksStay (fields_of block) e f → HasRoom block closed vs
      → (removes k block out e f ≡ 15) ↔ ((ts : List Triangle) → Way (edge_at (fields_of block) e f closed vs) ts → ⊥)
