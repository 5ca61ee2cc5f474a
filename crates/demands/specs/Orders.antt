-- Requirement §6.1, §8 and §9.3: what is promised beside the demands, as statements about any kernel: room, either order of the ends, any
-- order of the rows, and a 3-2 flip after a 2-3 flip. They speak of what a call returns and of the bytes that it leaves, never of how a
-- kernel finds them.
use Rattle.std.specs.Prelude.{ℕ, ◌<◌, min, max, Bool, true, false, not, List, [], ◌∷◌, ◌↔◌, ◌≡◌, T, length, take, drop, Result, Ok, Err}
use Rattle.lists.specs.Lists.{any, count}
use Rattle.rows.specs.declared.Row.{Row}
use Rattle.rows.specs.Rows.{holds_edge, holds_face}
use Rattle.rows.specs.Tetrahedra.{SameTetrahedra}
use Rattle.layout.specs.Layout.{block_bytes, fields_of}
use Rattle.answers.specs.declared.Refusal.{Refusal}
use Rattle.block.specs.Holding.{RightBlock}
use Rattle.ring.specs.declared.Ring.{Ring}
use Rattle.calls.specs.declared.Removed.{Removed}
use Rattle.tables.specs.FlipRows.{Apexes}
use Rattle.demands.specs.Premises.{Ringed, FlatChain, OneMaterial, MarksStay}
use Rattle.demands.specs.Kernels.{Kernel, removes, flips}

-- ---- room

-- A ring of six makes two rows more than go, so a block with more than 58 rows gets 14; a ring of four makes none more, and always has room.
-- A flat chain makes one row more than a ring of its length. Of one region and with no marked face that goes, where neither 20 nor 23 is given before; for every length it is
-- `Tells.fourteen`, of which these are cases.
pub record Room (k : Kernel) : Type 0 where
  pub ring_of_six : (block out : List ℕ) (e f : ℕ) (vs : List ℕ) → Ringed block out e f true vs → OneMaterial (fields_of block) e f
      → MarksStay (fields_of block) e f → length vs ≡ 6
      → (removes k block out e f ≡ 14) ↔ (58 < length (fields_of block).rows)
  pub ring_of_four : (block out : List ℕ) (e f : ℕ) (vs : List ℕ) → Ringed block out e f true vs → length vs ≡ 4
      → removes k block out e f ≡ 14 → ⊥
  pub chain_of_four : (block out : List ℕ) (e f : ℕ) (vs : List ℕ) → Ringed block out e f false vs → FlatChain block e f false vs
      → OneMaterial (fields_of block) e f → MarksStay (fields_of block) e f → length vs ≡ 4 → (removes k block out e f ≡ 14) ↔ (59 < length (fields_of block).rows)
  pub chain_of_three : (block out : List ℕ) (e f : ℕ) (vs : List ℕ) → Ringed block out e f false vs → FlatChain block e f false vs
      → length vs ≡ 3 → removes k block out e f ≡ 14 → ⊥

-- ---- either order

-- A removal and a flip of an edge return and leave the same for both orders of the ends, and a flip of a face for all six orders of its
-- numbers: exchanging the first two and turning the three round make up the six.
pub record EitherOrder (k : Kernel) : Type 0 where
  pub remove : (block out : List ℕ) (e f : ℕ) → k.remove block out e f ≡ k.remove block out f e
  pub flip_ends : (block out : List ℕ) (e f : ℕ) → k.flip block out (e ∷ f ∷ []) ≡ k.flip block out (f ∷ e ∷ [])
  pub exchanged : (block out : List ℕ) (x y z : ℕ) → k.flip block out (x ∷ y ∷ z ∷ []) ≡ k.flip block out (y ∷ x ∷ z ∷ [])
  pub turned : (block out : List ℕ) (x y z : ℕ) → k.flip block out (x ∷ y ∷ z ∷ []) ≡ k.flip block out (y ∷ z ∷ x ∷ [])

-- ---- any row order

-- Two valid blocks with the same points and the same tetrahedra with their marks, in another order of rows and evenly rearranged.
pub record SameMesh (block other : List ℕ) : Type 0 where
  pub right : RightBlock block
  pub other_right : RightBlock other
  pub points : (fields_of block).points ≡ (fields_of other).points
  pub tetrahedra : SameTetrahedra (fields_of block).rows (fields_of other).rows

-- how many rows stay: those that do not hold the edge, or the face
abbrev pub staying : (Row → Bool) → List ℕ → ℕ
staying goes block = count (λ row. not (goes row)) (fields_of block).rows

-- The outputs for two blocks: the rows that stayed, which stand first, are the same tetrahedra; behind them stand the same rows, in the same
-- order.
pub record SameOutput (goes : Row → Bool) (block other output its-output : List ℕ) : Type 0 where
  pub stayed : SameTetrahedra (take (staying goes block) (fields_of output).rows) (take (staying goes other) (fields_of its-output).rows)
  pub behind : drop (staying goes block) (fields_of output).rows ≡ drop (staying goes other) (fields_of its-output).rows

-- the ring or chain that a removal returns, or its refusal
abbrev pub ring_given : Result Removed Refusal → Result Ring Refusal
ring_given (Ok removed) = Ok removed.ring
ring_given (Err refusal) = Err refusal

-- the answers of a removal and of a flip are the same, with 0 so is the output as above, and a removal returns the same ring; of a flip the
-- rows go that hold all of its numbers
pub record AnyRowOrder (k : Kernel) : Type 0 where
  pub remove_answer_fact : (block other out : List ℕ) (e f : ℕ) → SameMesh block other → removes k block out e f ≡ removes k other out e f
  pub ring : (block other out : List ℕ) (e f : ℕ) → SameMesh block other
      → ring_given (k.remove block out e f).0 ≡ ring_given (k.remove other out e f).0
  pub remove_output : (block other out : List ℕ) (e f : ℕ) → SameMesh block other → removes k block out e f ≡ 0
      → SameOutput (holds_edge (min e f) (max e f)) block other (k.remove block out e f).1 (k.remove other out e f).1
  pub flip_answer_fact : (block other out numbers : List ℕ) → SameMesh block other
      → (k.flip block out numbers).0 ≡ (k.flip other out numbers).0
  pub flip_output : (block other out numbers : List ℕ) → SameMesh block other → flips k block out numbers ≡ 0
      → SameOutput (holds_face numbers) block other (k.flip block out numbers).1 (k.flip other out numbers).1

-- ---- 3-2 after 2-3

-- The premises: the 2-3 flip of x, y, z was done, no row joined the apexes, and the 3-2 flip gets an output block of the right length.
pub record Flipped (k : Kernel) (block out other : List ℕ) (x y z a b : ℕ) : Type 0 where
  pub done : flips k block out (x ∷ y ∷ z ∷ []) ≡ 0
  pub right_length : length other ≡ block_bytes
  pub apexes : Apexes (fields_of block).rows x y z a b
  pub none_held : T (not (any (holds_edge a b) (fields_of block).rows))

-- The 3-2 flip of a, b is done on what the first flip left, and the table has the tetrahedra that it had before both, with their marks.
abbrev pub BroughtBack : Kernel → Type 0
BroughtBack k =
    (block out other : List ℕ) (x y z a b : ℕ) → Flipped k block out other x y z a b
    → let between = (k.flip block out (x ∷ y ∷ z ∷ [])).1 in
    (flips k between other (a ∷ b ∷ []) ≡ 0)
    × SameTetrahedra (fields_of (k.flip between other (a ∷ b ∷ [])).1).rows (fields_of block).rows
