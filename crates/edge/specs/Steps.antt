-- What only contracts of inner functions and proofs say: the edge in a block that opens, with its ring or chain.
use Rattle.std.specs.Prelude.{ℕ, Bool, List, ◌++◌, T, Result}
use Rattle.answers.specs.declared.Refusal.{Refusal}
use Rattle.rows.specs.Rows.{rows_in}
use Rattle.marking.specs.Marking.{agree}
use Rattle.layout.specs.Layout.{fields_of}
use Rattle.answers.specs.Answers.{first_refusal}
use Rattle.tally.specs.Steps.{Measured}
use Rattle.ring.specs.declared.Found.{Found}
use Rattle.ring.specs.declared.Ring.{Ring}
use Rattle.ring.specs.Ring.{site_of, edge_tests, length_tests}
use Rattle.ring.specs.Steps.{found_with}
use Rattle.ring.specs.SoundRing.{SoundRing}
use Rattle.kept_faces.specs.Steps.{Fillable}
use Rattle.triangulation.specs.Steps.{site_in}

-- answers 9 to 13, tested from the top, by what the call takes
unfoldable pub edge_answer : Bool → List ℕ → ℕ → ℕ → ℕ
edge_answer chains block e f =
    let site = site_of (fields_of block) e f in
    first_refusal (edge_tests chains site e f ++ length_tests site)

-- the ring or chain, or the refusal
unfoldable pub edge_found : Bool → List ℕ → ℕ → ℕ → Result Found Refusal
edge_found chains block e f = found_with (edge_answer chains block e f) (site_of (fields_of block) e f)

-- The edge (a,b) and its ring or chain of 3 to 10 points, in a table that keeps the mesh rule and whose marks agree: what the steps behind answer 13 ask for.
pub record Ringed (coordinates : List ℕ) (count : ℕ) (table : List ℕ) (n a b : ℕ) (closed : Bool) (ring : Ring) : Type 0 where
  pub ready : Fillable coordinates count table n a b closed ring
  pub measured : Measured coordinates count table n
  pub sound : SoundRing (site_in coordinates count table n a b)
  pub agrees : T (agree (rows_in table n))

-- What a `RingedEdge` keeps of that: the same, `sound` truncated, since the fact of a ghost field is a proposition.
pub record RingedFact (coordinates : List ℕ) (count : ℕ) (table : List ℕ) (n a b : ℕ) (closed : Bool) (ring : Ring) : Type 0 where
  pub ready : Fillable coordinates count table n a b closed ring
  pub measured : Measured coordinates count table n
  pub sound : ∥ SoundRing (site_in coordinates count table n a b) ∥₁
  pub agrees : T (agree (rows_in table n))
