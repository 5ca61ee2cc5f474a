-- Request [11], as statements about any kernel: a removal that is done makes the list of the patch's qualities from worst to best larger. So
-- neither the worst of the patch nor its score falls, and of removals that follow each other none brings a patch back.
use Rattle.std.specs.Prelude.{ℕ, ◌≤◌, not, List, ◌≡◌, T}
use Rattle.quality.specs.Quality.{worse}
use Rattle.rows.specs.Tetrahedra.{SameTetrahedra}
use Rattle.layout.specs.Layout.{fields_of}
use Rattle.tally.specs.Tally.{worst_of_patch}
use Rattle.ranking.specs.Ranking.{worst_first, Grows}
use Rattle.demands.specs.Kernels.{Kernel, removes}
use Rattle.demands.specs.Summaries.{WorstIs}

-- a removal that is done makes the list of the whole patch larger, of a ring and of a chain
abbrev pub ListGrows : Kernel → Type 0
ListGrows k =
    (block out : List ℕ) (e f : ℕ) → removes k block out e f ≡ 0
    → Grows (worst_first (fields_of block)) (worst_first (fields_of (k.remove block out e f).1))

-- One removal that is done, or several, each of the block that the one before it left: of whatever edges, into whatever output blocks.
pub data Removals (k : Kernel) : List ℕ → List ℕ → Type 0 where
  one : (block out : List ℕ) (e f : ℕ) → removes k block out e f ≡ 0 → Removals k block (k.remove block out e f).1
  onward : (block out : List ℕ) (e f : ℕ) {last : List ℕ} → removes k block out e f ≡ 0 → Removals k (k.remove block out e f).1 last
      → Removals k block last

-- From the first block to the last of any removals: the list grows, the worst does not fall, nor does the score that a summary gives of it,
-- and the tetrahedra are not those that were there, in whatever order of the rows.
pub record WorstFirst (k : Kernel) : Type 0 where
  pub list_grows : ListGrows k
  pub grows_on : (block last : List ℕ) → Removals k block last → Grows (worst_first (fields_of block)) (worst_first (fields_of last))
  pub worst_stays : (block last : List ℕ) → Removals k block last
      → T (not (worse (worst_of_patch (fields_of last)) (worst_of_patch (fields_of block))))
  pub score_stays : (block last : List ℕ) → Removals k block last
      → (m n : ℕ) → WorstIs (fields_of block) m → WorstIs (fields_of last) n → m ≤ n
  pub never_back : (block last : List ℕ) → Removals k block last → SameTetrahedra (fields_of block).rows (fields_of last).rows → ⊥
