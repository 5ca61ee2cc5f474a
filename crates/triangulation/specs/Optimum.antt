-- Requirement §7.5: best worst and apex of a piece as statements about every triangulation of its span.
use Rattle.std.specs.Prelude.{ℕ, ◌+◌, ◌-◌, ◌<◌, not, ◌≡◌, T}
use Rattle.quality.specs.declared.Quality.{Quality}
use Rattle.quality.specs.Quality.{worse, as_good}
use Rattle.ring.specs.Ring.{Site}
use Rattle.triangulation.specs.Triangulation.{Tri, cut, span}
use Rattle.triangulation.specs.Admissible.{piece_admissible}
use Rattle.triangulation.specs.Best.{worst_of_way}

-- q is the best worst of piece (i,j), as a fraction: an admissible triangulation reaches it, and none has a better worst.
pub record IsBestWorst (site : Site) (i j : ℕ) (q : Quality) : Type 0 where
  pub by : Tri
  pub spans : span by ≡ j - i
  pub admissible : T (piece_admissible site i by)
  pub reaches : T (as_good (worst_of_way site i by) q)
  pub none_better_fact : (t : Tri) → span t ≡ j - i → T (piece_admissible site i t) → T (not (worse q (worst_of_way site i t)))

-- no triangulation of piece (i,j) is admissible
abbrev pub IsMarked : Site → ℕ → ℕ → Type 0
IsMarked site i j = (t : Tri) → span t ≡ j - i → T (not (piece_admissible site i t))

-- k is the smallest apex with which some admissible triangulation of piece (i,j) reaches q.
pub record IsApex (site : Site) (i j : ℕ) (q : Quality) (k : ℕ) : Type 0 where
  pub left : Tri
  pub right : Tri
  pub left_ends : i + span left ≡ k
  pub right_ends : k + span right ≡ j
  pub admissible : T (piece_admissible site i (cut left right))
  pub reaches : T (as_good (worst_of_way site i (cut left right)) q)
  pub smallest : (l r : Tri) → span (cut l r) ≡ j - i → i + span l < k → T (piece_admissible site i (cut l r))
      → T (not (as_good (worst_of_way site i (cut l r)) q))
