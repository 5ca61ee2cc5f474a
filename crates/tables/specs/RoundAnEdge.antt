-- Requirement §6: the ring, or the chain, round an edge a b, said of the rows alone. No answer, no walk and no search stands in it, so that
-- no kernel sets the premises of its own demand.
use Rattle.std.specs.Prelude.{ℕ, suc, ◌-◌, ◌≤◌, ◌<◌, Bool, true, false, cond, ◌&&◌, ◌⊎◌, ◌≡◌, T, eqb, length, get_or}
use mathlib.Core.List.{List, map, Memᴰ}
use Rattle.lists.specs.Lists.{any, count, different, numbers_from}
use Rattle.rows.specs.declared.Row.{Row}
use Rattle.rows.specs.Tetrahedra.{evenly}
use Rattle.ring.specs.Ring.{min_ring, max_ring}

-- ---- rows round an edge

-- the row is (a,b,v,w)
abbrev pub is_row : ℕ → ℕ → ℕ → ℕ → Row → Bool
is_row a b v w row = eqb row.p a && (eqb row.q b && (eqb row.r v && eqb row.s w))

-- the row is (a,b,v,w), evenly rearranged
abbrev pub reads : ℕ → ℕ → ℕ → ℕ → Row → Bool
reads a b v w row = any (is_row a b v w) (evenly row)

-- some row is
abbrev pub linked : List Row → ℕ → ℕ → ℕ → ℕ → Bool
linked rows a b v w = any (reads a b v w) rows

-- ---- neighbours

-- the point after place i; after the last comes the first
abbrev pub behind : List ℕ → ℕ → ℕ
behind vs i = cond (eqb (suc i) (length vs)) (get_or vs 0 0) (get_or vs (suc i) 0)

-- how many pairs of neighbours there are: in a closed ring as many as points, in a chain one less
abbrev pub pair_count : Bool → List ℕ → ℕ
pair_count closed vs = length vs - cond closed 0 1

-- v1 v2, v2 v3, and so on; in a closed ring also vm v1
abbrev pub neighbours : Bool → List ℕ → List (ℕ × ℕ)
neighbours closed vs = map (λ i. (get_or vs i 0, behind vs i)) (numbers_from 0 (pair_count closed vs))

-- the pair is v w
abbrev pub is_pair : ℕ → ℕ → ℕ × ℕ → Bool
is_pair v w pair = eqb pair.0 v && eqb pair.1 w

-- ---- one ring, or one chain

-- The rows that hold a and b are, evenly rearranged as (a,b,v,w), exactly one for each pair of neighbours v w of v1..vm, all different:
-- a closed ring from its smallest point, or a chain, whose v1 is then the only point that no link enters.
pub record Round (rows : List Row) (a b : ℕ) (closed : Bool) (vs : List ℕ) : Type 0 where
  pub apart : T (different vs)
  pub one_row_each : (v w : ℕ) → count (reads a b v w) rows ≡ count (is_pair v w) (neighbours closed vs)
  pub smallest_first : closed ≡ true → (v : ℕ) → Memᴰ v vs → get_or vs 0 0 ≤ v

-- ---- circles, for the words of answers 11 and 12

-- A closed circle of links: different points, each linked to the next and the last to the first.
pub record Circle (rows : List Row) (a b : ℕ) (vs : List ℕ) : Type 0 where
  pub some_point : 0 < length vs
  pub apart : T (different vs)
  pub round : (i : ℕ) → i < length vs → T (linked rows a b (get_or vs i 0) (behind vs i))

-- the links all close: each link's start lies on a closed circle
abbrev pub AllClose : List Row → ℕ → ℕ → Type 0
AllClose rows a b = (v w : ℕ) → T (linked rows a b v w) → (vs : List ℕ) × Circle rows a b vs × Memᴰ v vs

-- more than one closed circle: two without a common point
abbrev pub TwoCircles : List Row → ℕ → ℕ → Type 0
TwoCircles rows a b =
    (vs ws : List ℕ) × Circle rows a b vs × Circle rows a b ws × ((v : ℕ) → Memᴰ v vs → Memᴰ v ws → ⊥)

-- exactly one open chain
abbrev pub OneChain : List Row → ℕ → ℕ → Type 0
OneChain rows a b = (vs : List ℕ) × Round rows a b false vs

-- one ring or chain, but m below 3 or over 10
abbrev pub WrongLength : List Row → ℕ → ℕ → Type 0
WrongLength rows a b = (closed : Bool) × (vs : List ℕ) × Round rows a b closed vs × ((length vs < min_ring) ⊎ (max_ring < length vs))
