-- A ring and a flat chain of each length from 3 to 10 round the edge 0, 1; and the kernel that refuses one length.
use Rattle.std.specs.Prelude.{ℕ, suc, ◌+◌, ◌-◌, Bool, true, false, cond, not, ◌&&◌, List, [], ◌∷◌, ◌++◌, map, eqb, take, Err}
use Rattle.lists.specs.Lists.{numbers_from}
use Rattle.volume.specs.declared.Point.{Point}
use Rattle.layout.specs.Layout.{Patch, fields_of}
use Rattle.ring.specs.Ring.{site_of, m}
use Rattle.calls.specs.Removing.{remove_gives, remove_bytes}
use Rattle.demands.specs.Kernels.{Kernel}
use Rattle.facts.specs.Facts.{at, row}
use Rattle.rivals.specs.Useless.{with_remove}

-- ---- the blocks

-- ten points round a circle
unfoldable pub circle_points : List Point
circle_points =
    at 20 10 12 ∷ at 18 16 12 ∷ at 13 20 12 ∷ at 7 20 12 ∷ at 2 16 12
    ∷ at 0 10 12 ∷ at 2 4 12 ∷ at 7 0 12 ∷ at 13 0 12 ∷ at 18 4 12 ∷ []

-- eight points round half of it
unfoldable pub half_points : List Point
half_points =
    at 19 14 12 ∷ at 18 16 12 ∷ at 15 19 12 ∷ at 12 20 12 ∷ at 8 20 12 ∷ at 5 19 12 ∷ at 2 16 12 ∷ at 1 14 12 ∷ []

-- the first of the ten; or a chain of the eight, with both ends in one plane with the edge
unfoldable pub wheel_points : Bool → ℕ → List Point
wheel_points true n = take n circle_points
wheel_points false n = at 20 10 12 ∷ take (n - 2) half_points ++ at 0 10 12 ∷ []

-- the edge 0, 1 stands outside them, so some rows round it are inverted; the points are 2, 3, and so on
unfoldable pub wheel : Bool → ℕ → Patch
wheel closed n = record {
  points = at 30 10 24 ∷ at 30 10 0 ∷ wheel_points closed n;
  rows = map (λ i. row 0 1 (i + 2) (cond (eqb (suc i) n) 2 (i + 3))) (numbers_from 0 (n - cond closed 0 1));
}

-- ---- the kernels

-- ours, but it refuses where a test says so, with whatever numbers
abbrev pub refusing_where : (List ℕ → ℕ → ℕ → Bool) → (List ℕ → List ℕ → ℕ → ℕ → ℕ) → Kernel
refusing_where test number =
    with_remove (λ block out e f.
    cond (test block e f) (Err (record { number = suc (number block out e f) }), out)
    (remove_gives block out e f, remove_bytes block out e f))

-- the same truth value
abbrev pub same_bool : Bool → Bool → Bool
same_bool a b = cond a b (not b)

-- the edge has a ring, or a chain, of so many points
unfoldable pub has_length : Bool → ℕ → List ℕ → ℕ → ℕ → Bool
has_length closed n block e f =
    let site = site_of (fields_of block) e f in
    same_bool site.closed closed && eqb (m site) n

-- one that refuses every ring, or every chain, of so many points: of seven, say, with 12
abbrev pub refusing_length : Bool → ℕ → (List ℕ → List ℕ → ℕ → ℕ → ℕ) → Kernel
refusing_length closed n number = refusing_where (has_length closed n) number
