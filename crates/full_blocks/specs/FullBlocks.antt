-- Requirement §9.3, computed: room for the rows afterwards, of a ring and of a chain.
use Rattle.std.specs.Prelude.{ℕ, suc, ◌+◌, Bool, true, false, ◌&&◌, List, [], ◌∷◌, ◌++◌, map, T, eqb, length, take, replicate}
use Rattle.lists.specs.Lists.{numbers_from}
use Rattle.volume.specs.declared.Point.{Point}
use Rattle.rows.specs.declared.Row.{Row}
use Rattle.layout.specs.Layout.{Patch, max_points, bytes_of}
use Rattle.answers.specs.Answers.{Tests, first_refusal}
use Rattle.ring.specs.Ring.{site_of, m, or_chains, edge_tests}
use Rattle.calls.specs.Removing.{block_tests, removal_tests}
use Rattle.facts.specs.AllDefinitions.{definitions}
use Rattle.facts.specs.Facts.{at, row, blank, answer}

-- a strip of n rows over consecutive points, from point i on: two that meet use their common face once each way
unfoldable pub strip : ℕ → ℕ → List Row
strip i n = map (λ j. row j (suc j) (j + 2) (j + 3)) (numbers_from i n)

-- 64 points, the first some given, the others at one place
abbrev pub sixty_four : List Point → List Point
sixty_four points = take max_points (points ++ replicate max_points (at 9 9 9))

-- a ring of six round 0, 1 with n more rows
unfoldable pub six_ring : ℕ → Patch
six_ring n = record {
  points = sixty_four (at 8 8 16 ∷ at 8 8 0 ∷ at 16 8 8 ∷ at 12 15 8 ∷ at 4 15 8 ∷ at 0 8 8 ∷ at 4 1 8 ∷ at 12 1 8 ∷ []);
  rows = row 0 1 2 3 ∷ row 0 1 3 4 ∷ row 0 1 4 5 ∷ row 0 1 5 6 ∷ row 0 1 6 7 ∷ row 0 1 7 2 ∷ strip 8 n;
}

-- a long edge 0, 1 in a ring of four, with n more rows
unfoldable pub four_ring : ℕ → Patch
four_ring n = record {
  points = sixty_four (at 6 6 60 ∷ at 6 6 0 ∷ at 12 6 30 ∷ at 6 12 30 ∷ at 0 6 30 ∷ at 6 0 30 ∷ []);
  rows = row 0 1 2 3 ∷ row 0 1 3 4 ∷ row 0 1 4 5 ∷ row 0 1 5 2 ∷ strip 5 n;
}

-- a long edge 0, 1 on a flat face in a chain of four, with n more rows
unfoldable pub four_chain : ℕ → Patch
four_chain n = record {
  points = sixty_four (at 30 0 60 ∷ at 30 0 0 ∷ at 36 0 30 ∷ at 34 6 30 ∷ at 26 6 30 ∷ at 24 0 30 ∷ []);
  rows = row 0 1 2 3 ∷ row 0 1 3 4 ∷ row 0 1 4 5 ∷ strip 4 n;
}

-- the patch has so many rows and a ring or chain of so many points round 0, 1
abbrev sized : Patch → ℕ → ℕ → Bool
sized patch rows points = eqb (length patch.rows) rows && eqb (m (site_of patch 0 1)) points

-- the tests in front of the one with a number, and that one
unfoldable pub up_to : ℕ → Tests → Tests
up_to n [] = []
up_to n (test ∷ tests) = elim (eqb test.0 n) [ true ↦ test ∷ [] | false ↦ test ∷ up_to n tests ]

-- the answer of the removal of edge 0, 1 as far as 14
abbrev as_far_as14 : Patch → ℕ
as_far_as14 patch =
    let site = site_of patch 0 1 in
    first_refusal (up_to 14 (block_tests (bytes_of 1 patch) blank ++ edge_tests or_chains site 0 1 ++ removal_tests site))

-- 58 rows with m = 6 pass, 59 get 14; 60 rows with m = 4 pass
pub room :
    T (sized (six_ring 52) 58 6 && eqb (as_far_as14 (six_ring 52)) 0
    && sized (six_ring 53) 59 6 && eqb (answer (six_ring 53) 0 1) 14
    && sized (four_ring 56) 60 4 && eqb (answer (four_ring 56) 0 1) 0)
unfolding strip six_ring four_ring up_to definitions
room = tt

-- "room is rows + m - 3": 59 rows with m = 4 pass, 60 get 14
pub room_of_a_chain :
    T (sized (four_chain 56) 59 4 && eqb (answer (four_chain 56) 0 1) 0
    && sized (four_chain 57) 60 4 && eqb (answer (four_chain 57) 0 1) 14)
unfolding strip four_chain definitions
room_of_a_chain = tt
