-- Requirement §9: the numbers that each call answers, in the order of the table of answers.
use Rattle.std.specs.Prelude.{ℕ, List, [], ◌∷◌, ◌++◌}
use Rattle.calls.specs.Flipping.{by_count}

-- the numbers that opening, the summary and what is shown answer
abbrev pub open_numbers : List ℕ
open_numbers = 0 ∷ 1 ∷ 2 ∷ 3 ∷ 4 ∷ 5 ∷ 7 ∷ 8 ∷ 22 ∷ []

-- the numbers that sealing answers
abbrev pub seal_numbers : List ℕ
seal_numbers = 0 ∷ 1 ∷ 3 ∷ 4 ∷ 5 ∷ 7 ∷ 8 ∷ 22 ∷ []

-- the numbers that a removal answers
abbrev pub remove_numbers : List ℕ
remove_numbers = open_numbers ++ (9 ∷ 10 ∷ 11 ∷ 12 ∷ 13 ∷ 19 ∷ 20 ∷ 23 ∷ 14 ∷ 15 ∷ 16 ∷ [])

-- the numbers that a flip answers, by how many it is given: of an edge, of a face, and with any other count, with which it is never done
abbrev pub flip_numbers : List ℕ → List ℕ
flip_numbers =
    by_count
    (λ e f. open_numbers ++ (9 ∷ 10 ∷ 11 ∷ 12 ∷ 13 ∷ 20 ∷ 23 ∷ 15 ∷ []))
    (λ x y z. open_numbers ++ (9 ∷ 10 ∷ 11 ∷ 18 ∷ 20 ∷ 23 ∷ 14 ∷ 15 ∷ []))
    (1 ∷ 2 ∷ 3 ∷ 4 ∷ 5 ∷ 7 ∷ 8 ∷ 22 ∷ 21 ∷ [])
