-- Requirement §2.3: the two sums with no wrapping on the way.
use Rattle.std.specs.Prelude.{ℕ, List, map, length, take}
use Rattle.lists.specs.Lists.{sum, numbers_from}

-- the byte is added to the first sum: the sum of all bytes
abbrev pub plain_first : List ℕ → ℕ
plain_first body = sum body

-- then the first sum to the second: the sum of what the first sum is after 1, 2 and so on up to all bytes
abbrev pub plain_second : List ℕ → ℕ
plain_second body = sum (map (λ n. sum (take n body)) (numbers_from 1 (length body)))
