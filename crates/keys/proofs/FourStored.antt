-- Four numbers of a list, stored and read at their place.
use Prim.Native.Nat.{ℕ, suc, ◌+◌, ◌≤◌}
use mathlib.Core.List.{List, [], ◌∷◌, ◌++◌}
use mathlib.Core.Path.{◌≡◌}
use native.Mathlib.Numerals.{add-one, add-two, add-three}
use native.Mathlib.Omega.{arith}
use lib.ListN.{length, get_or, take, drop, set, length-append}
use lib.Seq.{drop-cons, sets-eq, take_at, length-take-le}

module _ (l : List ℕ) (at : ℕ) (inside : at + 4 ≤ length l) where
  pub four_stored : (a b c d : ℕ)
      → take (at + 4) (set (set (set (set l at a) (at + 1) b) (at + 2) c) (at + 3) d) ≡ take at l ++ a ∷ b ∷ c ∷ d ∷ []
  four_stored a b c d =
      rw (add-one at, add-two at, add-three at, sets-eq (a ∷ b ∷ c ∷ d ∷ []) l at inside)
      (take_at (take at l ++ a ∷ b ∷ c ∷ d ∷ []) (drop (at + 4) l) (at + 4)
      (omega (arith, length-append (take at l) (a ∷ b ∷ c ∷ d ∷ []), length-take-le at l (omega arith))))

  pub four_read : take 4 (drop at l) ≡ get_or l at 0 ∷ get_or l (at + 1) 0 ∷ get_or l (at + 2) 0 ∷ get_or l (at + 3) 0 ∷ []
  four_read =
      rw (
        add-one at,
        add-two at,
        add-three at,
        drop-cons l at 0 (omega arith),
        drop-cons l (suc at) 0 (omega arith),
        drop-cons l (suc (suc at)) 0 (omega arith),
        drop-cons l (suc (suc (suc at))) 0 (omega arith),
      )
