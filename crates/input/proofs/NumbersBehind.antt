-- Four bytes behind a block, with zeros for those that are not there, are its numbers.
use Prim.Native.Nat.{ℕ, ◌+◌, ◌-◌, min}
use mathlib.Core.List.{List, [], ◌∷◌}
use mathlib.Core.Path.{◌≡◌, refl, ap₂, ◌∙◌}
use native.Mathlib.Omega.{arith}
use lib.ListN.{length, get_or, take, drop, length-take, length-drop}
use lib.Seq.{get_or-drop}
use Rattle.layout.specs.Layout.{block_bytes, byte, filled}
use Rattle.input.specs.declared.Numbers.{Numbers}
use Rattle.input.specs.Steps.{most_numbers, numbers_of}

four_read : (xs : List ℕ) → get_or xs 0 0 ∷ get_or xs 1 0 ∷ get_or xs 2 0 ∷ get_or xs 3 0 ∷ [] ≡ filled most_numbers (take most_numbers xs)
four_read [] = refl
four_read (x ∷ []) = refl
four_read (x ∷ y ∷ []) = refl
four_read (x ∷ y ∷ z ∷ []) = refl
four_read (x ∷ y ∷ z ∷ w ∷ more) = refl

module _ (input : List ℕ) where
  count_is : min most_numbers (length input - min block_bytes (length input)) ≡ length (take most_numbers (drop block_bytes input))
  count_is = omega (arith, length-take most_numbers (drop block_bytes input), length-drop block_bytes input)

  bytes_are : byte input 512 ∷ byte input 513 ∷ byte input 514 ∷ byte input 515 ∷ []
      ≡ filled most_numbers (take most_numbers (drop block_bytes input))
  bytes_are =
      let at : (j : ℕ) → get_or (drop block_bytes input) j 0 ≡ byte input (block_bytes + j) = λ j. get_or-drop block_bytes input j 0 in
      rw (← at 0, ← at 1, ← at 2, ← at 3) (four_read (drop block_bytes input))

  pub behind : {n a b c d : ℕ} → n ≡ min most_numbers (length input - min block_bytes (length input))
      → a ≡ byte input 512 → b ≡ byte input 513 → c ≡ byte input 514 → d ≡ byte input 515
      → record { n = n; all = a ∷ b ∷ c ∷ d ∷ [] } ≡ numbers_of input
  behind n a b c d =
      let made : ℕ → List ℕ → Numbers = λ n all. record { n = n; all = all } in
      rw (a, b, c, d) (ap₂ made (n ∙ count_is) bytes_are)
