-- A slice of two or seven elements, each of them written: nothing of what stood there is left.
use Prim.Native.Nat.{ℕ}
use native.Mathlib.Omega.{arith}
use mathlib.Core.Path.{◌≡◌, refl}
use mathlib.Core.List.{List, [], ◌∷◌}
use lib.Ieee.{Float}
use lib.ListN.{length, set}

pub two_filled : (s : List Float) (x y : Float) → length s ≡ 2 → set (set s 0 x) 1 y ≡ x ∷ y ∷ []
two_filled [] x y two = absurd (omega (arith, two))
two_filled (_ ∷ []) x y two = absurd (omega (arith, two))
two_filled (_ ∷ _ ∷ []) x y two = refl
two_filled (_ ∷ _ ∷ _ ∷ _) x y two = absurd (omega (arith, two))

pub seven_filled : (s : List ℕ) (a b c d e f g : ℕ) → length s ≡ 7
    → set (set (set (set (set (set (set s 0 a) 1 b) 2 c) 3 d) 4 e) 5 f) 6 g ≡ a ∷ b ∷ c ∷ d ∷ e ∷ f ∷ g ∷ []
seven_filled [] a b c d e f g seven = absurd (omega (arith, seven))
seven_filled (_ ∷ []) a b c d e f g seven = absurd (omega (arith, seven))
seven_filled (_ ∷ _ ∷ []) a b c d e f g seven = absurd (omega (arith, seven))
seven_filled (_ ∷ _ ∷ _ ∷ []) a b c d e f g seven = absurd (omega (arith, seven))
seven_filled (_ ∷ _ ∷ _ ∷ _ ∷ []) a b c d e f g seven = absurd (omega (arith, seven))
seven_filled (_ ∷ _ ∷ _ ∷ _ ∷ _ ∷ []) a b c d e f g seven = absurd (omega (arith, seven))
seven_filled (_ ∷ _ ∷ _ ∷ _ ∷ _ ∷ _ ∷ []) a b c d e f g seven = absurd (omega (arith, seven))
seven_filled (_ ∷ _ ∷ _ ∷ _ ∷ _ ∷ _ ∷ _ ∷ []) a b c d e f g seven = refl
seven_filled (_ ∷ _ ∷ _ ∷ _ ∷ _ ∷ _ ∷ _ ∷ _ ∷ _) a b c d e f g seven = absurd (omega (arith, seven))
