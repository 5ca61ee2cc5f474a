-- Two numbers, or three, are the ones that are read, so what is told of these is told of the call.
use Prim.Native.Nat.{ℕ}
use mathlib.Core.List.{List, [], ◌∷◌}
use mathlib.Core.Path.{◌≡◌, refl, sym, subst}
use native.Mathlib.Omega.{arith}
use lib.ListN.{length, get_or}
use Rattle.std.specs.Prelude.{Result}
use Rattle.answers.specs.declared.Refusal.{Refusal}
use Rattle.calls.proofs.FlipTold.{Told}

pub two_read : (numbers : List ℕ) → length numbers ≡ 2 → numbers ≡ get_or numbers 0 0 ∷ get_or numbers 1 0 ∷ []
two_read [] e = absurd (omega arith)
two_read (x ∷ []) e = absurd (omega arith)
two_read (x ∷ y ∷ []) e = refl
two_read (x ∷ y ∷ z ∷ more) e = absurd (omega arith)

pub three_read : (numbers : List ℕ) → length numbers ≡ 3 → numbers ≡ get_or numbers 0 0 ∷ get_or numbers 1 0 ∷ get_or numbers 2 0 ∷ []
three_read [] e = absurd (omega arith)
three_read (x ∷ []) e = absurd (omega arith)
three_read (x ∷ y ∷ []) e = absurd (omega arith)
three_read (x ∷ y ∷ z ∷ []) e = refl
three_read (x ∷ y ∷ z ∷ w ∷ more) e = absurd (omega arith)

module _ (block out numbers : List ℕ) where
  pub two_told : length numbers ≡ 2 → {answer : Result (Unit {0}) Refusal} {after : List ℕ}
      → Told block out (get_or numbers 0 0 ∷ get_or numbers 1 0 ∷ []) answer after → Told block out numbers answer after
  two_told e {answer} {after} = subst (λ ns. Told block out ns answer after) (sym (two_read numbers e))

  pub three_told : length numbers ≡ 3 → {answer : Result (Unit {0}) Refusal} {after : List ℕ}
      → Told block out (get_or numbers 0 0 ∷ get_or numbers 1 0 ∷ get_or numbers 2 0 ∷ []) answer after → Told block out numbers answer after
  three_told e {answer} {after} = subst (λ ns. Told block out ns answer after) (sym (three_read numbers e))
