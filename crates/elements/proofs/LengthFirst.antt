-- An output of another length stays as it came, with answer 1; one of the right length gets what the call gives.
use Prim.Native.Nat.{ℕ}
use mathlib.Core.List.{List}
use mathlib.Core.Path.{◌≡◌, ◌∙◌}
use borrow.Author.Tests.{eq-eqb, ne_eqb}
use lib.ListN.{length}
use Rattle.elements.specs.Elements.{sized, fitting}

module _ {A : Type 0} (must answer : ℕ) (elements out : List A) where
  abbrev Leaves : ℕ → List A → Type 0
  Leaves n now = (n ≡ sized must (length out) answer) × (now ≡ fitting must elements out)

  pub other_length : (length out ≡ must → ⊥) → Leaves 1 out
  other_length other = (rw (ne_eqb _ _ other), rw (ne_eqb _ _ other))

  pub right_length : length out ≡ must → {n : ℕ} {now : List A} → n ≡ answer → now ≡ elements → Leaves n now
  right_length right number own = (number ∙ rw (eq-eqb _ _ right), own ∙ rw (eq-eqb _ _ right))
