-- Tests one after another, left at the first that fails. What a test is given by way of a local is put in the definitions' words.
use Prim.Native.Nat.{ℕ}
use mathlib.Core.Path.{◌≡◌, sym, ap, ◌∙◌}
use mathlib.Core.Bool.{Bool, true, false, not, ◌&&◌}
use borrow.Author.Tests.{eq-eqb, ne_eqb, not-true, not-false}
use lib.Dec.{eqb}

-- a test that fails
pub fails : {a : Bool} (b : Bool) → a ≡ false → false ≡ (a && b)
fails b e = rw e

-- a test that passes leaves the rest
pub passes : {a b : Bool} → a ≡ true → b ≡ (a && b)
passes e = rw e

-- a test whose result was turned round
pub failed : {r a : Bool} → r ≡ a → not r ≡ true → a ≡ false
failed {r} e h = sym e ∙ not-true r h

pub passed : {r a : Bool} → r ≡ a → not r ≡ false → a ≡ true
passed {r} e h = sym e ∙ not-false r h

-- two numbers, of which the second came by way of a local
pub unlike : {x y z : ℕ} → y ≡ z → (x ≡ y → ⊥) → eqb x z ≡ false
unlike {x} {y} {z} e h = ne_eqb x z (λ p. h (p ∙ sym e))

pub alike : {x y z : ℕ} → y ≡ z → x ≡ y → eqb x z ≡ true
alike {x} {y} {z} e h = eq-eqb x z (h ∙ e)

-- two numbers that a test is given
pub at_two : {A : Type 0} (f : ℕ → ℕ → A) {x y e d : ℕ} {r : A} → r ≡ f x y → x ≡ e → y ≡ d → r ≡ f e d
at_two f {x} {y} {e} {d} h p q = h ∙ ap (λ n. f n y) p ∙ ap (f e) q
