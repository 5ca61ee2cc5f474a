-- What is read from a cell of the table.
use Prim.Native.Nat.{ℕ, zero, suc, ◌<◌}
use mathlib.Core.Option.{some, none-ne-some, some-injective}
use mathlib.Core.Path.{◌≡◌, refl, subst}
use native.Mathlib.Omega.{arith}
use borrow.Author.Tests.{ne_eqb}
use Rattle.quality.specs.declared.Kind.{Kind}
use Rattle.quality.specs.declared.Kind.TheVariants.{Upright, Flat, Inverted}
use Rattle.quality.specs.declared.Quality.{Quality}
use Rattle.quality.specs.Steps.{from_parts}
use Rattle.cells.specs.Steps.{read_best}

pub parts_are : (kind : Kind) (num den : ℕ) → 0 < den → from_parts kind num den ≡ record { kind = kind; num = num; den = den }
unfolding from_parts
parts_are kind num den h = rw (ne_eqb den 0 (λ e. omega arith))

parts_over : (kind : Kind) (num den : ℕ) → 0 < (from_parts kind num den).den
unfolding from_parts
parts_over kind num zero = omega arith
parts_over kind num (suc den) = rw (parts_are kind num (suc den) (omega arith)) (omega arith)

by_parts : (kind : Kind) (num den : ℕ) (q : Quality) → some (from_parts kind num den) ≡ some q → 0 < q.den
by_parts kind num den q e = subst (λ p. 0 < p.den) (some-injective (from_parts kind num den) q e) (parts_over kind num den)

-- what is read is a fraction
pub read_fraction : (kind num den : ℕ) (q : Quality) → read_best kind num den ≡ some q → 0 < q.den
unfolding read_best
read_fraction zero num den q e = absurd (none-ne-some q e)
read_fraction (suc zero) num den q e = by_parts Inverted num den q e
read_fraction (suc (suc zero)) num den q e = by_parts Flat num den q e
read_fraction (suc (suc (suc n))) num den q e = by_parts Upright num den q e

pub read_upright : (kind num den : ℕ) → (kind ≡ 0 → ⊥) → (kind ≡ 1 → ⊥) → (kind ≡ 2 → ⊥)
    → read_best kind num den ≡ some (from_parts Upright num den)
unfolding read_best
read_upright zero num den a b c = absurd (a refl)
read_upright (suc zero) num den a b c = absurd (b refl)
read_upright (suc (suc zero)) num den a b c = absurd (c refl)
read_upright (suc (suc (suc n))) num den a b c = refl
