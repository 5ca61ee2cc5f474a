-- A consistent quality is a fraction that is 0 only where it is flat. Consistent qualities that are one fraction have one
-- kind. Every quality of four places is consistent, and one by its parts is a fraction.
use Prim.Native.Nat.{ℕ, zero, suc, ◌*◌, ◌<◌}
use mathlib.Core.Bool.{not}
use mathlib.Core.Path.{◌≡◌, refl}
use native.Mathlib.Nat.{mul-pos}
use native.Mathlib.Omega.{arith}
use lib.Dec.{T}
use borrow.Author.Tests.{ne_eqb}
use Rattle.volume.specs.declared.Point.{Point}
use Rattle.quality.specs.declared.Kind.{Kind}
use Rattle.quality.specs.declared.Kind.TheVariants.{Upright, Flat, Inverted}
use Rattle.quality.specs.declared.Quality.{Quality}
use Rattle.quality.specs.Steps.{from_parts}
use Rattle.quality.specs.Quality.{zero_quality, quality, is_upright, is_flat, as_good}
use Rattle.quality.proofs.AtMostOne.{denominator, not_flat_lem}
use Rattle.quality.proofs.QualityOrder.{Fraction, from_as_good}
use Rattle.quality.proofs.SidesOfZero.{over, under, same_sides}

pub record Consistent (q : Quality) : Type 0 where
  pub fraction : Fraction q
  pub size : T (not (is_flat q)) → 0 < q.num

-- q's size with another kind
abbrev pub of_kind : Kind → Quality → Quality
of_kind k q = record { kind = k; num = q.num; den = q.den }

pub upright_not_flat : (q : Quality) → T (is_upright q) → T (not (is_flat q))
upright_not_flat q = go q.kind
  where
    go : (k : Kind) → T (is_upright (of_kind k q)) → T (not (is_flat (of_kind k q)))
    go Upright t = tt
    go Flat t = absurd t
    go Inverted t = absurd t

pub upright_size : (q : Quality) → Consistent q → T (is_upright q) → 0 < q.num
upright_size q p u = p.size (upright_not_flat q u)

-- every quality of four places is consistent

pub zero_quality_fraction : Fraction zero_quality
zero_quality_fraction = record { over = omega arith }

pub quality_fraction : (p q r s : Point) → Fraction (quality p q r s)
quality_fraction p q r s = record { over = denominator p q r s }

pub quality_consistent : (p q r s : Point) → Consistent (quality p q r s)
quality_consistent p q r s = record { fraction = quality_fraction p q r s; size = not_flat_lem p q r s }

-- q and r are one fraction, and stand alike
pub record Same (q r : Quality) : Type 0 where
  pub kind : q.kind ≡ r.kind
  pub size : T (not (is_flat q)) → q.num * r.den ≡ r.num * q.den

no_product : (a b : ℕ) → 0 < a → 0 < b → a * b ≡ 0 → ⊥
no_product a b p h e = omega (arith, mul-pos p h)

alike :
    (k l : Kind) (a b c d : ℕ)
    → let q : Quality = record { kind = k; num = a; den = b } in
    let r : Quality = record { kind = l; num = c; den = d } in
    Consistent q
    → Consistent r
    → over q * d ≡ over r * b
    → under q * d ≡ under r * b
    → Same q r
alike Upright Upright a b c d p s e f = record { kind = refl; size = λ t. e }
alike Upright Flat a b c d p s e f = absurd (no_product a d (p.size tt) s.fraction.over (omega arith))
alike Upright Inverted a b c d p s e f = absurd (no_product a d (p.size tt) s.fraction.over (omega arith))
alike Flat Upright a b c d p s e f = absurd (no_product c b (s.size tt) p.fraction.over (omega arith))
alike Flat Flat a b c d p s e f = record { kind = refl; size = λ t. absurd t }
alike Flat Inverted a b c d p s e f = absurd (no_product c b (s.size tt) p.fraction.over (omega arith))
alike Inverted Upright a b c d p s e f = absurd (no_product a d (p.size tt) s.fraction.over (omega arith))
alike Inverted Flat a b c d p s e f = absurd (no_product a d (p.size tt) s.fraction.over (omega arith))
alike Inverted Inverted a b c d p s e f = record { kind = refl; size = λ t. f }

pub same : (q r : Quality) → Consistent q → Consistent r → T (as_good q r) → Same q r
same q r p s h =
    let e = same_sides (from_as_good q r h) in
    alike q.kind r.kind q.num q.den r.num r.den p s e.0 e.1

-- ---- by parts

-- no quality by parts has the denominator 0
pub parts_den : (kind : Kind) (n d : ℕ) → 0 < (from_parts kind n d).den
unfolding from_parts
parts_den kind n zero = omega arith
parts_den kind n (suc d) = rw (ne_eqb (suc d) 0 (λ e. omega arith)) (omega arith)

-- a quality is that of its parts
pub parts_back : (q : Quality) → 0 < q.den → from_parts q.kind q.num q.den ≡ q
unfolding from_parts
parts_back q h = rw (ne_eqb q.den 0 (λ e. omega arith)) refl
