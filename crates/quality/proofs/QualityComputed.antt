-- The quality by D and S, put together from what the code computes: the sign of D tells the clause.
use mathlib.Core.Bool.{true, false}
use mathlib.Core.Path.{◌≡◌, refl, sym, ap, ◌∙◌}
use Prim.Native.Nat.{ℕ, zero, suc, ◌*◌, ◌^◌}
use native.Mathlib.Nat.{not-suc-le-zero}
use borrow.Author.Tests.{ltb-true}
use lib.IntN.{ℤ, pos, negsuc, nat_abs}
use lib.Signed.{lt_z}
use mir.Syntax.{w64}
use mir.Val.{SFits, to_z, of_z}
use mir.Facts.{to_z-of_z}
use Rattle.lists.proofs.Tests.{is_no}
use Rattle.volume.proofs.PointPolynomials.{cube_is}
use Rattle.quality.specs.declared.Kind.{Kind}
use Rattle.quality.specs.declared.Kind.TheVariants.{Upright, Inverted}
use Rattle.quality.specs.declared.Quality.{Quality}
use Rattle.quality.specs.Quality.{quality_factor, fraction, quality_of, zero_quality}

-- the fraction of a kind, as the code has it
fraction_is :
    (kind : Kind) (d s n : ℕ) → n ≡ d ^ 2
    → ◌≡◌ {A = Quality} (record { kind = kind; num = quality_factor * n; den = s * s * s }) (fraction kind d s)
fraction_is kind d s n e = λ t. record { kind = kind; num = quality_factor * e t; den = sym (cube_is s) t }

pub flat_is : (d : ℤ) (s : ℕ) → SFits w64 d → of_z w64 d ≡ 0 → zero_quality ≡ quality_of d s
unfolding quality_of
flat_is d s fits e = ap (λ z. quality_of z s) (sym (sym (to_z-of_z fits) ∙ ap (to_z w64) e))

pub inverted_is :
    (d : ℤ) (s n : ℕ) → n ≡ nat_abs d ^ 2 → lt_z d (pos 0) ≡ true
    → ◌≡◌ {A = Quality} (record { kind = Inverted; num = quality_factor * n; den = s * s * s }) (quality_of d s)
unfolding quality_of
inverted_is (pos d) s n e h = absurd (not-suc-le-zero (ltb-true d 0 h))
inverted_is (negsuc d) s n e h = fraction_is Inverted (suc d) s n e

pub upright_is :
    (d : ℤ) (s n : ℕ) → n ≡ nat_abs d ^ 2 → (of_z w64 d ≡ 0 → ⊥) → lt_z d (pos 0) ≡ false
    → ◌≡◌ {A = Quality} (record { kind = Upright; num = quality_factor * n; den = s * s * s }) (quality_of d s)
unfolding quality_of
upright_is (pos zero) s n e f h = absurd (f refl)
upright_is (pos (suc d)) s n e f h = fraction_is Upright (suc d) s n e
upright_is (negsuc d) s n e f h = absurd (is_no true h)
