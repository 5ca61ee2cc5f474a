-- Requirement §4: the quality of four places, and the exact order of qualities.
use Rattle.std.specs.Prelude.{ℕ, zero, suc, ◌*◌, ◌^◌, Bool, true, false, cond, not, ◌&&◌, ℤ, pos, negsuc, neg_ℤ, ◌*ℤ◌}
use mathlib.Core.List.{List, [], ◌∷◌, foldl}
use Rattle.std.proofs.Math.Option.{Option, none, some}
use Rattle.std.specs.Int.Signed.{lt_z}
use Rattle.volume.specs.declared.Point.{Point}
use Rattle.volume.specs.Volume.{D, S}
use Rattle.quality.specs.declared.Kind.{Kind}
use Rattle.quality.specs.declared.Kind.TheVariants.{Upright, Flat, Inverted}
use Rattle.quality.specs.declared.Quality.{Quality}

-- ---- quality

-- the 432 of 432·D²/S³
abbrev pub quality_factor : ℕ
quality_factor = 432

-- the zero quality
abbrev pub zero_quality : Quality
zero_quality = record { kind = Flat; num = 0; den = 1 }

-- the fraction 432·D²/S³ of a kind, from the size of D
abbrev pub fraction : Kind → ℕ → ℕ → Quality
fraction kind d s = record { kind = kind; num = quality_factor * d ^ 2; den = s ^ 3 }

-- the quality is 432·D²/S³ for D > 0, 0 for D = 0 (also where S is 0), and minus that fraction for D < 0
unfoldable pub quality_of : ℤ → ℕ → Quality
quality_of (pos zero) s = zero_quality
quality_of (pos (suc d)) s = fraction Upright (suc d) s
quality_of (negsuc d) s = fraction Inverted (suc d) s

-- the quality of a row over four places
unfoldable pub quality : Point → Point → Point → Point → Quality
quality p q r s = quality_of (D p q r s) (S p q r s)

-- D > 0
abbrev pub is_upright : Quality → Bool
is_upright q = elim q.kind [ Upright ↦ true | Flat ↦ false | Inverted ↦ false ]

-- D = 0
abbrev pub is_flat : Quality → Bool
is_flat q = elim q.kind [ Upright ↦ false | Flat ↦ true | Inverted ↦ false ]

-- D < 0
abbrev pub is_inverted : Quality → Bool
is_inverted q = elim q.kind [ Upright ↦ false | Flat ↦ false | Inverted ↦ true ]

-- ---- the exact order

-- the numerator with the quality's sign
abbrev pub signed : Quality → ℤ
signed q = elim q.kind [ Upright ↦ pos q.num | Flat ↦ pos 0 | Inverted ↦ neg_ℤ (pos q.num) ]

-- qualities are ordered as exact fractions: q is worse than r, by cross products
unfoldable pub worse : Quality → Quality → Bool
worse q r = lt_z (signed q *ℤ pos r.den) (signed r *ℤ pos q.den)

-- q and r are one fraction
abbrev pub as_good : Quality → Quality → Bool
as_good q r = not (worse q r) && not (worse r q)

-- the worse of two, the first of equals
abbrev pub worse_of : Quality → Quality → Quality
worse_of q r = cond (worse r q) r q

-- the better of two, the first of equals
abbrev pub better_of : Quality → Quality → Quality
better_of q r = cond (worse q r) r q

-- the worst of a list; of no qualities there is none
unfoldable pub worst : List Quality → Option Quality
worst [] = none
worst (q ∷ qs) = some (foldl worse_of q qs)

-- the best of a list; of no qualities there is none
unfoldable pub best : List Quality → Option Quality
best [] = none
best (q ∷ qs) = some (foldl better_of q qs)
