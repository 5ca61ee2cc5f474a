-- Requirement §4.3: different fractions may round to one f64. Two rows with one shown quality, of which the exact order says which is worse.
use Rattle.std.specs.Prelude.{ℕ, not, ◌&&◌, ◌≡◌, refl, T}
use Rattle.std.specs.Float.Ieee.{to_bits}
use Rattle.std.specs.Float.{binary64}
use Rattle.quality.specs.declared.Kind.TheVariants.{Upright}
use Rattle.quality.specs.declared.Quality.{Quality}
use Rattle.quality.specs.Quality.{quality, worse}
use Rattle.page.specs.Page.{shown, signed_size}
use Rattle.facts.specs.AllDefinitions.{definitions}
use Rattle.facts.specs.Facts.{at}

-- the qualities of two rows with two points in common, each over four places of the grid
unfoldable pub better : Quality
better = quality (at 41 95 126) (at 47 31 63) (at 90 35 65) (at 92 78 64)

unfoldable pub lesser : Quality
lesser = quality (at 28 86 62) (at 47 31 63) (at 90 35 65) (at 92 65 37)

-- the two fractions, both upright
pub fractions :
    (better ≡ record { kind = Upright; num = 6172269103152; den = 34375678190875 })
    × (lesser ≡ record { kind = Upright; num = 2022674749632; den = 11265033185713 })
unfolding better lesser definitions
fractions = (refl, refl)

-- the bits of the f64 that the page gets
abbrev pub bits : Quality → ℕ
bits q = to_bits binary64 (signed_size (shown q))

-- both are shown as one, with the bits of 0.1795533769218966
pub shown_alike : (shown better ≡ shown lesser) × (bits better ≡ 4595637112461723966) × (bits lesser ≡ 4595637112461723966)
unfolding better lesser definitions
shown_alike = (refl, refl, refl)

-- the order of qualities tells them apart: the second is worse than the first, and not the other way round
pub told_apart : T (worse lesser better && not (worse better lesser))
unfolding better lesser definitions
told_apart = tt
