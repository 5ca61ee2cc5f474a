-- Requirement §4.4: what an f64 does not tell. Two rows whose f64 stand in the other order than their fractions, and two rows of one fraction
-- with two f64. Each f64 is near its fraction, and the order of qualities is that of the fractions.
use Rattle.std.specs.Prelude.{◌≡◌, refl, T}
use Rattle.quality.specs.declared.Kind.TheVariants.{Upright}
use Rattle.quality.specs.declared.Quality.{Quality}
use Rattle.quality.specs.Quality.{quality, worse, as_good}
use Rattle.facts.specs.AllDefinitions.{definitions}
use Rattle.facts.specs.Facts.{at}
use Rattle.instances.specs.CloseQualities.{bits}

-- ---- in the other order

unfoldable pub lesser : Quality
lesser = quality (at 136 68 71) (at 220 2 217) (at 6 232 241) (at 236 61 49)

unfoldable pub better : Quality
better = quality (at 52 18 189) (at 182 251 31) (at 65 28 120) (at 251 33 135)

pub fractions :
    (lesser ≡ record { kind = Upright; num = 4987729458862848; den = 49106302018864875 })
    × (better ≡ record { kind = Upright; num = 3120877172106288; den = 30726353191612931 })
unfolding lesser better definitions
fractions = (refl, refl)

-- the first is the worse one, and its f64 is the next above the other's
pub other_order : T (worse lesser better) × (bits lesser ≡ 4591983313956732078) × (bits better ≡ 4591983313956732077)
unfolding lesser better definitions
other_order = (tt, refl, refl)

-- ---- one fraction

unfoldable pub small : Quality
small = quality (at 2 69 1) (at 72 17 33) (at 49 17 30) (at 61 85 7)

-- the same row, three times as large
unfoldable pub enlarged : Quality
enlarged = quality (at 6 207 3) (at 216 51 99) (at 147 51 90) (at 183 255 21)

pub parts :
    (small ≡ record { kind = Upright; num = 17628427008; den = 25440718553531 })
    × (enlarged ≡ record { kind = Upright; num = 12851123288832; den = 18546283825524099 })
unfolding small enlarged definitions
parts = (refl, refl)

-- one fraction, and two f64
pub two_shown : T (as_good small enlarged) × (bits small ≡ 4559530298286893923) × (bits enlarged ≡ 4559530298286893922)
unfolding small enlarged definitions
two_shown = (tt, refl, refl)
