-- Requirement §4.4 and §4.5: what the page shows.
use Rattle.std.specs.Prelude.{ℕ, false, pos, Float}
use Rattle.std.specs.Float.Ieee as Ieee
use Rattle.std.specs.Float.{fin, binary64}
use Rattle.quality.specs.declared.Kind.TheVariants.{Upright, Flat, Inverted}
use Rattle.quality.specs.declared.Quality.{Quality}
use Rattle.page.specs.declared.Shown.{Shown}
use Rattle.page.specs.declared.Shown.TheVariants as Shows
use Rattle.page.specs.declared.PageRow.{PageRow}

-- the single quotient of the two whole numbers, both carried over to f64, each rounded to the nearest
unfoldable pub quotient : ℕ → ℕ → Float
quotient n d = Ieee.div binary64 (Ieee.of_int binary64 (pos n)) (Ieee.of_int binary64 (pos d))

-- one shown quality: flat, upright with an f64, or inverted with the f64 of the size
unfoldable pub shown : Quality → Shown
shown q =
    let size = quotient q.num q.den in
    elim q.kind [ Upright ↦ Shows.Upright size | Flat ↦ Shows.Flat | Inverted ↦ Shows.Inverted size ]

-- 0.0 with the sign plus
abbrev pub plus_zero : Float
plus_zero = fin false 0 (pos 0)

-- the f64 size: 0 for flat and negative for inverted
abbrev pub signed_size : Shown → Float
signed_size Shows.Flat = plus_zero
signed_size (Shows.Upright x) = x
signed_size (Shows.Inverted x) = Ieee.neg x

-- the page row is a record of two such f64 sizes, worst before and worst after
unfoldable pub page_row : Shown → Shown → PageRow
page_row before after = record { before = signed_size before; after = signed_size after }
