-- What a probe gives to C that no other crate says.
use Rattle.std.specs.Prelude.{ℕ}
use Rattle.quality.specs.declared.Kind.TheVariants.{Upright}
use Rattle.quality.specs.declared.Quality.{Quality}
use Rattle.quality.specs.Steps.{from_parts}

-- the upright quality num / den
abbrev pub upright : ℕ → ℕ → Quality
upright num den = from_parts Upright num den
