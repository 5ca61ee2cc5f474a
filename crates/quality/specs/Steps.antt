-- What only contracts of inner functions and proofs say: a quality put together from parts that were stored.
use Rattle.std.specs.Prelude.{ℕ, cond, eqb}
use Rattle.quality.specs.declared.Kind.{Kind}
use Rattle.quality.specs.declared.Quality.{Quality}
use Rattle.quality.specs.Quality.{zero_quality}

-- a quality by its parts; a denominator of 0 makes none, and gives the zero quality
unfoldable pub from_parts : Kind → ℕ → ℕ → Quality
from_parts kind num den = cond (eqb den 0) zero_quality (record { kind = kind; num = num; den = den })
