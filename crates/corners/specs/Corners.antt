-- The quality of the row over four points, as three numbers.
use Rattle.std.specs.Prelude.{ℕ, cond, ◌&&◌, List, [], ◌∷◌, eqb, length}
use Rattle.quality.specs.declared.Kind.{Kind}
use Rattle.quality.specs.declared.Kind.TheVariants.{Upright, Flat, Inverted}
use Rattle.quality.specs.declared.Quality.{Quality}
use Rattle.volume.specs.Volume.{point_in}
use Rattle.quality.specs.Quality.{quality}

-- four points of three bytes
abbrev pub corner_bytes : ℕ
corner_bytes = 12

-- kind, numerator, denominator
abbrev pub parts : ℕ
parts = 3

-- D > 0, D = 0, D < 0
abbrev pub kind_number : Kind → ℕ
kind_number Upright = 0
kind_number Flat = 1
kind_number Inverted = 2

-- a quality by its parts
abbrev pub parts_of : Quality → List ℕ
parts_of q = kind_number q.kind ∷ q.num ∷ q.den ∷ []

-- the quality of the row over the first four points
abbrev pub quality_in : List ℕ → Quality
quality_in corners = quality (point_in corners 0) (point_in corners 1) (point_in corners 2) (point_in corners 3)

-- the parts of that quality; with other lengths what stood there before
unfoldable pub measured : List ℕ → List ℕ → List ℕ
measured corners before = cond (eqb (length corners) corner_bytes && eqb (length before) parts) (parts_of (quality_in corners)) before
