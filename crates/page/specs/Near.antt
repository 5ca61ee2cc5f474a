-- Requirement §4.4: how near the f64 that the page gets is to the exact fraction, over whole numbers.
use Rattle.std.specs.Prelude.{◌≡◌, ℕ, ◌+◌, ◌-◌, ◌*◌, ◌^◌, ◌≤◌, Bool, true, false, Float}
use Rattle.std.specs.Float.Ieee.Exact.{HasValue}
use Rattle.quality.specs.declared.Kind.{Kind}
use Rattle.quality.specs.declared.Kind.TheVariants.{Upright, Flat, Inverted}
use Rattle.quality.specs.declared.Quality.{Quality}
use Rattle.page.specs.Page.{plus_zero}

-- |a - b|: of the two differences, each 0 at least, one is 0
abbrev pub distance : ℕ → ℕ → ℕ
distance a b = (a - b) + (b - a)

-- The f64 x is n/2^k, with the sign minus where it is below 0, and n/2^k is within 2^-51 of t/u, relative to t/u:
-- |n·u - t·2^k|·2^51 ≤ t·2^k.
pub record Near (x : Float) (minus : Bool) (t u : ℕ) : Type 0 where
  pub n : ℕ
  pub k : ℕ
  pub value : HasValue x minus n (2 ^ k)
  pub near : distance (n * u) (t * 2 ^ k) * 2 ^ 51 ≤ t * 2 ^ k

-- x is near what a kind and a fraction t/u say: near t/u where upright, near -t/u where inverted, and just +0.0 where flat
abbrev pub NearOf : Kind → ℕ → ℕ → Float → Type 0
NearOf Upright t u x = Near x false t u
NearOf Flat t u x = x ≡ plus_zero
NearOf Inverted t u x = Near x true t u

-- x is near the quality q
abbrev pub ShownNear : Quality → Float → Type 0
ShownNear q x = NearOf q.kind q.num q.den x
