-- The points in some coordinates: how many, which is the i-th, and that the first n lie in the first 3·n bytes.
use Prim.Native.Nat.{ℕ, ◌+◌, ◌*◌, ◌<◌}
use mathlib.Core.List.{List}
use mathlib.Core.Path.{◌≡◌, refl, sym, ◌∙◌}
use native.Mathlib.Nat.{add-zero}
use native.Mathlib.Omega.{arith}
use lib.ListN.{length, get_or}
use Rattle.lists.specs.Lists.{numbers_from}
use Rattle.lists.proofs.Images.{map_same}
use Rattle.lists.proofs.Numbers.{numbers_e, map_numbers_length, map_numbers_at}
use Rattle.volume.specs.declared.Point.{Point}
use Rattle.volume.specs.Volume.{point_in, points_in, point_size}

-- point i is the three bytes from 3·i on
pub point_at :
    (bytes : List ℕ) (i : ℕ)
    → ◌≡◌
    {A = Point}
    (record { x = get_or bytes (3 * i) 0; y = get_or bytes (3 * i + 1) 0; z = get_or bytes (3 * i + 2) 0 })
    (point_in bytes i)
unfolding point_in
point_at bytes i = rw (add-zero (3 * i)) refl

-- ---- the first n points

pub points_length : (bytes : List ℕ) (n : ℕ) → length (points_in bytes n) ≡ n
unfolding points_in
points_length bytes n = map_numbers_length (point_in bytes) n

pub points_at_lem : (bytes : List ℕ) (n i : ℕ) (e : Point) → i < n → get_or (points_in bytes n) i e ≡ point_in bytes i
unfolding points_in
points_at_lem bytes n i e h = map_numbers_at (point_in bytes) n i e h

-- ---- the bytes they lie in

module _
    (bytes others : List ℕ) (n : ℕ)
    (same : (j : ℕ) → j < point_size * n → get_or bytes j 0 ≡ get_or others j 0) where
  pub point_same : (i : ℕ) → i < n → point_in bytes i ≡ point_in others i
  point_same i h =
      sym (point_at bytes i)
      ∙ (λ k.
      record {
        x = same (3 * i) (omega arith) k;
        y = same (3 * i + 1) (omega arith) k;
        z = same (3 * i + 2) (omega arith) k;
      })
      ∙ point_at others i

  pub points_same : points_in bytes n ≡ points_in others n
  unfolding points_in
  points_same =
      map_same (point_in bytes) (point_in others) (numbers_from 0 n) (λ i m. point_same i (omega (arith, (numbers_e 0 n m).1)))
