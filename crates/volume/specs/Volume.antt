-- Requirement §3.1 and §4: points on the grid, D and S.
use Rattle.std.specs.Prelude.{ℕ, ◌+◌, ◌*◌, ◌^◌, Bool, not, ◌||◌, List, [], ◌∷◌, map, ℤ, pos, nat_abs, ◌+ℤ◌, ◌-ℤ◌, ◌*ℤ◌, get_or}
use Rattle.std.specs.Int.Signed.{lt_z}
use Rattle.lists.specs.Lists.{numbers_from}
use Rattle.volume.specs.declared.Point.{Point}

-- ---- points

-- points of 3 bytes: x, y, z, each 0 to 255
abbrev pub point_size : ℕ
point_size = 3

-- point i of some coordinates: x, y, z
unfoldable pub point_in : List ℕ → ℕ → Point
point_in coordinates i =
    let at = point_size * i in
    let byte : ℕ → ℕ = λ j. get_or coordinates (at + j) 0 in
    record { x = byte 0; y = byte 1; z = byte 2 }

-- the first n points of some coordinates
unfoldable pub points_in : List ℕ → ℕ → List Point
points_in coordinates n = map (point_in coordinates) (numbers_from 0 n)

-- x, y, z
abbrev pub point_bytes : Point → List ℕ
point_bytes p = p.x ∷ p.y ∷ p.z ∷ []

-- ---- D and S

-- An arrow from one place to another, by coordinates.
abbrev pub Arrow : Type 0
Arrow = ℤ × ℤ × ℤ

-- p - s
abbrev pub arrow : Point → Point → Arrow
arrow p s = (pos p.x -ℤ pos s.x, pos p.y -ℤ pos s.y, pos p.z -ℤ pos s.z)

-- the determinant with rows u, v, w
unfoldable pub determinant : Arrow → Arrow → Arrow → ℤ
determinant u v w =
    u.0 *ℤ (v.1 *ℤ w.2 -ℤ v.2 *ℤ w.1)
    -ℤ u.1 *ℤ (v.0 *ℤ w.2 -ℤ v.2 *ℤ w.0)
    +ℤ u.2 *ℤ (v.0 *ℤ w.1 -ℤ v.1 *ℤ w.0)

-- D(p,q,r,s) is the determinant with rows p-s, q-s, r-s
unfoldable pub D : Point → Point → Point → Point → ℤ
D p q r s = determinant (arrow p s) (arrow q s) (arrow r s)

-- the squared length of the edge p q
unfoldable pub squared_length : Point → Point → ℕ
squared_length p q = let u = arrow p q in nat_abs u.0 ^ 2 + nat_abs u.1 ^ 2 + nat_abs u.2 ^ 2

-- S is the sum of the six squared edge lengths
unfoldable pub S : Point → Point → Point → Point → ℕ
S p q r s =
    squared_length p q + squared_length p r + squared_length p s
    + squared_length q r + squared_length q s + squared_length r s

-- the same whole number
abbrev pub same_z : ℤ → ℤ → Bool
same_z x y = not (lt_z x y || lt_z y x)
