-- Requirement §4: fractions are ordered exactly, and a quotient is rounded up.
use Rattle.std.specs.Prelude.{ℕ, ◌+◌, ◌*◌, ◌/◌, ◌%◌, Bool, cond, eqb, ltb}

-- "ordered as exact fractions": n1 / d1 is less than n2 / d2, by the cross products as whole numbers of any size
abbrev pub is_less : ℕ → ℕ → ℕ → ℕ → Bool
is_less n1 d1 n2 d2 = ltb (n1 * d2) (n2 * d1)

-- "rounded up": the whole part of n / d, and one more where a remainder is left; n / 0 is taken as 0
unfoldable pub rounded_up : ℕ → ℕ → ℕ
rounded_up n d = cond (eqb d 0) 0 (n / d + cond (eqb (n % d) 0) 0 1)
