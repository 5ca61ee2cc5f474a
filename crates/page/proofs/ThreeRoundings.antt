-- Three roundings, of n, of d and of the quotient of what they were rounded to, each off by one part in 2^53 at most, come to one part in
-- 2^51 at most. G, H and Q are n, d and the quotient, each rounded, in units of 1/L.
use Rattle.std.proofs.Common.{ℕ, ◌*◌, ◌^◌, ◌<◌, ◌≤◌, mul-le-mul_right, le_of_mul-le-mul_right, arith, lit<, lit≤}
use Rattle.page.proofs.RoundedClose.{Within}

-- from one ratio to a wider one
widened : (A B C D X Y : ℕ) → 0 < A → B * C ≤ D * A → A * X ≤ B * Y → C * X ≤ D * Y
widened A B C D X Y p k h = le_of_mul-le-mul_right {k = A} (omega (arith, mul-le-mul_right C h, mul-le-mul_right Y k)) p

-- (2^53 + 1)² / (2^53·(2^53 - 1)) is at most (2^51 + 1) / 2^51
wider_up : (X Y : ℕ) → 9007199254740992 * 9007199254740991 * X ≤ 9007199254740993 * 9007199254740993 * Y
    → 2251799813685248 * X ≤ 2251799813685249 * Y
wider_up X Y h =
    widened (9007199254740992 * 9007199254740991) (9007199254740993 * 9007199254740993) 2251799813685248 2251799813685249 X Y
    (lit< tt) (lit≤ tt) h

-- 2^53·(2^53 + 1) / (2^53 - 1)² is at most 2^51 / (2^51 - 1)
wider_down : (X Y : ℕ) → 9007199254740991 * 9007199254740991 * Y ≤ 9007199254740992 * 9007199254740993 * X
    → 2251799813685247 * Y ≤ 2251799813685248 * X
wider_down X Y h =
    widened (9007199254740991 * 9007199254740991) (9007199254740992 * 9007199254740993) 2251799813685247 2251799813685248 Y X
    (lit< tt) (lit≤ tt) h

module _ (n d L G H Q : ℕ) (l : 0 < L)
    (hn : Within (2 ^ 53) G (n * L)) (hd : Within (2 ^ 53) H (d * L)) (hq : Within (2 ^ 53) (Q * H) (G * L)) where
  up : 9007199254740992 * 9007199254740991 * (Q * d) * L ≤ 9007199254740993 * 9007199254740993 * (n * L) * L
  up = omega (arith, mul-le-mul_right Q hd.1, hq.0, mul-le-mul_right L hn.0)

  down : 9007199254740991 * 9007199254740991 * (n * L) * L ≤ 9007199254740992 * 9007199254740993 * (Q * d) * L
  down = omega (arith, mul-le-mul_right Q hd.0, hq.1, mul-le-mul_right L hn.1)

  pub three : Within (2 ^ 51) (Q * d) (n * L)
  three = (
    wider_up (Q * d) (n * L) (le_of_mul-le-mul_right up l),
    omega (arith, wider_down (Q * d) (n * L) (le_of_mul-le-mul_right down l)),
  )
