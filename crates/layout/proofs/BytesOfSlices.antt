-- What a slice of bytes holds: numbers up to 255, and 0 behind them; and so do its parts.
use Rattle.std.proofs.Common.{◌≡◌, ℕ, ◌-◌, ◌<◌, ◌≤◌, Bool, true, false, T, ltb, List, length, drop, refl, arith, ltb→lt, lt→ltb, w8, Fits, ltb-false, ltb-true}
use lib.ListN.{get_or-eq_default}
use Rattle.lists.specs.Lists.{every}
use Rattle.lists.proofs.Lists.{every_at, every_i, every_take, every_drop}
use Rattle.lists.proofs.Places.{at_in, in_at}
use Rattle.volume.specs.Steps.{largest_byte}
use Rattle.layout.specs.Layout.{byte, part}
use Rattle.layout.specs.Within.{is_byte}

pub all_bytes : (xs : List ℕ) → ((i : ℕ) → Fits w8 (byte xs i)) → T (every is_byte xs)
all_bytes xs f = every_i is_byte xs λ x k. let (i, h, e) = in_at xs 0 k in rw e at (lt→ltb (byte xs i) 256 (f i).fits)

pub byte_most : (xs : List ℕ) → T (every is_byte xs) → (i : ℕ) → byte xs i ≤ largest_byte
byte_most xs h i = go (ltb i (length xs)) refl
  where
    go : (b : Bool) → ltb i (length xs) ≡ b → byte xs i ≤ largest_byte
    go true e = omega (arith, ltb→lt (byte xs i) 256 (every_at is_byte xs h (at_in xs i 0 (ltb-true i (length xs) e))))
    go false e = omega (arith, get_or-eq_default xs 0 (ltb-false i (length xs) e))

pub byte_below : (xs : List ℕ) → T (every is_byte xs) → (i : ℕ) → byte xs i < 256
byte_below xs h i = omega (arith, byte_most xs h i)

pub part_bytes_lem : (i j : ℕ) (block : List ℕ) → T (every is_byte block) → T (every is_byte (part i j block))
part_bytes_lem i j block h = every_take is_byte (j - i) (drop i block) (every_drop is_byte i block h)
