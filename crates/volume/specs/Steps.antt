-- What only contracts of inner functions and proofs say: how large D and S get, whatever bytes the coordinates are.
use Rattle.std.specs.Prelude.{ℕ, ◌*◌, ◌^◌}

-- the largest byte
abbrev pub largest_byte : ℕ
largest_byte = 255

-- a 2 by 2 determinant of differences of bytes is at most this in size
abbrev pub minor_limit : ℕ
minor_limit = 2 * largest_byte ^ 2

-- D is at most this in size
abbrev pub volume_limit : ℕ
volume_limit = 2 * largest_byte ^ 3

-- a squared length is at most this
abbrev pub length_limit : ℕ
length_limit = 3 * largest_byte ^ 2

-- S is at most this
abbrev pub spread_limit : ℕ
spread_limit = 12 * largest_byte ^ 2
