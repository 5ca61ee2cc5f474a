-- The parts of a record: its sizes, where each part starts, and its numbers, low byte first.
use Rattle.std.specs.Prelude.{ℕ, ◌+◌, ◌*◌, min, List, [], ◌∷◌, get_or, take, drop, replicate}

-- the bytes of a record
abbrev pub record_bytes : ℕ
record_bytes = 1152

-- the most bytes of an input or an output
abbrev pub part_bytes : ℕ
part_bytes = 520

-- the numbers of the edge or the flip, the summary or the page row, the ring, the input, the output after the call
abbrev pub numbers_at : ℕ
numbers_at = 8

abbrev pub figures_at : ℕ
figures_at = 32

abbrev pub ring_at : ℕ
ring_at = 88

abbrev pub input_at : ℕ
input_at = 112

abbrev pub output_at : ℕ
output_at = 632

-- the call
abbrev pub call_in : List ℕ → ℕ
call_in stored = get_or stored 0 0

-- the answer
abbrev pub answer_in : List ℕ → ℕ
answer_in stored = get_or stored 1 0

-- m
abbrev pub length_in : List ℕ → ℕ
length_in stored = get_or stored 7 0

-- some bytes of a part
abbrev pub part_in : List ℕ → ℕ → ℕ → List ℕ
part_in stored at n = take n (drop at stored)

-- the number in two bytes
abbrev pub two_at : List ℕ → ℕ → ℕ
two_at stored at = get_or stored at 0 + 256 * get_or stored (at + 1) 0

-- the number in four bytes
unfoldable pub four_at : List ℕ → ℕ → ℕ
four_at stored at = two_at stored at + 65536 * two_at stored (at + 2)

-- the number in eight bytes
unfoldable pub number_at : List ℕ → ℕ → ℕ
number_at stored at = four_at stored at + 4294967296 * four_at stored (at + 4)

-- the numbers of the edge or the flip
abbrev pub number_in : List ℕ → ℕ → ℕ
number_in stored i = number_at stored (numbers_at + 8 * i)

-- how many numbers the flip is given; a record has four at most
abbrev pub count_in : List ℕ → ℕ
count_in stored = min (get_or stored 98 0) 4

abbrev pub four_numbers : List ℕ → List ℕ
four_numbers stored = number_in stored 0 ∷ number_in stored 1 ∷ number_in stored 2 ∷ number_in stored 3 ∷ []

-- the numbers of the flip
abbrev pub numbers_in : List ℕ → List ℕ
numbers_in stored = take (count_in stored) (four_numbers stored)

-- the numbers of the summary, or the bits of the page row
abbrev pub figure_in : List ℕ → ℕ → ℕ
figure_in stored i = number_at stored (figures_at + 8 * i)

-- the length of a part; one that is too large is the most that a part can have
abbrev pub length_at : List ℕ → ℕ → ℕ
length_at stored at = min (two_at stored at) part_bytes

-- the input of the call
abbrev pub input_in : List ℕ → List ℕ
input_in stored = part_in stored input_at (length_at stored 2)

-- the output before the call: one byte, repeated
abbrev pub output_before : List ℕ → List ℕ
output_before stored = take (length_at stored 4) (replicate part_bytes (get_or stored 6 0))
