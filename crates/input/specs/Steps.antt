-- What only contracts of inner functions and proofs say: the numbers that stand behind a block.
use Rattle.std.specs.Prelude.{ℕ, List, length, take, drop}
use Rattle.layout.specs.Layout.{block_bytes, filled}
use Rattle.input.specs.declared.Numbers.{Numbers}

-- four numbers are too many for any flip
abbrev pub most_numbers : ℕ
most_numbers = 4

-- the first four numbers behind the block, or as many as there are, and zeros behind them
abbrev pub numbers_of : List ℕ → Numbers
numbers_of input =
    let numbers = take most_numbers (drop block_bytes input) in
    record { n = length numbers; all = filled most_numbers numbers }
