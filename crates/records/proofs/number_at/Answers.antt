-- Eight bytes, low byte first, are two numbers of four, and those are two of two.
use Prim.Native.Nat.{ℕ, ◌+◌, ◌<◌}
use mathlib.Core.List.{List}
use mathlib.Core.Path.{◌≡◌, ap, ◌∙◌}
use native.Mathlib.Omega.{arith}
use lib.ListN.{get_or, drop}
use lib.Seq.{get_or-take, get_or-drop}
use Rattle.std.specs.Int.{w64, from_le_bytes}
use Rattle.records.specs.Records.{part_in, four_at, number_at}
use Rattle.records.proofs.number_at.Goals as goal

eight_bytes : (stored : List ℕ) (at : ℕ) → from_le_bytes w64 (part_in stored at 8) ≡ number_at stored at
unfolding four_at number_at
eight_bytes stored at =
    let byte : (k i : ℕ) → k < 8 → at + k ≡ i → get_or (part_in stored at 8) k 0 ≡ get_or stored i 0
    = λ k i h e. get_or-take 8 (drop at stored) k 0 h ∙ get_or-drop at stored k 0 ∙ ap (λ n. get_or stored n 0) e in
    let first = byte 0 at (omega arith) (omega arith) in
    let second = byte 1 (at + 1) (omega arith) (omega arith) in
    let third = byte 2 (at + 2) (omega arith) (omega arith) in
    let fourth = byte 3 (at + 2 + 1) (omega arith) (omega arith) in
    let fifth = byte 4 (at + 4) (omega arith) (omega arith) in
    let sixth = byte 5 (at + 4 + 1) (omega arith) (omega arith) in
    let seventh = byte 6 (at + 4 + 2) (omega arith) (omega arith) in
    let eighth = byte 7 (at + 4 + 2 + 1) (omega arith) (omega arith) in
    rw (first, second, third, fourth, fifth, sixth, seventh, eighth, number_at, four_at) (omega arith)

pub returns : goal.returns
returns c =
    let stored = c.args.stored.now in
    c.from_le_bytes.ensures ∙ ap (from_le_bytes w64) c.bytes_at.ensures ∙ eight_bytes stored c.args.at
