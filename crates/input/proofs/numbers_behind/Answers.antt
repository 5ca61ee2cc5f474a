-- `numbers_behind` counts and reads; a byte that is not there is 0.
use mathlib.Core.Path.{◌∙◌, ap}
use Prim.Native.Nat.{◌-◌, min}
use lib.ListN.{length}
use Rattle.input.specs.Steps.{most_numbers}
use Rattle.input.proofs.NumbersBehind.{behind}
use Rattle.input.proofs.numbers_behind.Goals as goal

pub returns : goal.returns
returns c =
    let input = c.args.input.now in
    let n = c.min-n.ensures ∙ ap (λ k. min most_numbers (length input - k)) c.block_length.ensures in
    behind input n c.number_at-first.ensures c.number_at-second.ensures c.number_at-third.ensures c.number_at-fourth.ensures
