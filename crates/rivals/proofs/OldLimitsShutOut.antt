-- A kernel that still refuses the coordinate 129 does not meet demand 1: the table of answers gives 0.
use Prim.Native.Nat.{ℕ}
use mathlib.Core.Path.{◌≡◌, refl, sym, ◌∙◌}
use native.Mathlib.Omega.{arith}
use Rattle.layout.specs.Layout.{bytes_of}
use Rattle.block.specs.Opening.{open_answer}
use Rattle.demands.specs.Kernels.{opens}
use Rattle.demands.specs.Demands.{Demand1}
use Rattle.facts.specs.AllDefinitions.{definitions}
use Rattle.facts.specs.Facts.{block_a_with}
use Rattle.rivals.specs.OldLimits.{refusing129, high}

high_opens : open_answer (bytes_of 1 high) ≡ 0
unfolding high block_a_with definitions
high_opens = refl

high_refused : opens refusing129 (bytes_of 1 high) ≡ 6
unfolding high block_a_with definitions
high_refused = refl

pub still_refusing : Demand1 refusing129 → ⊥
still_refusing meets =
    let never : ◌≡◌ {A = ℕ} 6 0 = sym high_refused ∙ meets.numbers.open_number (bytes_of 1 high) ∙ high_opens in
    omega arith
