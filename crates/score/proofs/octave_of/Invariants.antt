use Prim.Native.Nat.{suc, ◌/◌, ◌^◌, ◌≤◌}
use mathlib.Core.Path.{◌≡◌}
use Rattle.score.specs.Score.{octave_of}
use Rattle.score.proofs.octave_of.Given as goal

abbrev pub invariant-loop-exponent : goal.invariant-loop-exponent
invariant-loop-exponent l = (l.half ≡ l.total / 2 ^ suc l.exponent) × (l.exponent ≤ octave_of l.n l.total)
