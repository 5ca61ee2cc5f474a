-- `put_summary` writes all seven elements.
use native.Mathlib.Omega.{arith}
use lib.ListN.{length-set}
use mathlib.Core.Path.{◌≡◌, refl, ap, ◌∙◌}
use mir.Val.{bool_byte}
use Rattle.std.specs.Prelude.{Option, None, Some, option_map, unwrap_or, is_some}
use Rattle.std.proofs.Common.{rules}
use Rattle.elements.specs.Elements.{has_value, summary_numbers}
use Rattle.elements.proofs.SlicesFilled.{seven_filled}
use Rattle.elements.proofs.put_summary.Goals as goal

-- `is_some` as a number
told : {A : Type 0} (o : Option A) → bool_byte (is_some o) ≡ has_value o
told None = refl
told (Some x) = refl

pub bounds-out-4 : goal.bounds-out-4
bounds-out-4 c = simp length-set (omega arith)

pub bounds-out-5 : goal.bounds-out-5
bounds-out-5 c = simp length-set (omega arith)

pub bounds-out-6 : goal.bounds-out-6
bounds-out-6 c = simp length-set (omega arith)

pub returns : goal.returns
unfolding summary_numbers
returns c =
    let summary = c.args.summary in
    let has_worst = ap bool_byte c.is_some.ensures ∙ told summary.worst in
    let has_octave = ap bool_byte c.is_some-2.ensures ∙ told summary.octave in
    let worst : c.map_or.result ≡ unwrap_or (option_map (λ score. score.value) summary.worst) 0 = search rules in
    let octave : c.map_or-2.result ≡ unwrap_or summary.octave 0 = search rules in
    seven_filled c.args.out.now _ _ _ _ _ _ _ c.requires ∙ rw (octave, has_octave, worst, has_worst)
