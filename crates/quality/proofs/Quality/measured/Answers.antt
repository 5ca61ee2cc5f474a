-- `Quality::measured` is `quality_of`: the tests of D's sign pick the clause, and nothing overflows.
use mathlib.Core.Path.{◌≡◌, sym, ap, ◌∙◌}
use Prim.Native.Nat.{ℕ, ◌^◌}
use lib.IntN.{ℤ, pos, nat_abs}
use lib.Signed.{lt_z}
use mir.Syntax.{w64}
use mir.Val.{SFits, to_z, of_z}
use mir.Facts.{to_z-of_z}
use Rattle.quality.proofs.QualityComputed.{flat_is, inverted_is, upright_is}
use Rattle.quality.proofs.Quality.measured.Goals as goal

-- what `square` says, of D itself
size_of : {d : ℤ} {n : ℕ} → SFits w64 d → n ≡ nat_abs (to_z w64 (of_z w64 d)) ^ 2 → n ≡ nat_abs d ^ 2
size_of fits e = e ∙ ap (λ z. nat_abs z ^ 2) (to_z-of_z fits)

pub returns-then-d-eq0 : goal.returns-then-d-eq0
returns-then-d-eq0 c = flat_is c.args.d c.args.s c.ranges.d c.if-d-eq0.true

pub returns-then-d-lt0 : goal.returns-then-d-lt0
returns-then-d-lt0 c =
    let r = c.square-num in
    inverted_is
    c.args.d
    c.args.s
    r.result
    (size_of c.ranges.d r.ensures)
    (ap (λ z. lt_z z (pos 0)) (sym (to_z-of_z c.ranges.d)) ∙ c.if-d-lt0.true)

pub returns-else-d-lt0 : goal.returns-else-d-lt0
returns-else-d-lt0 c =
    let r = c.square-num in
    upright_is
    c.args.d
    c.args.s
    r.result
    (size_of c.ranges.d r.ensures)
    c.if-d-eq0.false
    (ap (λ z. lt_z z (pos 0)) (sym (to_z-of_z c.ranges.d)) ∙ c.if-d-lt0.false)
