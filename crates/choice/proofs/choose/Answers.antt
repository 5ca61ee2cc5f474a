-- `choose` has kept what a loop over the apexes from i + 1 to below k keeps.
use Prim.Native.Nat.{suc, ◌+◌, ◌-◌}
use mathlib.Core.Path.{◌≡◌, ap, ap₂, ◌∙◌}
use native.Mathlib.Omega.{arith}
use Rattle.triangulation.specs.Steps.{candidate, leading}
use Rattle.candidates.specs.Steps.{candidate_over, two_over}
use Rattle.cells.specs.Steps.{best_in}
use Rattle.choice.proofs.CandidateComputed.{step_is, candidate_is}
use Rattle.choice.proofs.choose.Goals as goal

pub loop-k-init : goal.loop-k-init
unfolding leading
loop-k-init c =
    let i = c.args.i in
    let none_yet : i + 1 - suc i ≡ 0 = omega arith in
    (omega arith, omega arith, λ site given end smaller. rw none_yet)

pub two_over-rows-requires : goal.two_over-rows-requires
two_over-rows-requires c = (omega arith, omega arith, omega arith, omega arith)

pub candidate-requires : goal.candidate-requires
candidate-requires c =
    let rim = c.requires.rimmed in
    rw c.two_over-rows.ensures (record {
      a = rim.a;
      x = rim.v (c.args.i - 1) (omega arith);
      y = rim.v (c.loop-k.k - 1) (omega arith);
      z = rim.v (c.args.j - 1) (omega arith);
      b = rim.b;
    })

pub loop-k-preserved : goal.loop-k-preserved
loop-k-preserved c =
    let a = c.args in
    let table = a.table.now in
    let used = a.used.now in
    let k = c.loop-k.k in (
      omega arith,
      omega arith,
      λ site given end smaller.
          step_is (λ k. candidate site (best_in table) a.i k a.j) a.i k (omega arith)
          (c.loop-k.invariant.2 site given end smaller)
          (c.candidate.ensures
          ∙ ap (λ rows. candidate_over a.coordinates.now a.keys.now rows c.side_at-left.result
          c.side_at-right.result) c.two_over-rows.ensures
          ∙ ap₂ (candidate_over a.coordinates.now a.keys.now (two_over a.rim a.i k a.j))
          c.side_at-left.ensures c.side_at-right.ensures
          ∙ candidate_is given (omega arith) (omega arith) (omega arith) end table used smaller)
          c.taken-found.ensures,
    )

pub returns : goal.returns
returns c =
    let l = c.loop-k in
    let a = c.args in
    let all : l.k - suc a.i ≡ a.j - a.i - 1 = omega arith in
    λ site given end smaller.
    l.invariant.2 site given end smaller
    ∙ ap (leading (λ k. candidate site (best_in a.table.now) a.i k a.j) (suc a.i)) all
