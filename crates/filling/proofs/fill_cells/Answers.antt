-- `fill_cells` has filled the pieces with a place before that of (i,j).
use Prim.Native.Nat.{ℕ, ◌+◌, ◌-◌, ◌≤◌, ◌<◌}
use mathlib.Core.Path.{◌≡◌, refl, sym, ap, ◌∙◌}
use native.Mathlib.Omega.{arith}
use borrow.Author.Rules.{rules}
use lib.ListN.{length-set}
use Rattle.ring.specs.Ring.{m as size_of}
use Rattle.cells.specs.Steps.{cell_at, stored}
use Rattle.cells.proofs.CellPlaces.{cell_next, cell_turn}
use Rattle.filling.proofs.CellFilled.{side_found, whole_more, upto_start, upto_here, upto_end, upto_smaller, upto_more}
use Rattle.filling.proofs.fill_cells.Goals as goal

pub loop-j-init : goal.loop-j-init
unfolding cell_at
loop-j-init c =
    record {
      whole = c.requires.whole;
      all_used = search rules;
      filled = λ site site_rim size. upto_start;
    }

pub loop-i-init : goal.loop-i-init
loop-i-init c =
    let l = c.loop-j.invariant in
    record {
      whole = l.whole;
      all_used = l.all_used;
      filled = λ site site_rim size. upto_here (l.filled site site_rim size) (omega (arith, cell_turn c.loop-j.j (omega arith)));
    }

pub loop-i-preserved : goal.loop-i-preserved
loop-i-preserved c =
    let l = c.loop-i in
    let i = l.i - 1 in
    let j = c.loop-j.j in
    let at = c.cell_at-at in
    let here = sym at.ensures.0 in
    let start : 1 ≤ i = omega arith in
    let long : i + 2 ≤ j = omega arith in
    record {
      whole = rw c.store.ensures (whole_more at.result c.choose-choice.result l.invariant.whole);
      all_used = simp length-set l.invariant.all_used;
      filled = λ site site_rim size.
          let end : j ≤ size_of site = omega (arith, size) in
          let upto = upto_here (l.invariant.filled site site_rim size) here in
          let choice = c.choose-choice.ensures site site_rim end (upto_smaller upto start long end here) in
          let closing = c.uses_diagonal.ensures ∙ side_found site_rim start (omega arith) end in
          rw c.store.ensures
          (upto_here (upto_more upto start long end here l.invariant.whole l.invariant.all_used at.ensures.1 c.choose-choice.result choice closing)
          (omega (arith, at.ensures.0, cell_next i j start long)));
    }

pub loop-j-preserved : goal.loop-j-preserved
loop-j-preserved c =
    let l = c.loop-i in
    let all : l.i - 1 ≡ 0 = omega arith in
    let next : c.loop-j.j + 1 - 1 ≡ c.loop-j.j = omega arith in
    record {
      whole = l.invariant.whole;
      all_used = l.invariant.all_used;
      filled = λ site site_rim size. rw next (rw all at (l.invariant.filled site site_rim size));
    }

pub returns : goal.returns
returns c =
    let l = c.loop-j in
    let all : l.j - 1 ≡ c.args.m = omega arith in
    record {
      done = λ site site_rim size.
          upto_end (l.invariant.filled site site_rim size)
          (rw (all, ← size, cell_next 1 c.args.m (omega arith) (omega arith)) (omega arith));
      still_whole = l.invariant.whole;
    }
