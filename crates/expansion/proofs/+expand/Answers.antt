-- `expand` writes the rows of the tree that the apexes stand for: nothing for two neighbours or the mark, else two rows and then both parts.
use Prim.Native.Nat.{◌+◌}
use mathlib.Core.Path.{sym, ap, ◌∙◌}
use native.Mathlib.Nat.{add-zero}
use native.Mathlib.Omega.{arith}
use lib.ListN.{length}
use Rattle.rows.specs.Rows.{with_rows}
use Rattle.rows.proofs.PastedRows.{with_none}
use Rattle.expansion.specs.Steps.{rows_over}
use Rattle.expansion.proofs.TreeWritten.{all_written, left_rows, left_spans, mark_rows, near_rows, right_rows, right_spans}
use Rattle.expansion.proofs.+expand.Goals as goal

pub returns-then-j-i : goal.returns-then-j-i
returns-then-j-i t c =
    let a = c.args in (
      omega arith,
      λ site rows spans.
          let none = near_rows site a.apexes.now a.i a.j c.if-j-i.true in
          (with_none a.table.now a.at none, sym (ap (λ n. a.at + n) (ap length none) ∙ add-zero a.at)),
    )

pub returns-then-k-eq0 : goal.returns-then-k-eq0
returns-then-k-eq0 t c =
    let a = c.args in
    let between = c.requires.apexes_len.1 in (
      omega arith,
      λ site rows spans.
          let none = mark_rows between c.if-j-i.false c.apex_at-k.ensures.0 site c.if-k-eq0.true in
          (with_none a.table.now a.at none, sym (ap (λ n. a.at + n) (ap length none) ∙ add-zero a.at)),
    )

pub returns : goal.returns
returns t c =
    let right = c.expand.ensures in
    let left = c.expand-next.ensures in
    let k = c.apex_at-k in
    let a = c.args in
    let low = k.ensures.2 c.if-k-eq0.false in
    let high = k.ensures.1 in (
      omega (arith, left.0, right.0, low, high),
      λ site rows spans.
          let between = c.requires.apexes_len.1 in
          let long = c.if-j-i.false in
          all_written between long k.ensures.0 low high spans rows a.table.now a.at
          (c.write_two.ensures ∙ ap (λ rows. with_rows a.table.now a.at (rows_over rows a.region)) c.two_over.ensures)
          (left.1 site (left_rows between long k.ensures.0 low high spans rows) (left_spans between long k.ensures.0 low high spans))
          (right.1 site (right_rows between long k.ensures.0 low high spans rows) (right_spans between long k.ensures.0 low high spans))
          (omega (arith, c.requires.i_in_bounds, left.0, right.0, low, high)),
    )
