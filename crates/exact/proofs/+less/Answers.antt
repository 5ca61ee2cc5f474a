-- `exact::less` is the order by cross products: each return is one of the steps. The denominators together fall.
use Prim.Native.Nat.{◌*◌}
use mathlib.Core.Path.{sym, ◌∙◌}
use native.Mathlib.Nat.{le_of_lt, mod-lt}
use native.Mathlib.Omega.{arith}
use borrow.Author.Tests.{lt-ltb, le-ltb}
use Rattle.exact.proofs.WholeParts.{none_over, over_all, below_one, other_part, turned_over, same_part}
use Rattle.exact.proofs.+less.Goals as goal

pub returns-then-d1-eq0 : goal.returns-then-d1-eq0
returns-then-d1-eq0 t c =
    let a = c.args in
    sym (le-ltb (a.n1 * a.d2) (a.n2 * a.d1) (none_over a.n1 a.d1 a.n2 a.d2 (omega arith)))

pub returns-then-d2-eq0 : goal.returns-then-d2-eq0
returns-then-d2-eq0 t c =
    let a = c.args in
    over_all a.n1 a.d1 a.n2 a.d2 (omega arith) (omega arith)

pub less-requires : goal.less-requires
less-requires t c = (omega arith, tt)

pub returns-then-n2-d2 : goal.returns-then-n2-d2
returns-then-n2-d2 t c =
    let a = c.args in
    c.less.ensures ∙ turned_over a.n1 a.d1 a.n2 a.d2

pub returns-then-n1-d1 : goal.returns-then-n1-d1
returns-then-n1-d1 t c =
    let a = c.args in
    sym (lt-ltb (a.n1 * a.d2) (a.n2 * a.d1) (below_one a.n1 a.d1 a.n2 a.d2 (omega arith) (omega arith) (omega arith)))

pub returns-then-n2-d2-2 : goal.returns-then-n2-d2-2
returns-then-n2-d2-2 t c =
    let a = c.args in
    sym (le-ltb (a.n1 * a.d2) (a.n2 * a.d1)
    (le_of_lt (below_one a.n2 a.d2 a.n1 a.d1 (omega arith) (omega arith) (omega arith))))

pub less-requires-then-q1-q2 : goal.less-requires-then-q1-q2
less-requires-then-q1-q2 t c =
    let a = c.args in
    let fall1 = mod-lt a.n1 {m = a.d1} (omega arith) in
    let fall2 = mod-lt a.n2 {m = a.d2} (omega arith) in
    (omega arith, tt)

pub returns-then-q1-q2 : goal.returns-then-q1-q2
returns-then-q1-q2 t c =
    let a = c.args in
    c.less-then-q1-q2.ensures ∙ same_part a.n1 a.d1 a.n2 a.d2 (omega arith)

pub returns : goal.returns
returns t c =
    let a = c.args in
    other_part a.n1 a.d1 a.n2 a.d2 (omega arith) (omega arith) (λ same. omega (arith, same))
