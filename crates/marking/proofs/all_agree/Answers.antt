-- The invariant of `all_agree`: no row before i leaves a face unmarked that another row marks.
use mathlib.Core.Bool.{true, false}
use mathlib.Core.Path.{◌≡◌, refl, sym, ◌∙◌}
use native.Mathlib.Numerals.{add-one}
use native.Mathlib.Omega.{arith}
use Rattle.lists.specs.Lists.{every, numbers_from}
use Rattle.lists.proofs.Lists.{every_no, every_snoc}
use Rattle.rows.specs.Rows.{row_in, rows_in}
use Rattle.rows.proofs.RowsOfTables.{among_rows, row_among, rows_more, rows_bytes}
use Rattle.marking.proofs.AgreeByKeys.{row_test, agree_by_keys, unmarked_agree}
use Rattle.marking.proofs.all_agree.Goals as goal

pub returns-then-unmarked : goal.returns-then-unmarked
returns-then-unmarked c =
    let table = c.args.table.now in
    let none = c.unmarked.ensures c.if-unmarked.true in
    sym (unmarked_agree (rows_in table c.args.n) (λ row m. let (i, h, e) = among_rows table c.args.n m in rw e (none i)))

pub loop-i-init : goal.loop-i-init
unfolding every rows_in numbers_from
loop-i-init c = refl

pub returns-then-not-row_agrees : goal.returns-then-not-row_agrees
returns-then-not-row_agrees c =
    let table = c.args.table.now in
    let n = c.args.n in
    let i = c.loop-i.i in
    let told = rw c.row_in.ensures at c.row_agrees.ensures in
    let test = row_test c.store_all.new.keys in
    let no : test (row_in table i) ≡ false = sym told ∙ c.if-not-row_agrees.true in
    sym (agree_by_keys (rows_in table n) (rows_bytes table (λ j. omega (arith, c.type_inv.table j)) n)
    ∙ rw (← c.store_all.ensures) (every_no test (rows_in table n) (row_among table n i (omega arith)) no))

pub loop-i-preserved : goal.loop-i-preserved
loop-i-preserved c =
    let table = c.args.table.now in
    let i = c.loop-i.i in
    let told = rw c.row_in.ensures at c.row_agrees.ensures in
    let test = row_test c.store_all.new.keys in
    let yes : test (row_in table i) ≡ true = sym told ∙ c.if-not-row_agrees.false in
    rw (add-one i, rows_more table i, every_snoc test (rows_in table i) (row_in table i), c.loop-i.invariant, yes)

pub returns : goal.returns
returns c =
    let table = c.args.table.now in
    let e : c.loop-i.i ≡ c.args.n = omega arith in
    sym (agree_by_keys (rows_in table c.args.n) (rows_bytes table (λ j. omega (arith, c.type_inv.table j)) c.args.n)
    ∙ rw (← c.store_all.ensures, ← e) c.loop-i.invariant)
