-- `all_fit` tests the rows at the numbers from 0 on.
use Rattle.std.proofs.Common.{ℕ, Bool, refl, sym, ◌∙◌, arith, rules}
use Rattle.std.proofs.lemmas.Iterator.{YieldsList-from_range}
use Rattle.std.proofs.lemmas.Iterator.Search.{all_from_yields_List}
use Rattle.lists.specs.Lists.{numbers_from}
use Rattle.lists.proofs.Images.{every_map}
use Rattle.lists.proofs.Numbers.{every_counted}
use Rattle.rows.specs.Rows.{row_in, rows_in}
use Rattle.mesh.specs.Mesh.{numbers_fit}
use Rattle.mesh.proofs.all_fit.Goals as goal

pub returns : goal.returns
unfolding rows_in
returns c =
    let a = c.args in
    let fits : ℕ → Bool = λ i. numbers_fit a.count (row_in a.table.now i) in
    all_from_yields_List fits _ _ _ c.all.ensures.ran (YieldsList-from_range 0 a.n a.n refl (omega arith)) (λ x b q k. search rules)
    ∙ every_counted fits 0 a.n ∙ sym (every_map (numbers_fit a.count) (row_in a.table.now) (numbers_from 0 a.n))
