-- What the chain tells is what the definition tells, byte by byte.
use Rattle.std.proofs.Common.{rules, tests, ◌≡◌, ℕ, Bool, not, ◌||◌, eqb, List, [], ◌∷◌, refl, ap, ◌∙◌}
use Rattle.std.specs.List.{list_any}
use Rattle.std.proofs.lemmas.Iterator.{YieldsList-from_slice}
use Rattle.std.proofs.lemmas.Iterator.Search.{any_from_yields_List}
use Rattle.lists.specs.Lists.{any}
use Rattle.body.proofs.not_zero.Goals as goal

abbrev not_nought : ℕ → Bool
not_nought x = not (eqb x 0)

any_is : (bytes : List ℕ) → list_any not_nought bytes ≡ any not_nought bytes
unfolding any
any_is [] = refl
any_is (x ∷ xs) = ap (λ rest. not_nought x || rest) (any_is xs)

pub returns : goal.returns
returns c =
    let bytes = c.args.part.now in
    any_from_yields_List not_nought _ _ _ c.any.ensures.ran (YieldsList-from_slice bytes cc) (λ x b q k. search (rules, tests)) ∙ any_is bytes
