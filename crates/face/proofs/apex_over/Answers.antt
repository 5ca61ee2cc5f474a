-- `apex_over` takes the first of the row's four numbers that the face has not, in the order of the definition.
use Prim.Native.Nat.{ℕ}
use mathlib.Core.Bool.{Bool, true, false, not, cond}
use mathlib.Core.List.{List, [], ◌∷◌}
use mathlib.Core.Option.{some, get_or}
use mathlib.Core.Path.{◌≡◌, refl, ap, ◌∙◌}
use borrow.Author.Tests.{tests}
use Rattle.std.proofs.Common.{rules}
use Rattle.std.proofs.lemmas.Iterator.{YieldsList-from_slice}
use Rattle.std.proofs.lemmas.Iterator.Search.{find_from_yields_List}
use Rattle.std.proofs.lemmas.Iterator.Consumers.{YieldsList-from_copied}
use Rattle.std.specs.declared.option.Option.{Option}
use Rattle.std.specs.declared.option.Option.TheVariants.{Some, None}
use Rattle.std.specs.List.{find}
use Rattle.std.specs.Option.{unwrap_or, option_map}
use Rattle.lists.specs.Lists.{first, first_or, has}
use Rattle.rows.specs.Rows.{numbers}
use Rattle.calls.specs.Flipping.{apex_over}
use Rattle.face.proofs.apex_over.Goals as goal

-- the library's first that passes, or 0
found_or : (test : ℕ → Bool) (ns : List ℕ) → unwrap_or (find test ns) 0 ≡ first_or 0 test ns
unfolding first
found_or test [] = refl
found_or test (n ∷ ns) = go (test n) (found_or test ns)
  where
    go :
        (b : Bool) → unwrap_or (find test ns) 0 ≡ first_or 0 test ns
        → unwrap_or (cond b (Some n) (find test ns)) 0 ≡ get_or (cond b (some n) (first test ns)) 0
    go true rest = refl
    go false rest = rest

unmapped : (found : Option ℕ) → unwrap_or found 0 ≡ unwrap_or (option_map (λ n. n) found) 0
unmapped None = refl
unmapped (Some n) = refl

pub returns : goal.returns
unfolding apex_over
returns c =
    let ns = numbers c.args.row in
    let test = λ (n : ℕ). not (has (c.args.x ∷ c.args.y ∷ c.args.z ∷ []) n) in
    let found : option_map (λ n. n) c.find.result ≡ find test ns =
    find_from_yields_List test _ _ _ c.find.ensures.ran (YieldsList-from_copied (YieldsList-from_slice ns cc))
    (λ x b q k. search (rules, tests)) in
    c.unwrap_or.ensures ∙ unmapped c.find.result ∙ ap (λ o. unwrap_or o 0) found ∙ found_or test ns
