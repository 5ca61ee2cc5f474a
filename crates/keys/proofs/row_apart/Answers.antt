-- `row_apart` asks for the row's four keys at once: none of them stands among the others where no other is one of them.
use Prim.Native.Nat.{ℕ, ◌+◌, ◌*◌, ◌≤◌}
use mathlib.Core.Bool.{Bool, true, false, not, ◌&&◌, ◌||◌}
use mathlib.Core.List.{List, [], ◌∷◌}
use mathlib.Core.Path.{◌≡◌, refl, ap, ◌∙◌}
use native.Mathlib.Omega.{arith}
use lib.Dec.{eqb}
use lib.ListN.{length, get_or, take, drop}
use Rattle.lists.specs.Lists.{every, any, has}
use Rattle.lists.proofs.Lists.{any_or}
use Rattle.keys.specs.Steps.{one_of}
use Rattle.keys.proofs.FourStored.{four_read}
use Rattle.keys.proofs.row_apart.Goals as goal

none_of_four : (p q r s : Bool) → not (p || q || r || s) ≡ not p && (not q && (not r && (not s && true)))
none_of_four true q r s = refl
none_of_four false true r s = refl
none_of_four false false true s = refl
none_of_four false false false true = refl
none_of_four false false false false = refl

one_by_one : (ks : List ℕ) (a b c d : ℕ) → not (any (one_of a b c d) ks) ≡ every (λ k. not (has ks k)) (a ∷ b ∷ c ∷ d ∷ [])
unfolding every one_of
one_by_one ks a b c d =
    ap not
    (any_or (λ k. eqb a k || eqb b k || eqb c k) (eqb d) ks
    ∙ ap (λ t. t || has ks d)
    (any_or (λ k. eqb a k || eqb b k) (eqb c) ks ∙ ap (λ t. t || has ks c) (any_or (eqb a) (eqb b) ks)))
    ∙ none_of_four (has ks a) (has ks b) (has ks c) (has ks d)

none_found : (keys : List ℕ) (at : ℕ) → at + 4 ≤ length keys → (found : Bool)
    → found ≡ any (one_of (get_or keys at 0) (get_or keys (at + 1) 0) (get_or keys (at + 2) 0) (get_or keys (at + 3) 0)) (take at keys)
    → not found ≡ every (λ k. not (has (take at keys) k)) (take 4 (drop at keys))
none_found keys at h found e =
    rw (four_read keys at h)
    (ap not e ∙ one_by_one (take at keys) (get_or keys at 0) (get_or keys (at + 1) 0) (get_or keys (at + 2) 0) (get_or keys (at + 3) 0))

pub returns : goal.returns
returns c =
    let a = c.args in
    none_found a.keys.now (4 * a.i) (omega arith) c.some_among.result c.some_among.ensures
