-- Numbers looked at one after the other, whether one of them passes a test.
use Prim.Native.Nat.{ℕ, ◌+◌, ◌<◌}
use mathlib.Core.Bool.{Bool, ◌||◌}
use mathlib.Core.List.{List}
use mathlib.Core.Path.{◌≡◌, sym, ap, ◌∙◌}
use native.Mathlib.Numerals.{add-one}
use lib.ListN.{length, get_or, take}
use lib.Seq.{take-suc}
use Rattle.lists.specs.Lists.{any}
use Rattle.lists.proofs.Lists.{any_snoc}

pub one_more : (p : ℕ → Bool) (xs : List ℕ) (i : ℕ) (found : Bool) → i < length xs → found ≡ any p (take i xs)
    → found || p (get_or xs i 0) ≡ any p (take (i + 1) xs)
one_more p xs i found h e =
    ap (λ b. b || p (get_or xs i 0)) e
    ∙ sym (any_snoc p (take i xs) (get_or xs i 0))
    ∙ ap (any p) (sym (take-suc xs i 0 h) ∙ ap (λ n. take n xs) (sym (add-one i)))
