-- `corners::put` writes all three numbers, so nothing of what stood there is left.
use Prim.Native.Nat.{ℕ}
use native.Mathlib.Omega.{arith}
use mathlib.Core.Path.{◌≡◌, refl, ◌∙◌}
use mathlib.Core.List.{List, [], ◌∷◌}
use lib.ListN.{length, set}
use Rattle.corners.proofs.put.Goals as goal

overwritten : (s : List ℕ) (x y z : ℕ) → length s ≡ 3 → set (set (set s 0 x) 1 y) 2 z ≡ x ∷ y ∷ z ∷ []
overwritten [] x y z three = absurd (omega (arith, three))
overwritten (_ ∷ []) x y z three = absurd (omega (arith, three))
overwritten (_ ∷ _ ∷ []) x y z three = absurd (omega (arith, three))
overwritten (_ ∷ _ ∷ _ ∷ []) x y z three = refl
overwritten (_ ∷ _ ∷ _ ∷ _ ∷ _) x y z three = absurd (omega (arith, three))

pub returns : goal.returns
returns c =
    overwritten c.args.out.now _ _ _ c.requires
    ∙ rw (c.den.ensures, c.num.ensures, c.kind_number.ensures, c.kind.ensures)
