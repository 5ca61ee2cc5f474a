-- Three different numbers, as a test of the list and pair by pair.
use Prim.Native.Nat.{ℕ}
use mathlib.Core.List.Memᴰ
use mathlib.Core.List.{[], ◌∷◌}
use mathlib.Core.Path.{◌≡◌, refl}
use lib.Dec.{T}
use Rattle.lists.specs.Lists.{any, different}
use Rattle.lists.proofs.Numbers.{different_head, different_tail, different_i}
use Rattle.lists.proofs.Places.{in_cases}

-- Three different numbers.
pub record ThreeApart (x y z : ℕ) : Type 0 where
  pub xy : x ≡ y → ⊥
  pub xz : x ≡ z → ⊥
  pub yz : y ≡ z → ⊥

pub three_apart : (x y z : ℕ) → T (different (x ∷ y ∷ z ∷ [])) → ThreeApart x y z
three_apart x y z h =
    let later = different_tail x (y ∷ z ∷ []) h in
    record {
      xy = different_head x (y ∷ z ∷ []) h (Memᴰ.head refl);
      xz = different_head x (y ∷ z ∷ []) h (Memᴰ.tail (Memᴰ.head refl));
      yz = different_head y (z ∷ []) later (Memᴰ.head refl);
    }

pub apart_three : (x y z : ℕ) → ThreeApart x y z → T (different (x ∷ y ∷ z ∷ []))
unfolding different any
apart_three x y z h =
    different_i x (y ∷ z ∷ [])
    (λ k. in_cases k h.xy λ k. in_cases k h.xz Memᴰ.not-nil)
    (different_i y (z ∷ []) (λ k. in_cases k h.yz Memᴰ.not-nil) (different_i z [] Memᴰ.not-nil tt))
