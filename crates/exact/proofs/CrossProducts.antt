-- "At most" of fractions, by cross products, goes on from one to the next: with numerators of either sign, and with
-- whole ones. The gap, times the middle denominator, is a sum of products of gaps and denominators.
use mathlib.Core.Path.{refl}
use mathlib.Core.List.{[], ◌∷◌}
use Prim.Native.Nat.{ℕ, ◌*◌, ◌<◌, ◌≤◌}
use lib.Dec.{leb→le, le→leb, lt→ltb}
use lib.IntN.{ℤ, pos, ◌*ℤ◌}
use lib.Signed.{◌≤ℤ◌, le_z_yes, lt_z_yes}
use Rattle.algebra.proofs.Normal.{var, ◌:*◌, norm}
use Rattle.algebra.proofs.Order.{◌⊞◌, ◌⊠◌, given, gap, nn_pos, le_by_times}

module _ (n1 : ℤ) (d1 : ℕ) (n2 : ℤ) (d2 : ℕ) (n3 : ℤ) (d3 : ℕ) where
  -- d2 (n3 d1 - n1 d3) = d3 (n2 d1 - n1 d2) + d1 (n3 d2 - n2 d3)
  pub at_most_trans :
      0 < d2
      → (n1 *ℤ pos d2) ≤ℤ (n2 *ℤ pos d1)
      → (n2 *ℤ pos d3) ≤ℤ (n3 *ℤ pos d2)
      → (n1 *ℤ pos d3) ≤ℤ (n3 *ℤ pos d1)
  unfolding norm
  at_most_trans p h k =
      le_by_times
      (n1 ∷ pos d1 ∷ n2 ∷ pos d2 ∷ n3 ∷ pos d3 ∷ [])
      (var 3)
      (var 0 :* var 5)
      (var 4 :* var 1)
      (lt_z_yes (lt→ltb 0 d2 p))
      (given (var 5) (nn_pos d3) ⊠ gap (var 0 :* var 3) (var 2 :* var 1) h
      ⊞ given (var 1) (nn_pos d1) ⊠ gap (var 2 :* var 5) (var 4 :* var 3) k)
      refl

le : {a b : ℕ} → a ≤ b → pos a ≤ℤ pos b
le {a} {b} h = le_z_yes (le→leb a b h)

module _ (n1 d1 n2 d2 n3 d3 : ℕ) where
  pub at_most_trans_ℕ : 0 < d2 → n1 * d2 ≤ n2 * d1 → n2 * d3 ≤ n3 * d2 → n1 * d3 ≤ n3 * d1
  at_most_trans_ℕ p h k =
      leb→le (n1 * d3) (n3 * d1) (at_most_trans (pos n1) d1 (pos n2) d2 (pos n3) d3 p (le h) (le k)).le
