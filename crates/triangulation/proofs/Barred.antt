-- The end faces of a ring and of a chain; and a chain that a kept row bars, in the table of pieces: the cell of the whole chain says
-- so, and no other.
use Prim.Native.Nat.{ℕ}
use mathlib.Core.Bool.{Bool, true, false, cond, ◌&&◌}
use mathlib.Core.List.{[], ◌∷◌}
use mathlib.Core.Path.{◌≡◌, refl, ap}
use native.Mathlib.Decide.{ℕ_discrete}
use borrow.Author.Tests.{eq-eqb, ne_eqb}
use lib.Dec.{eqb}
use Rattle.lists.specs.Lists.{any}
use Rattle.ring.specs.Ring.{Site, m}
use Rattle.triangulation.specs.Admissible.{end_faces, barred}
use Rattle.triangulation.specs.Best.{barred_piece}
use Rattle.triangulation.proofs.Trees.{a_face, b_face}

module _ (site : Site) where
  -- ---- the end faces

  pub ring_faces : site.closed ≡ true → end_faces site ≡ []
  unfolding end_faces
  ring_faces e = ap (λ closed. cond closed [] (a_face site 1 (m site) ∷ b_face site (m site) 1 ∷ [])) e

  pub chain_faces : site.closed ≡ false → end_faces site ≡ a_face site 1 (m site) ∷ b_face site (m site) 1 ∷ []
  unfolding end_faces
  chain_faces e = ap (λ closed. cond closed [] (a_face site 1 (m site) ∷ b_face site (m site) 1 ∷ [])) e

  -- so nothing bars a ring
  pub ring_open : site.closed ≡ true → barred site ≡ false
  unfolding barred any
  ring_open e = rw (ring_faces e)

  -- ---- the cells of the table

  -- where nothing is barred, no cell is
  pub open_piece : barred site ≡ false → (i j : ℕ) → barred_piece site i j ≡ false
  open_piece e i j = rw e

  -- the cell of the whole chain
  pub whole_is : barred_piece site 1 (m site) ≡ barred site
  whole_is = rw (eq-eqb (m site) (m site) refl) (go (barred site))
    where
      go : (b : Bool) → b && true && true ≡ b
      go true = refl
      go false = refl

  -- no other cell is barred
  pub other_open : (i j : ℕ) → (i ≡ 1 → j ≡ m site → ⊥) → barred_piece site i j ≡ false
  other_open i j apart = go (ℕ_discrete i 1) (ℕ_discrete j (m site))
    where
      none : (b c : Bool) → b && false && c ≡ false
      none true c = refl
      none false c = refl

      last : (b c : Bool) → b && c && false ≡ false
      last true true = refl
      last true false = refl
      last false c = refl

      go : Dec (i ≡ 1) → Dec (j ≡ m site) → barred_piece site i j ≡ false
      go (yes s) (yes t) = absurd (apart s t)
      go (yes s) (no t) = rw (ne_eqb j (m site) t) (last (barred site) (eqb i 1))
      go (no s) t = rw (ne_eqb i 1 s) (none (barred site) (eqb j (m site)))
