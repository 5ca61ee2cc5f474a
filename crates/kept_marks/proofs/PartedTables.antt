-- A table in two parts, by counting; a test that one row at most passes.
use Prim.Native.Nat.{ℕ, zero, suc, ◌+◌, ◌≤◌}
use mathlib.Core.Bool.{Bool, not, ◌||◌}
use mathlib.Core.List.Memᴰ
use mathlib.Core.List.{List, [], ◌∷◌, Memᴰ}
use mathlib.Core.Logic.{◌⊎◌, inl, inr}
use mathlib.Core.Path.{◌≡◌, sym, ◌∙◌}
use native.Mathlib.Omega.{arith}
use lib.Dec.{T, ltb, eqb_refl}
use Rattle.lists.specs.Lists.{every, any, those, count, different}
use Rattle.lists.proofs.Tests.{and_r, and_i, or_l, or_r, or_e, same_test}
use Rattle.lists.proofs.Places.{in_cases}
use Rattle.lists.proofs.Lists.{every_at, any_i, any_e}
use Rattle.lists.proofs.Counts.{ind_yes, count_cons, count_split, count_some, count_member, some_counted}
use Rattle.rows.specs.declared.Row.{Row}
use Rattle.rows.specs.Rows.{numbers}
use Rattle.rows.specs.Tetrahedra.{same_row}
use Rattle.rows.proofs.LabelsReadBack.{same_marks_refl}
use Rattle.rows.proofs.EvenMoves.{same_row_lem}
use Rattle.mesh.specs.Mesh.{numbers_fit, keeps_mesh_rule}
use Rattle.mesh.proofs.MeshRuleStated.{keeps_fits}
use Rattle.kept_marks.specs.Replacing.{AllDifferent, Parted}

-- where one at most passes, two that pass are one
pub one_passes : {A : Type 0} (p : A → Bool) (xs : List A) → count p xs ≤ 1
    → {x y : A} → Memᴰ x xs → Memᴰ y xs → T (p x) → T (p y) → x ≡ y
one_passes p [] l m n h k = absurd (Memᴰ.not-nil m)
one_passes {A} p (z ∷ zs) l {x} {y} m n h k =
    in_cases m (λ e. in_cases n (λ d. e ∙ sym d) (λ later. absurd (two (rw e at h) later k)))
    (λ early. in_cases n (λ d. absurd (two (rw d at k) early h))
    (λ later. one_passes p zs (omega (arith, count_cons p z zs)) early later h k))
  where
    two : {w : A} → T (p z) → Memᴰ w zs → T (p w) → ⊥
    two a b c = omega (arith, l, count_cons p z zs, ind_yes (p z) a, count_member p zs b c)

-- those that go and those that do not are the two parts
pub those_parted : (goes : Row → Bool) (rows : List Row) → Parted rows (those goes rows) (those (λ t. not (goes t)) rows)
those_parted goes rows p = sym (count_split p goes rows)

-- a table that keeps the mesh rule has rows with different numbers
pub keeps_different : (points : ℕ) (rows : List Row) → T (keeps_mesh_rule points rows) → AllDifferent rows
unfolding numbers_fit
keeps_different points rows h t m =
    and_r (every (λ n. ltb n points) (numbers t)) (different (numbers t)) (every_at (numbers_fit points) rows (keeps_fits points rows h) m)

same_self : (t : Row) → T (same_row t t)
same_self t = search (and_i, eqb_refl, same_marks_refl) depth 12

module _ (before removed kept : List Row) (parts : Parted before removed kept) where
  -- what some row of the table passes, a removed or a kept row passes
  pub parted_any : (p : Row → Bool) → any p before ≡ any p removed || any p kept
  parted_any p = same_test (any p before) (any p removed || any p kept) to (λ h. fro (or_e (any p removed) (any p kept) h))
    where
      fro : T (any p removed) ⊎ T (any p kept) → T (any p before)
      fro (inl h) = some_counted p before (omega (arith, parts p, count_some p removed h))
      fro (inr h) = some_counted p before (omega (arith, parts p, count_some p kept h))

      cases : (n m : ℕ) → 1 ≤ n + m → (1 ≤ n → T (any p removed)) → (1 ≤ m → T (any p kept)) → T (any p removed || any p kept)
      cases zero m l f g = or_r (any p removed) (any p kept) (g (omega arith))
      cases (suc n) m l f g = or_l (any p removed) (any p kept) (f (omega arith))

      to : T (any p before) → T (any p removed || any p kept)
      to h =
          cases (count p removed) (count p kept) (omega (arith, parts p, count_some p before h))
          (some_counted p removed) (some_counted p kept)

  found : {t : Row} → T (any (same_row t) before) → Memᴰ t before
  found {t} h = let k = any_e (same_row t) before h in Memᴰ.cast (same_row_lem t k.0 k.2) k.1

  pub removed_in : {t : Row} → Memᴰ t removed → Memᴰ t before
  removed_in {t} m =
      found (rw (parted_any (same_row t))
      (or_l (any (same_row t) removed) (any (same_row t) kept) (any_i (same_row t) removed m (same_self t))))

  pub kept_in : {t : Row} → Memᴰ t kept → Memᴰ t before
  kept_in {t} m =
      found (rw (parted_any (same_row t))
      (or_r (any (same_row t) removed) (any (same_row t) kept) (any_i (same_row t) kept m (same_self t))))
