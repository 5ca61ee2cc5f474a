-- Tables with the same tetrahedra, up to even rearrangement and row order: row by row, each row of one has its own row in the other.
-- So a total over the rows in any order, with a value that even rearrangement keeps, is one for both, and so is the mesh rule.
use Prim.Native.Nat.{ℕ, ◌+◌}
use mathlib.Core.Bool.{Bool, true, ◌&&◌}
use mathlib.Core.List.{List, [], ◌∷◌, ◌++◌, map, foldr}
use mathlib.Core.Path.{◌≡◌, refl, sym, ap, ◌∙◌}
use native.Mathlib.Omega.{arith}
use lib.Dec.{T}
use Rattle.lists.specs.Lists.{those, count}
use Rattle.lists.proofs.Tests.{and_swap}
use Rattle.lists.proofs.Counts.{ind, ind_yes, count_cons, count_append, count_sum, some_counted}
use Rattle.lists.proofs.Lists.{any_split, every_all}
use Rattle.rows.specs.declared.Row.{Row}
use Rattle.rows.specs.Tetrahedra.{rearranged, SameTetrahedra}
use Rattle.rows.proofs.EvenGroup.{even_refl, even_same}
use Rattle.mesh.specs.Mesh.{Face, uses, numbers_fit, keeps_mesh_rule}
use Rattle.mesh.proofs.FacesCounted.{hits, apart_same}
use Rattle.mesh.proofs.EvenFaces.{even_uses, even_fits}

-- each row of one table has its own row in the other, which is it evenly rearranged
unfoldable pub Alike : List Row → List Row → Type 0
Alike [] others = others ≡ []
Alike (t ∷ ts) others = (u : Row) × (front back : List Row) × (others ≡ front ++ u ∷ back) × T (rearranged t u) × Alike ts (front ++ back)

-- counted alike is alike
pub same_alike : (rows others : List Row) → SameTetrahedra rows others → Alike rows others
unfolding Alike those
same_alike [] [] e = refl
same_alike [] (u ∷ us) e = absurd (omega (arith, e u, count_cons (rearranged u) u us, ind_yes (rearranged u u) (even_refl u)))
same_alike (t ∷ ts) others e =
    let found = some_counted (rearranged t) others
    (omega (arith, e t, count_cons (rearranged t) t ts, ind_yes (rearranged t t) (even_refl t))) in
    let k = any_split (rearranged t) others found in
    (k.0, k.1, k.2, k.3, k.4, same_alike ts (k.1 ++ k.2) (rest k.0 k.1 k.2 k.3 k.4))
  where
    rest : (u : Row) (front back : List Row) → others ≡ front ++ u ∷ back → T (rearranged t u) → SameTetrahedra ts (front ++ back)
    rest u front back split r row =
        omega (
          arith,
          e row,
          count_cons (rearranged row) t ts,
          ap (count (rearranged row)) split,
          count_append (rearranged row) front (u ∷ back),
          count_cons (rearranged row) u back,
          count_append (rearranged row) front back,
          ap ind (even_same t u row r),
        )

-- a total over the rows, in any order
module _ {M : Type 0} (op : M → M → M) (none : M) (swap : (a b c : M) → op a (op b c) ≡ op b (op a c)) (value : Row → M)
    (same : (t u : Row) → T (rearranged t u) → value t ≡ value u) where
  total_at : (u : Row) (front back : List Row)
      → foldr op none (map value (front ++ u ∷ back)) ≡ op (value u) (foldr op none (map value (front ++ back)))
  total_at u [] back = refl
  total_at u (t ∷ front) back =
      ap (op (value t)) (total_at u front back) ∙ swap (value t) (value u) (foldr op none (map value (front ++ back)))

  alike_total : (rows others : List Row) → Alike rows others → foldr op none (map value rows) ≡ foldr op none (map value others)
  unfolding Alike
  alike_total [] others e = rw e
  alike_total (t ∷ ts) others e =
      ap (op (value t)) (alike_total ts (e.1 ++ e.2) e.5)
      ∙ ap (λ v. op v (foldr op none (map value (e.1 ++ e.2)))) (same t e.0 e.4)
      ∙ sym (total_at e.0 e.1 e.2)
      ∙ ap (λ us. foldr op none (map value us)) (sym e.3)

-- counts, and the mesh rule

add_swap : (a b c : ℕ) → a + (b + c) ≡ b + (a + c)
add_swap a b c = omega arith

-- what even rearrangement keeps is counted alike
alike_count : (p : Row → Bool) → ((t u : Row) → T (rearranged t u) → p t ≡ p u) → (rows others : List Row) → Alike rows others
    → count p rows ≡ count p others
alike_count p same rows others e =
    count_sum p rows
    ∙ alike_total ◌+◌ 0 add_swap (λ t. ind (p t)) (λ t u k. ap ind (same t u k)) rows others e
    ∙ sym (count_sum p others)

pub same_count : (p : Row → Bool) → ((t u : Row) → T (rearranged t u) → p t ≡ p u) → (rows others : List Row) → SameTetrahedra rows others
    → count p rows ≡ count p others
same_count p same rows others e = alike_count p same rows others (same_alike rows others e)

alike_hits : (rows others : List Row) → Alike rows others → (f : Face) → hits f rows ≡ hits f others
alike_hits rows others e f = alike_count (uses f) (λ t u k. even_uses t u k f) rows others e

alike_keeps : (count : ℕ) (rows others : List Row) → Alike rows others → keeps_mesh_rule count rows ≡ keeps_mesh_rule count others
unfolding keeps_mesh_rule
alike_keeps count rows others e =
    let fit = numbers_fit count in
    let all_fit = every_all fit rows ∙ alike_total ◌&&◌ true and_swap fit (even_fits count) rows others e ∙ sym (every_all fit others) in
    rw (all_fit, apart_same rows others (alike_hits rows others e))

pub same_keeps : (count : ℕ) (rows others : List Row) → SameTetrahedra rows others → keeps_mesh_rule count rows ≡ keeps_mesh_rule count others
same_keeps count rows others e = alike_keeps count rows others (same_alike rows others e)

-- how such tables are made

pub same_cons : (t u : Row) (ts us : List Row) → T (rearranged t u) → SameTetrahedra ts us → SameTetrahedra (t ∷ ts) (u ∷ us)
same_cons t u ts us r e row =
    omega (arith, e row, count_cons (rearranged row) t ts, count_cons (rearranged row) u us, ap ind (even_same t u row r))

pub same_append : (ts us vs ws : List Row) → SameTetrahedra ts us → SameTetrahedra vs ws → SameTetrahedra (ts ++ vs) (us ++ ws)
same_append ts us vs ws e f row = omega (arith, e row, f row, count_append (rearranged row) ts vs, count_append (rearranged row) us ws)

pub same_swap : (xs ys : List Row) → SameTetrahedra (xs ++ ys) (ys ++ xs)
same_swap xs ys row = omega (arith, count_append (rearranged row) xs ys, count_append (rearranged row) ys xs)
