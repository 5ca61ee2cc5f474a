-- Two tables of the same tetrahedra, up to even rearrangement and row order: the rows that pass a test are again such tables, if even
-- rearrangement keeps the test; some row passes in both or in neither; they are of one length, and their rows have the same regions.
use mathlib.Core.Bool.{Bool, not}
use mathlib.Core.List.{List, [], ◌∷◌, ◌++◌}
use mathlib.Core.Logic.{◌⊎◌, inl, inr}
use mathlib.Core.Path.{◌≡◌, sym, ap, ◌∙◌, subst}
use native.Mathlib.Omega.{arith}
use lib.Dec.{T, T_not, not_T}
use lib.ListN.{length, length-append}
use Rattle.lists.specs.Lists.{any, those, count}
use Rattle.lists.proofs.Tests.{either, same_test}
use Rattle.lists.proofs.Lists.{any_i, any_e, those_e}
use Rattle.lists.proofs.Counts.{count_none, count_split}
use Rattle.rows.specs.declared.Row.{Row}
use Rattle.rows.specs.Regions.{region_of, mixed}
use Rattle.rows.specs.Tetrahedra.{rearranged, SameTetrahedra}
use Rattle.rows.proofs.EvenMoves.{even_region}
use Rattle.rows.proofs.RegionsOfRows.{Among, mixed_same, region_same}
use Rattle.mesh.proofs.TablesAlike.{Alike, same_alike}
use Rattle.links.proofs.SameLinks.{row_across}

module _ (p : Row → Bool) (kept : (t u : Row) → T (rearranged t u) → p t ≡ p u) where
  any_to : (rows others : List Row) → SameTetrahedra rows others → T (any p rows) → T (any p others)
  any_to rows others same h =
      let (row, k, pass) = any_e p rows h in
      let (u, i, even) = row_across rows others row same k in
      any_i p others i (subst T (kept row u even) pass)

  -- some row passes in both or in neither
  pub any_across : (rows others : List Row) → SameTetrahedra rows others → any p rows ≡ any p others
  any_across rows others same =
      same_test (any p rows) (any p others) (any_to rows others same) (any_to others rows (λ row. sym (same row)))

  -- a row that passes is counted among those that pass, and one that does not is not

  only_passing : (row : Row) (rows : List Row) → T (p row) → count (rearranged row) (those (λ x. not (p x)) rows) ≡ 0
  only_passing row rows h =
      count_none (rearranged row) (those (λ x. not (p x)) rows) (not_T (any (rearranged row) (those (λ x. not (p x)) rows)) (λ some.
      let (u, k, even) = any_e (rearranged row) (those (λ x. not (p x)) rows) some in
      let (i, fails) = those_e (λ x. not (p x)) rows k in
      T_not (p u) fails (subst T (kept row u even) h)))

  none_failing : (row : Row) (rows : List Row) → T (not (p row)) → count (rearranged row) (those p rows) ≡ 0
  none_failing row rows h =
      count_none (rearranged row) (those p rows) (not_T (any (rearranged row) (those p rows)) (λ some.
      let (u, k, even) = any_e (rearranged row) (those p rows) some in
      let (i, passes) = those_e p rows k in
      T_not (p row) h (subst T (sym (kept row u even)) passes)))

  -- the rows that pass
  pub those_across : (rows others : List Row) → SameTetrahedra rows others → SameTetrahedra (those p rows) (those p others)
  those_across rows others same row = go (either (p row))
    where
      go : T (p row) ⊎ T (not (p row)) → count (rearranged row) (those p rows) ≡ count (rearranged row) (those p others)
      go (inl h) =
          omega (
            arith,
            same row,
            only_passing row rows h,
            only_passing row others h,
            count_split (rearranged row) p rows,
            count_split (rearranged row) p others,
          )
      go (inr h) = none_failing row rows h ∙ sym (none_failing row others h)

alike_length : (rows others : List Row) → Alike rows others → length rows ≡ length others
unfolding Alike
alike_length [] others e = rw e
alike_length (t ∷ ts) others (u, front, back, split, even, rest) =
    let below = alike_length ts (front ++ back) rest in
    omega (arith, ap length split, length-append front (u ∷ back), length-append front back)

-- as many rows
pub length_across : (rows others : List Row) → SameTetrahedra rows others → length rows ≡ length others
length_across rows others same = alike_length rows others (same_alike rows others same)

-- each row has the region of one of the other table's
among_across : (rows others : List Row) → SameTetrahedra rows others → Among rows others
among_across rows others same row k = let (u, i, even) = row_across rows others row same k in (u, i, even_region row u even)

-- more than one region in both or in neither
pub mixed_across : (rows others : List Row) → SameTetrahedra rows others → mixed rows ≡ mixed others
mixed_across rows others same = mixed_same rows others (among_across rows others same) (among_across others rows (λ row. sym (same row)))

-- the same region of all rows
pub region_across : (rows others : List Row) → SameTetrahedra rows others → region_of rows ≡ region_of others
region_across rows others same = region_same rows others (among_across rows others same) (among_across others rows (λ row. sym (same row)))
