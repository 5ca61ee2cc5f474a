-- Tables of rows, one row more at a time: their links, the places of the rows that give them, the regions of these, and the fit of their
-- numbers.
use Prim.Native.Nat.{ℕ, ◌+◌, ◌<◌}
use mathlib.Core.Bool.{true, false}
use mathlib.Core.List.Memᴰ
use mathlib.Core.List.{List, [], ◌∷◌, ◌++◌, map, map-append}
use mathlib.Core.Path.{◌≡◌, refl, sym, ap, ◌∙◌}
use native.Mathlib.Numerals.{add-one}
use native.Mathlib.Omega.{arith}
use borrow.Author.Tests.{eq-eqb, ne_eqb}
use lib.Dec.{T}
use lib.ListN.{length}
use Rattle.lists.specs.Lists.{those, numbers_from}
use Rattle.lists.proofs.Lists.{every_at, those_yes, those_no}
use Rattle.lists.proofs.Numbers.{numbers_append}
use Rattle.rows.specs.declared.Row.{Row}
use Rattle.rows.specs.declared.Regions.{Regions}
use Rattle.rows.specs.Steps.{regions_of}
use Rattle.rows.proofs.RegionsRowByRow.{one_met, more_met}
use Rattle.rows.specs.Rows.{row_in, rows_in, holds_edge}
use Rattle.mesh.specs.Mesh.{numbers_fit, keeps_mesh_rule}
use Rattle.rows.proofs.RowsOfTables.{rows_more, row_among}
use Rattle.mesh.proofs.MeshRuleStated.{keeps_fits}
use Rattle.links.specs.Links.{Link, link}
use Rattle.links.specs.Links.{links_of}
use Rattle.links.specs.Steps.{places_of, joined_with}

-- a row of a table that keeps the mesh rule
pub row_fits_lem : (count : ℕ) (table : List ℕ) (n i : ℕ) → T (keeps_mesh_rule count (rows_in table n)) → i < n
    → T (numbers_fit count (row_in table i))
row_fits_lem count table n i rule h =
    every_at (numbers_fit count) (rows_in table n) (keeps_fits count (rows_in table n) rule) (row_among table n i h)

module _ (a b : ℕ) (rows : List Row) (row : Row) where
  -- a row that holds both ends gives one link more
  links_more : holds_edge a b row ≡ true → links_of a b (rows ++ row ∷ []) ≡ links_of a b rows ++ link a b row ∷ []
  links_more e = ap (map (link a b)) (those_yes (holds_edge a b) rows row e) ∙ map-append (link a b) (those (holds_edge a b) rows) (row ∷ [])

  -- any other gives none
  links_same : holds_edge a b row ≡ false → links_of a b (rows ++ row ∷ []) ≡ links_of a b rows
  links_same e = ap (map (link a b)) (those_no (holds_edge a b) rows row e)

-- one row more of a table
module _ (a b : ℕ) (table : List ℕ) (i : ℕ) {links : List Link} {row : Row} (so_far : links ≡ links_of a b (rows_in table i))
    (is_row : row ≡ row_in table i) where
  pub table_more : {l : Link} → holds_edge a b row ≡ true → l ≡ link a b row → links ++ l ∷ [] ≡ links_of a b (rows_in table (i + 1))
  table_more h e = rw (add-one, rows_more table i, ← is_row, links_more a b (rows_in table i) row h, so_far, e)

  pub table_same : holds_edge a b row ≡ false → links ≡ links_of a b (rows_in table (i + 1))
  table_same h = rw (add-one, rows_more table i, ← is_row, links_same a b (rows_in table i) row h) so_far

-- the same of the places
module _ (a b : ℕ) (table : List ℕ) (i : ℕ) {places : List ℕ} {row : Row} (so_far : places ≡ places_of a b table i)
    (is_row : row ≡ row_in table i) where
  one_more : numbers_from 0 (i + 1) ≡ numbers_from 0 i ++ i ∷ []
  unfolding numbers_from
  one_more = numbers_append 0 i 1 ∙ ap (λ k. numbers_from 0 i ++ k ∷ []) (omega arith)

  pub places_more : holds_edge a b row ≡ true → places ++ i ∷ [] ≡ places_of a b table (i + 1)
  places_more h = rw (so_far, one_more) (sym (those_yes (λ k. holds_edge a b (row_in table k)) (numbers_from 0 i) i (rw is_row at h)))

  pub places_same : holds_edge a b row ≡ false → places ≡ places_of a b table (i + 1)
  places_same h = rw (so_far, one_more) (sym (those_no (λ k. holds_edge a b (row_in table k)) (numbers_from 0 i) i (rw is_row at h)))

-- and of the regions, where n of the rows so far hold both ends
module _ (a b : ℕ) (table : List ℕ) (i n : ℕ) {regions : Regions} {row : Row} (so_far : regions ≡ regions_of (those (holds_edge a b) (rows_in table i)))
    (is_row : row ≡ row_in table i) where
  abbrev held : List Row
  held = those (holds_edge a b) (rows_in table i)

  joined_is : (rows : List Row) → n ≡ length rows → joined_with n (regions_of rows) row.region ≡ regions_of (rows ++ row ∷ [])
  joined_is [] e = rw (eq-eqb n 0 e) (sym (one_met row))
  joined_is (r ∷ rs) e = rw (ne_eqb n 0 (λ q. omega arith)) (more_met (r ∷ rs) (Memᴰ.head refl) row)

  pub regions_more : n ≡ length held → holds_edge a b row ≡ true
      → joined_with n regions row.region ≡ regions_of (those (holds_edge a b) (rows_in table (i + 1)))
  regions_more e h =
      rw (add-one, rows_more table i, ← is_row, those_yes (holds_edge a b) (rows_in table i) row h, so_far) (joined_is held e)

  pub regions_same : holds_edge a b row ≡ false → regions ≡ regions_of (those (holds_edge a b) (rows_in table (i + 1)))
  regions_same h = rw (add-one, rows_more table i, ← is_row, those_no (holds_edge a b) (rows_in table i) row h) so_far
