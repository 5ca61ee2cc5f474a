-- The ring or chain and answers 10 to 13 do not depend on the order of the rows, on their even arrangement, or on the order of the ends.
-- Idea: two tables of the same tetrahedra have the same links, and where a point starts at most one link their order plays no part.
use Prim.Native.Nat.{ℕ, min, max}
use mathlib.Core.Bool.{Bool, true, false, not, ◌&&◌, ◌||◌}
use mathlib.Core.List.{[], ◌∷◌, Memᴰ}
use mathlib.Core.Path.{◌≡◌, refl, sym, subst}
use native.Mathlib.Omega.{arith}
use lib.Dec.{T, eqb, ltb, eqb→eq}
use lib.ListN.{length, length-map}
use Rattle.lists.specs.Lists.{every, any, different}
use Rattle.lists.proofs.Tests.{same_test, eq_test}
use Rattle.rows.specs.declared.Row.{Row}
use Rattle.mesh.specs.Mesh.{keeps_mesh_rule}
use Rattle.rows.specs.Tetrahedra.{SameTetrahedra}
use Rattle.mesh.proofs.TablesAlike.{same_keeps}
use Rattle.layout.specs.Layout.{Patch}
use Rattle.links.specs.Links.{Link, link, starts}
use Rattle.ring.specs.Ring.{site_of, numbers_wrong, whole, link_open, many_circles}
use Rattle.ring.specs.Ring.{ring_tests}
use Rattle.links.proofs.SameLinks.{link_across}
use Rattle.ring.proofs.WalksInAnyOrder.{length_same, close_same, ring_same, whole_same}
use Rattle.links.proofs.LinksUnderRule.{starts_different}

-- ---- the order of the ends

pub site_swap : (patch : Patch) (e f : ℕ) → site_of patch e f ≡ site_of patch f e
unfolding site_of
site_swap patch e f =
    let least : min e f ≡ min f e = omega arith in
    let most : max e f ≡ max f e = omega arith in
    rw (least, most)

-- the ends put in order
pub site_ordered : (patch : Patch) (e f : ℕ) → site_of patch (min e f) (max e f) ≡ site_of patch e f
unfolding site_of
site_ordered patch e f =
    let least : min (min e f) (max e f) ≡ min e f = omega arith in
    let most : max (min e f) (max e f) ≡ max e f = omega arith in
    rw (least, most)

pub numbers_swap : (count e f : ℕ) → numbers_wrong count (e ∷ f ∷ []) ≡ numbers_wrong count (f ∷ e ∷ [])
unfolding numbers_wrong every different any
numbers_swap count e f = rw swapped (go (ltb e count) (ltb f count))
  where
    swapped : eqb f e ≡ eqb e f
    swapped = same_test (eqb f e) (eqb e f) (λ h. eq_test e f (sym (eqb→eq f e h))) (λ h. eq_test f e (sym (eqb→eq e f h)))

    go : (x y : Bool)
        → not ((x && (y && true)) && (not (eqb e f || false) && (not false && true)))
        ≡ not ((y && (x && true)) && (not (eqb e f || false) && (not false && true)))
    go true true = refl
    go true false = refl
    go false true = refl
    go false false = refl

-- ---- the order and the arrangement of the rows

module _ (count : ℕ) (patch other : Patch) (e f : ℕ) (apart : e ≡ f → ⊥) (rule : T (keeps_mesh_rule count patch.rows))
    (same : SameTetrahedra patch.rows other.rows) where
  rule' : T (keeps_mesh_rule count other.rows)
  rule' = subst T (same_keeps count patch.rows other.rows same) rule

  ends_apart : min e f ≡ max e f → ⊥
  ends_apart i = apart (omega arith)

  once : T (different (starts (site_of patch e f).links))
  unfolding site_of
  once = starts_different (min e f) (max e f) ends_apart count patch.rows rule

  once' : T (different (starts (site_of other e f).links))
  unfolding site_of
  once' = starts_different (min e f) (max e f) ends_apart count other.rows rule'

  to : (l : Link) → Memᴰ l (site_of patch e f).links → Memᴰ l (site_of other e f).links
  unfolding site_of
  to = link_across count patch.rows other.rows (min e f) (max e f) ends_apart rule' same

  from : (l : Link) → Memᴰ l (site_of other e f).links → Memᴰ l (site_of patch e f).links
  unfolding site_of
  from = link_across count other.rows patch.rows (min e f) (max e f) ends_apart rule (λ row. sym (same row))

  -- the same ring
  pub same_ring : (site_of patch e f).ring ≡ (site_of other e f).ring
  unfolding site_of
  same_ring = ring_same (site_of patch e f).links (site_of other e f).links once once' to from

  same_removed : length (site_of patch e f).removed ≡ length (site_of other e f).removed
  unfolding site_of
  same_removed =
      let site = site_of patch e f in
      let site' = site_of other e f in
      let l : Row → Link = link (min e f) (max e f) in
      omega (
        arith,
        length_same site.links site'.links once once' to from,
        length-map site.removed l,
        length-map site'.removed l,
      )

  -- whether they all close
  pub same_closed : (site_of patch e f).closed ≡ (site_of other e f).closed
  unfolding site_of
  same_closed = close_same (site_of patch e f).links (site_of other e f).links once once' to from

  same_whole : whole (site_of patch e f) ≡ whole (site_of other e f)
  unfolding whole site_of
  same_whole = whole_same (site_of patch e f).links (site_of other e f).links once once' to from

  -- the same answers 10 to 13
  pub same_tests : (chains : Bool) → ring_tests chains (site_of patch e f) ≡ ring_tests chains (site_of other e f)
  unfolding ring_tests link_open many_circles
  same_tests chains = rw (same_whole, same_removed, same_closed, same_ring)
