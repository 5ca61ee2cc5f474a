-- Two tables of the same tetrahedra have the same links.
-- Idea: a row stands in the other table evenly rearranged, and its link does not depend on the arrangement.
use Prim.Native.Nat.{ℕ}
use mathlib.Core.List.Memᴰ
use mathlib.Core.List.{List, Memᴰ}
use mathlib.Core.Path.{◌≡◌, sym, ◌∙◌, subst}
use native.Mathlib.Omega.{arith}
use lib.Dec.{T}
use Rattle.lists.specs.Lists.{those}
use Rattle.lists.proofs.Tests.{and_l, and_r, and_i}
use Rattle.lists.proofs.Lists.{every_at, any_e, those_e, those_i}
use Rattle.lists.proofs.Counts.{count_member, some_counted}
use Rattle.rows.specs.declared.Row.{Row}
use Rattle.rows.specs.Rows.{holds, holds_edge}
use Rattle.mesh.specs.Mesh.{numbers_fit, keeps_mesh_rule}
use Rattle.rows.specs.Tetrahedra.{rearranged, SameTetrahedra}
use Rattle.mesh.proofs.MeshRuleStated.{fit_proper, keeps_fits}
use Rattle.rows.proofs.EvenMoves.{even_holds}
use Rattle.rows.proofs.EvenGroup.{even_refl}
use Rattle.links.specs.Links.{Link, link, links_of}
use Rattle.links.proofs.LinksUnderRule.{link_even}

-- a row of one table stands in the other, evenly rearranged
pub row_across : (rows others : List Row) (row : Row) → SameTetrahedra rows others → Memᴰ row rows
    → (u : Row) × Memᴰ u others × T (rearranged row u)
row_across rows others row same m =
    let one = count_member (rearranged row) rows m (even_refl row) in
    any_e (rearranged row) others (some_counted (rearranged row) others (omega (arith, same row)))

-- so its link is one of the other's
pub link_across : (count : ℕ) (rows others : List Row) (a b : ℕ) → (a ≡ b → ⊥) → T (keeps_mesh_rule count others) → SameTetrahedra rows others
    → (l : Link) → Memᴰ l (links_of a b rows) → Memᴰ l (links_of a b others)
link_across count rows others a b apart rule same l m =
    let (row, k, e) = Memᴰ.of_map (link a b) (those (holds_edge a b) rows) m in
    let (k, h) = those_e (holds_edge a b) rows k in
    let (u, i, even) = row_across rows others row same k in
    let ha = subst T (even_holds row u even a) (and_l (holds row a) (holds row b) h) in
    let hb = subst T (even_holds row u even b) (and_r (holds row a) (holds row b) h) in
    let held = and_i (holds u a) (holds u b) ha hb in
    let proper = fit_proper count u (every_at (numbers_fit count) others (keeps_fits count others rule) i) in
    subst (λ x. Memᴰ x (links_of a b others)) (sym (link_even u row a b apart proper even held) ∙ e)
    (Memᴰ.map (link a b) (those_i (holds_edge a b) others i held))
