-- Requirement §6: the links round an edge.
use Rattle.std.specs.Prelude.{ℕ, cond, List, [], ◌∷◌, map, eqb}
use Rattle.std.proofs.Math.Option.{Option, none, some}
use Rattle.lists.specs.Lists.{those}
use Rattle.rows.specs.declared.Row.{Row}
use Rattle.rows.specs.Rows.{holds_edge}
use Rattle.rows.specs.Tetrahedra.{arranged_from}

-- A link v to w.
abbrev pub Link : Type 0
Link = ℕ × ℕ

-- each row holding both is rearranged evenly as (a,b,v,w) and gives a link v to w
unfoldable pub link : ℕ → ℕ → Row → Link
link a b row = let t = arranged_from a b row in (t.r, t.s)

-- where the link from v goes to, if there is one
unfoldable pub next : List Link → ℕ → Option ℕ
next [] v = none
next (l ∷ ls) v = let rest = next ls v in cond (eqb l.0 v) (some l.1) rest

-- the points from which links go
abbrev pub starts : List Link → List ℕ
starts links = map (λ l. l.0) links

-- the points to which links go
abbrev pub ends : List Link → List ℕ
ends links = map (λ l. l.1) links

-- the links of the rows that hold both ends
abbrev pub links_of : ℕ → ℕ → List Row → List Link
links_of a b rows = map (link a b) (those (holds_edge a b) rows)
