-- The rows round an edge by their places: each stands in the table, and gives the link that is kept for it.
-- Idea: the links of the rows that hold both ends are those of the places where such rows stand.
use Prim.Native.Nat.{ℕ, ◌+◌, ◌*◌, ◌≤◌, ◌<◌}
use mathlib.Core.Bool.{Bool, true, false, cond}
use mathlib.Core.List.{List, [], ◌∷◌, map, map-map, Memᴰ}
use mathlib.Core.Path.{◌≡◌, refl, sym, ap, ◌∙◌, subst}
use native.Mathlib.Omega.{arith}
use lib.Dec.{T}
use lib.ListN.{length, get_or, length-map}
use lib.Seq.{get_or-take}
use Rattle.lists.specs.Lists.{those, numbers_from}
use Rattle.lists.proofs.Lists.{those_e}
use Rattle.lists.proofs.Numbers.{numbers_e}
use Rattle.lists.proofs.Places.{at_in}
use Rattle.lists.proofs.Images.{map_at}
use Rattle.rows.specs.declared.Row.{Row}
use Rattle.rows.specs.Rows.{rows_at, row_size, row_in, rows_in, holds_edge}
use Rattle.links.specs.declared.Links.{Links}
use Rattle.links.specs.Links.{Link, link, links_of}
use Rattle.links.specs.Steps.{links_in, places_of, LinkedRow, Around}
use Rattle.links.proofs.LinkArrays.{in_length, in_at}
use Rattle.links.proofs.LinksRowByRow.{row_fits_lem}

-- the images that pass are those of what passes
those_map : (p : Row → Bool) (f : ℕ → Row) (is : List ℕ) → those p (map f is) ≡ map f (those (λ i. p (f i)) is)
unfolding those
those_map p f [] = refl
those_map p f (i ∷ is) = go (p (f i)) (those_map p f is)
  where
    some : List ℕ
    some = those (λ i. p (f i)) is

    go : (b : Bool) → those p (map f is) ≡ map f some
        → cond b (f i ∷ those p (map f is)) (those p (map f is)) ≡ map f (cond b (i ∷ some) some)
    go true e = ap (λ rows. f i ∷ rows) e
    go false e = e

-- the links, place by place
links_placed : (a b : ℕ) (table : List ℕ) (n : ℕ)
    → links_of a b (rows_in table n) ≡ map (λ i. link a b (row_in table i)) (places_of a b table n)
unfolding rows_in
links_placed a b table n =
    ap (map (link a b)) (those_map (holds_edge a b) (row_in table) (numbers_from 0 n))
    ∙ map-map (link a b) (row_in table) (places_of a b table n)

-- row i of those kept
module _ {table : List ℕ} {a b : ℕ} {links : Links} (around : Around table a b links) (i : ℕ) (h : i < links.n) where
  abbrev places : List ℕ
  places = places_of a b table around.rows

  abbrev place : ℕ
  place = get_or links.places i 0

  each : links_in links ≡ map (λ k. link a b (row_in table k)) places
  each = around.linked ∙ links_placed a b table around.rows

  as_many : length places ≡ links.n
  as_many = sym (ap length each ∙ length-map places (λ k. link a b (row_in table k))) ∙ in_length links

  place_is : get_or places i 0 ≡ place
  place_is = ap (λ ps. get_or ps i 0) (sym around.placed) ∙ get_or-take links.n links.places i 0 h

  among : Memᴰ place (numbers_from 0 around.rows) × T (holds_edge a b (row_in table place))
  among =
      those_e (λ k. holds_edge a b (row_in table k)) (numbers_from 0 around.rows)
      (subst (λ k. Memᴰ k places) place_is (at_in places i 0 (omega (arith, as_many))))

  below : place < around.rows
  below = omega (arith, (numbers_e 0 around.rows among.0).1)

  -- the row stands in the table
  pub place_inside : rows_at + row_size * place + row_size ≤ length table
  place_inside = omega (arith, below, around.meshed.room)

  -- it gives a link
  pub place_linked : LinkedRow a b (row_in table place)
  place_linked = record {
    count = around.meshed.count;
    fits = row_fits_lem around.meshed.count table around.rows place around.meshed.rule below;
    apart = λ e. omega (arith, around.meshed.order);
    held = among.1;
  }

  -- which is the one that is kept for it
  pub place_link : {row : Row} {l : Link} → row ≡ row_in table place → l ≡ link a b row
      → l ≡ (get_or links.starts i 0, get_or links.ends i 0)
  place_link r l =
      l ∙ ap (link a b) r
      ∙ sym (ap (λ ls. get_or ls i (0, 0)) each
      ∙ map_at (λ k. link a b (row_in table k)) places i 0 (0, 0) (omega (arith, as_many))
      ∙ ap (λ k. link a b (row_in table k)) place_is)
      ∙ in_at links i h
