-- The links and places that three arrays hold: how many, which stands where, and one more.
use Prim.Native.Nat.{ℕ, suc, ◌+◌, ◌<◌, ◌≤◌}
use mathlib.Core.List.{[], ◌∷◌, ◌++◌, map, map-map}
use mathlib.Core.Path.{◌≡◌, sym, ap, ◌∙◌}
use native.Mathlib.Numerals.{add-one}
use native.Mathlib.Omega.{arith}
use lib.ListN.{length, get_or, set, take, drop, length-map}
use lib.Seq.{drop-cons, get_or-set_same, get_or-set_other, take-suc-set}
use Rattle.lists.specs.Lists.{numbers_from}
use Rattle.lists.proofs.Numbers.{numbers_e, map_numbers_length, map_numbers_at, map_numbers_append, map_numbers_take}
use Rattle.lists.proofs.Images.{map_same, map_at}
use Rattle.links.specs.declared.Links.{Links}
use Rattle.links.specs.Links.{Link, starts, ends}
use Rattle.links.specs.Steps.{links_in, places_in}

pub in_length : (links : Links) → length (links_in links) ≡ links.n
unfolding links_in
in_length links = map_numbers_length _ links.n

pub in_at : (links : Links) (i : ℕ) → i < links.n → get_or (links_in links) i (0, 0) ≡ (get_or links.starts i 0, get_or links.ends i 0)
unfolding links_in
in_at links i h = map_numbers_at _ links.n i (0, 0) h

-- the first of those that are left
pub in_drop : (links : Links) (i : ℕ) → i < links.n
    → drop i (links_in links) ≡ (get_or links.starts i 0, get_or links.ends i 0) ∷ drop (suc i) (links_in links)
in_drop links i h =
    drop-cons (links_in links) i (0, 0) (omega (arith, in_length links)) ∙ ap (λ l. l ∷ drop (suc i) (links_in links)) (in_at links i h)

pub starts_length : (links : Links) → length (starts (links_in links)) ≡ links.n
starts_length links = length-map (links_in links) (λ l. l.0) ∙ in_length links

-- the starts and the ends are the fronts of their arrays
pub starts_taken : (links : Links) → links.n ≤ length links.starts → take links.n links.starts ≡ starts (links_in links)
unfolding links_in
starts_taken links h =
    sym (map-map (λ (l : Link). l.0) (λ i. (get_or links.starts i 0, get_or links.ends i 0)) (numbers_from 0 links.n)
    ∙ map_numbers_take links.n links.starts h)

pub ends_taken : (links : Links) → links.n ≤ length links.ends → take links.n links.ends ≡ ends (links_in links)
unfolding links_in
ends_taken links h =
    sym (map-map (λ (l : Link). l.1) (λ i. (get_or links.starts i 0, get_or links.ends i 0)) (numbers_from 0 links.n)
    ∙ map_numbers_take links.n links.ends h)

-- the links, with one row more
abbrev with_row : Links → ℕ → ℕ → ℕ → Links
with_row links place v w =
    record {
      n = links.n + 1;
      places = set links.places links.n place;
      starts = set links.starts links.n v;
      ends = set links.ends links.n w;
    }

pub places_added : (links : Links) (place v w : ℕ) → links.n < length links.places
    → places_in (with_row links place v w) ≡ places_in links ++ place ∷ []
places_added links place v w p = rw add-one (take-suc-set links.places links.n place p)

pub in_added : (links : Links) (place v w : ℕ) → links.n < length links.starts → links.n < length links.ends
    → links_in (with_row links place v w) ≡ links_in links ++ (v, w) ∷ []
unfolding links_in numbers_from
in_added links place v w s e =
    let n = links.n in
    let at : ℕ → Link = λ i. (get_or (set links.starts n v) i 0, get_or (set links.ends n w) i 0) in
    let old : ℕ → Link = λ i. (get_or links.starts i 0, get_or links.ends i 0) in
    let front : map at (numbers_from 0 n) ≡ map old (numbers_from 0 n) = map_same at old (numbers_from 0 n) (λ i m.
    let h = (numbers_e 0 n m).1 in
    rw (get_or-set_other links.starts n i v 0 (λ q. omega arith), get_or-set_other links.ends n i w 0 (λ q. omega arith)))
    in
    let back : at n ≡ (v, w) = rw (get_or-set_same links.starts n v 0 s, get_or-set_same links.ends n w 0 e) in
    map_numbers_append at n 1 ∙ rw (front, back)
