-- Requirement §6: the walk along the links, the closed circle and the open chain.
use Rattle.std.specs.Prelude.{ℕ, zero, suc, min, Bool, true, false, not, eqb, length}
use mathlib.Core.List.{List, [], ◌∷◌, foldr}
use Rattle.std.proofs.Math.Option.{Option, none, some, get_or}
use Rattle.lists.specs.Lists.{every, those, has}
use Rattle.links.specs.Links.{Link, next, starts, ends}

-- ---- circles

-- the walk round the edge, at most so many steps of it: it ends at the first missing link, with nothing,
-- or when it is back at its start, with the points of a closed circle
unfoldable pub walk : ℕ → List Link → ℕ → ℕ → Option (List ℕ)
walk zero links start here = none
walk (suc steps) links start here = elim (next links here) [
  | none ↦ none
  | some there ↦ elim (eqb there start) [
    | true ↦ some (here ∷ [])
    | false ↦ elim (walk steps links start there) [ none ↦ none | some others ↦ some (here ∷ others) ]
  ]
]

-- the closed circle from v, if there is one; it has no more points than there are links
abbrev pub circle : List Link → ℕ → Option (List ℕ)
circle links v = walk (length links) links v v

-- the walk from v closes
abbrev pub closes : List Link → ℕ → Bool
closes links v = elim (circle links v) [ none ↦ false | some points ↦ true ]

-- the links all close
unfoldable pub all_close : List Link → Bool
all_close links = every (closes links) (starts links)

-- the smallest of some numbers
unfoldable pub smallest : List ℕ → ℕ
smallest [] = 0
smallest (n ∷ ns) = foldr min n ns

-- the ring starts at its smallest point number, v1, and follows the links to vm
unfoldable pub circle_of : List Link → List ℕ
circle_of links = get_or (circle links (smallest (starts links))) []

-- ---- chains

-- the points from which a link goes and to which none comes
unfoldable pub heads : List Link → List ℕ
heads links = those (λ v. not (has (ends links) v)) (starts links)

-- the points along the links from here on, at most so many steps of it, up to the first from which no link goes
unfoldable pub follow : ℕ → List Link → ℕ → List ℕ
follow zero links here = here ∷ []
follow (suc steps) links here = elim (next links here) [ none ↦ here ∷ [] | some there ↦ here ∷ follow steps links there ]

-- the chain keeps its own start and end: v1 is the point that no link enters, also when it is not the smallest, and the links lead
-- to vm; of several such points it is the smallest, and then the links make no single chain
unfoldable pub chain_of : List Link → List ℕ
chain_of links = follow (length links) links (smallest (heads links))
