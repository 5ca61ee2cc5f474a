-- Request [11]: the qualities of a patch from worst to best, and when such a list is larger than another, place by place from the worst.
use Rattle.std.specs.Prelude.{ℕ, ◌<◌, Bool, true, cond, not, ◌&&◌, List, [], ◌∷◌, T, length, get_or}
use Rattle.lists.specs.Lists.{every}
use Rattle.quality.specs.declared.Quality.{Quality}
use Rattle.quality.specs.Quality.{zero_quality, worse, as_good}
use Rattle.layout.specs.Layout.{Patch}
use Rattle.tally.specs.Tally.{qualities}

-- ---- the list

-- q goes behind r: r is worse
abbrev pub behind : Quality → Quality → Bool
behind q r = worse r q

-- one quality more, behind all that it goes behind
unfoldable pub put : Quality → List Quality → List Quality
put q [] = q ∷ []
put q (r ∷ rs) = let rest = put q rs in cond (behind q r) (r ∷ rest) (q ∷ r ∷ rs)

-- qualities from worst to best, each as often as it is there
unfoldable pub from_worst : List Quality → List Quality
from_worst [] = []
from_worst (q ∷ qs) = put q (from_worst qs)

-- the list of a patch: the qualities of all its rows, from worst to best
abbrev pub worst_first : Patch → List Quality
worst_first patch = from_worst (qualities patch)

-- no quality is worse than one before it
unfoldable pub sorted : List Quality → Bool
sorted [] = true
sorted (q ∷ qs) = let rest = sorted qs in every (λ r. not (worse r q)) qs && rest

-- ---- larger

-- the quality at a place; the zero quality stands in where there is none, and is never met inside a list
abbrev pub entry : List Quality → ℕ → Quality
entry qs i = get_or qs i zero_quality

-- The list grows from old to new: up to some place inside both lists the entries are one fraction each, and at that place the new one is
-- better. How long the lists are does not matter otherwise.
pub record Grows (old new : List Quality) : Type 0 where
  pub place : ℕ
  pub in_old : place < length old
  pub in_new : place < length new
  pub before : (i : ℕ) → i < place → T (as_good (entry old i) (entry new i))
  pub better : T (worse (entry old place) (entry new place))
