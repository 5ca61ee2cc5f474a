-- What the best way says of answer 15: there is none exactly if there is no admissible triangulation.
use Prim.Native.Nat.{◌≤◌}
use mathlib.Core.Bool.{true, false}
use mathlib.Core.Option.{Option, none, some}
use mathlib.Core.Path.{◌≡◌, refl, subst}
use Rattle.std.specs.Prelude.{Option as Optional, None, Some}
use lib.Dec.{T}
use Rattle.quality.specs.declared.Quality.{Quality}
use Rattle.quality.specs.Quality.{as_good}
use Rattle.ring.specs.Ring.{Site, m}
use Rattle.ring.specs.SoundRing.{SoundRing}
use Rattle.triangulation.specs.Best.{table_best, same_best}
use Rattle.triangulation.proofs.WorstOfWays.{none_best}
use Rattle.calls.specs.Removing.{no_way}
use Rattle.calls.proofs.BestDecides.{mark_no_way, best_some_way}
use Rattle.replacement.specs.declared.Way.{Way}
use Rattle.replacement.specs.Steps.{BestWay, worst_of}

best_kept : (q : Quality) (o : Option Quality) → T (same_best (some q) o) → (r : Quality) × (o ≡ some r) × T (as_good q r)
unfolding same_best
best_kept q none h = absurd h
best_kept q (some r) h = (r, refl, h)

module _ (site : Site) (sound : SoundRing site) (three : 3 ≤ m site) (best : Optional Way) (is-best : BestWay site best) where
  pub marked : best ≡ None → no_way site ≡ true
  marked e =
      mark_no_way site sound three
      (none_best (table_best site 1 (m site)) (subst (λ best. T (same_best (worst_of best) (table_best site 1 (m site)))) e is-best.best))

  module _ (way : Way) (is : best ≡ Some way) where
    -- the best worst of the whole ring or chain, as the table of pieces has it
    pub best_whole : (r : Quality) × (table_best site 1 (m site) ≡ some r) × T (as_good way.worst r)
    best_whole =
        best_kept way.worst (table_best site 1 (m site))
        (subst (λ best. T (same_best (worst_of best) (table_best site 1 (m site)))) is is-best.best)

    pub unmarked : no_way site ≡ false
    unmarked = best_some_way site sound three best_whole.1
