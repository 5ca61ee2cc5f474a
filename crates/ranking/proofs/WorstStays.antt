-- The first entry of a patch's list is its worst; so where the list grows the worst does not fall, and neither does its score.
use Prim.Native.Nat.{◌≤◌}
use mathlib.Core.Bool.{not}
use mathlib.Core.List.{List, [], ◌∷◌, Memᴰ}
use mathlib.Core.Option.{get_or}
use mathlib.Core.Path.{◌≡◌, refl, sym, ap, subst}
use native.Mathlib.Omega.{arith}
use lib.Dec.{T}
use lib.ListN.{length}
use Rattle.quality.specs.declared.Quality.{Quality}
use Rattle.quality.specs.Quality.{zero_quality, worse, as_good, worst}
use Rattle.quality.proofs.QualityOrder.{◌⊑◌, at_most_trans, worse_is_at_most, as_good_lem, as_good_self}
use Rattle.quality.proofs.WorstAndBest.{Worst, worst_is_lem, worst_of}
use Rattle.score.specs.Score.{score_of}
use Rattle.score.proofs.ScoreLargest.{score_grows}
use Rattle.layout.specs.Layout.{Patch}
use Rattle.tally.specs.Tally.{qualities, worst_of_patch}
use Rattle.ranking.specs.Ranking.{from_worst, worst_first, entry, Grows}
use Rattle.ranking.proofs.WorstToBest.{ranked_in, ranked_count, ranked_length, no_better_than}
use Rattle.ranking.proofs.WorstToBest.{self_up_to, lowest, patch_fractions, list_fractions, patch_sorted}
use Rattle.ranking.proofs.FirstEntries.{Climbs, here, later, climbs}

-- ---- the first entry

module _ (patch : Patch) {x : Quality} {xs : List Quality} (e : worst_first patch ≡ x ∷ xs) where
  -- it is one of the patch's qualities, and no better than any of them
  pub first_worst : Worst x (qualities patch)
  first_worst =
      let qs = qualities patch in
      record {
        inside = ranked_in qs (rw e (Memᴰ.head refl));
        bounds =
            λ r m. lowest r x xs (rw e at (list_fractions patch)) (rw e at (patch_sorted patch))
            (rw (← e, ranked_count (no_better_than r) qs) (self_up_to r qs m));
      }

  -- a patch with an entry has rows, so its worst is one of theirs
  pub worst_there : Worst (worst_of_patch patch) (qualities patch)
  worst_there =
      let (q, found) = worst_of (qualities patch) first_worst.inside in
      subst (λ q. Worst q (qualities patch)) (sym (ap (λ o. get_or o zero_quality) found))
      (worst_is_lem (qualities patch) (patch_fractions patch) found)

-- the first entry and the worst of the patch are one fraction, also without rows
pub first_is_worst : (patch : Patch) → T (as_good (entry (worst_first patch) 0) (worst_of_patch patch))
unfolding worst
first_is_worst patch = go (worst_first patch) refl
  where
    go : (qs : List Quality) → worst_first patch ≡ qs → T (as_good (entry qs 0) (worst_of_patch patch))
    go [] e = none (qualities patch) e
      where
        none : (qs : List Quality) → from_worst qs ≡ [] → T (as_good zero_quality (get_or (worst qs) zero_quality))
        none [] e = as_good_self zero_quality
        none (q ∷ qs) e = absurd (omega (arith, ranked_length (q ∷ qs), ap length e))
    go (x ∷ xs) e =
        let first = first_worst patch e in
        let own = worst_there patch e in
        as_good_lem (record { up = first.bounds (worst_of_patch patch) own.inside; down = own.bounds x first.inside })

-- ---- the worst stays

-- by both first entries: that of old is no better than that of new
by_first : (old new : Patch) {x y : Quality} {xs ys : List Quality} → worst_first old ≡ x ∷ xs → worst_first new ≡ y ∷ ys → x ⊑ y
    → (worst_of_patch old ⊑ worst_of_patch new) × (score_of (worst_of_patch old) ≤ score_of (worst_of_patch new))
by_first old new {x} {y} d e h =
    let was = worst_there old d in
    let is = worst_there new e in
    let first = first_worst old d in
    let next = first_worst new e in
    let low : worst_of_patch old ⊑ y = at_most_trans (patch_fractions old x first.inside) (was.bounds x first.inside) h in
    let stays : worst_of_patch old ⊑ worst_of_patch new =
    at_most_trans (patch_fractions new y next.inside) low (next.bounds (worst_of_patch new) is.inside) in (
      stays,
      score_grows (patch_fractions old (worst_of_patch old) was.inside) (patch_fractions new (worst_of_patch new) is.inside) stays,
    )

both_stay : (old new : Patch) {xs ys : List Quality} → worst_first old ≡ xs → worst_first new ≡ ys → Climbs xs ys
    → (worst_of_patch old ⊑ worst_of_patch new) × (score_of (worst_of_patch old) ≤ score_of (worst_of_patch new))
both_stay old new d e (here h) = by_first old new d e (worse_is_at_most h)
both_stay old new d e (later h c) = by_first old new d e h.up

both_there : (old new : Patch) {xs ys : List Quality} → worst_first old ≡ xs → worst_first new ≡ ys → Climbs xs ys
    → Worst (worst_of_patch old) (qualities old) × Worst (worst_of_patch new) (qualities new)
both_there old new d e (here h) = (worst_there old d, worst_there new e)
both_there old new d e (later h c) = (worst_there old d, worst_there new e)

module _ (old new : Patch) (g : Grows (worst_first old) (worst_first new)) where
  pub worst_stays : T (not (worse (worst_of_patch new) (worst_of_patch old)))
  worst_stays = (both_stay old new refl refl (climbs (worst_first old) (worst_first new) g)).0.not_worse

  pub score_stays : score_of (worst_of_patch old) ≤ score_of (worst_of_patch new)
  score_stays = (both_stay old new refl refl (climbs (worst_first old) (worst_first new) g)).1

  -- both patches have rows
  pub both_worst : Worst (worst_of_patch old) (qualities old) × Worst (worst_of_patch new) (qualities new)
  both_worst = both_there old new refl refl (climbs (worst_first old) (worst_first new) g)
