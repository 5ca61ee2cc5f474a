-- Some rows go, and each row that comes is better than the worst of them, w: then the list grows. For every q worse than w as many of the
-- old qualities as of the new ones are no better than q, and of w fewer of the new ones. Look at the first entries: if the new one is better
-- than w, it is better than the old one; otherwise they are one fraction, all counts fall by the same, and so on.
use Prim.Native.Nat.{◌+◌, ◌<◌}
use mathlib.Core.Bool.{Bool, not}
use mathlib.Core.List.Memᴰ
use mathlib.Core.List.{List, [], ◌∷◌, ◌++◌, map, map-append, Memᴰ}
use mathlib.Core.Logic.{◌⊎◌, inl, inr}
use mathlib.Core.Path.{◌≡◌, refl, sym, ◌∙◌, subst}
use native.Mathlib.Omega.{arith}
use lib.Dec.{T}
use lib.ListN.{length, length-append, length-map}
use Rattle.lists.specs.Lists.{those}
use Rattle.lists.proofs.Counts.{count_cons, count_append, count_most, count_split, count_map, ind, ind_yes}
use Rattle.volume.specs.declared.Point.{Point}
use Rattle.quality.specs.declared.Quality.{Quality}
use Rattle.quality.proofs.QualityOrder.{Fraction, ◌⊏◌, ◌⊑◌, ◌≈◌, compare, worse_is_at_most, worse_at_most_trans, at_most_worse_trans}
use Rattle.quality.proofs.WorstAndBest.{Fractions, Worst}
use Rattle.rows.specs.declared.Row.{Row}
use Rattle.rows.specs.RowMeasure.{row_quality}
use Rattle.rows.proofs.ProperRows.{rows_fractions}
use Rattle.ranking.specs.Ranking.{from_worst, sorted, Grows}
use Rattle.ranking.proofs.WorstToBest.{ranked_fractions, ranked_count, ranked_length, ranked_sorted, sorted_tail, no_better_than}
use Rattle.ranking.proofs.WorstToBest.{behind_first, up_to, self_up_to, none_up_to, lowest}
use Rattle.ranking.proofs.FirstEntries.{Climbs, here, later, grows, one_count}

-- ---- sorted lists

module _ (w : Quality) (fw : Fraction w) where
  -- as many are no better than any x that is worse than w: then a first entry y that is no better than w is no better than x
  level : (x y : Quality) (xs ys : List Quality) → Fractions (y ∷ ys) → T (sorted (y ∷ ys))
      → (x ⊏ w → up_to x (x ∷ xs) ≡ up_to x (y ∷ ys)) → y ⊑ w → y ⊑ x
  level x y xs ys fy sy same low = go (compare x y)
    where
      go : (x ⊏ y) ⊎ (y ⊑ x) → y ⊑ x
      go (inl h) = lowest x y ys fy sy (omega (arith, self_up_to x (x ∷ xs) (Memᴰ.head refl), same (worse_at_most_trans fw h low)))
      go (inr h) = h

  climb : (xs ys : List Quality) → Fractions xs → Fractions ys → T (sorted xs) → T (sorted ys)
      → ((q : Quality) → q ⊏ w → up_to q xs ≡ up_to q ys) → up_to w ys < up_to w xs → up_to w ys < length ys → Climbs xs ys
  climb [] ys fx fy sx sy same fewer more = absurd (omega (arith, count_most (no_better_than w) []))
  climb (x ∷ xs) [] fx fy sx sy same fewer more = absurd (omega arith)
  climb (x ∷ xs) (y ∷ ys) fx fy sx sy same fewer more =
      go (compare w y)
      (climb xs ys (behind_first fx) (behind_first fy) (sorted_tail x xs sx) (sorted_tail y ys sy))
    where
      fair_x : Fraction x
      fair_x = fx x (Memᴰ.head refl)

      low : x ⊑ w
      low = lowest w x xs fx sx (omega arith)

      up : (q z : Quality) (zs : List Quality) → up_to q (z ∷ zs) ≡ ind (no_better_than q z) + up_to q zs
      up q z zs = count_cons (no_better_than q) z zs

      go : (w ⊏ y) ⊎ (y ⊑ w)
          → (((q : Quality) → q ⊏ w → up_to q xs ≡ up_to q ys) → up_to w ys < up_to w xs → up_to w ys < length ys → Climbs xs ys)
          → Climbs (x ∷ xs) (y ∷ ys)
      go (inl h) rest = here (at_most_worse_trans fair_x low h)
      go (inr h) rest =
          let both : x ≈ y = record { up = level y x ys xs fx sx (λ l. sym (same y l)) low; down = level x y xs ys fy sy (same x) h } in
          let one = one_count fair_x (fy y (Memᴰ.head refl)) both in
          later both
          (rest (λ q l. omega (arith, same q l, one q, up q x xs, up q y ys))
          (omega (arith, one w, up w x xs, up w y ys))
          (omega (arith, up w y ys, ind_yes (no_better_than w y) h.not_worse)))

-- ---- rows

module _ (points : List Point) (goes : Row → Bool) (rows new : List Row) (w : Quality) where
  abbrev measured : List Row → List Quality
  measured rows = map (row_quality points) rows

  abbrev gone : List Row
  gone = those goes rows

  abbrev stay : List Row
  stay = those (λ row. not (goes row)) rows

  -- counted by parts, before and afterwards
  was : (q : Quality) → up_to q (from_worst (measured rows)) ≡ up_to q (measured gone) + up_to q (measured stay)
  was q =
      let p = no_better_than q in
      omega (
        arith,
        ranked_count p (measured rows),
        count_map p (row_quality points) rows,
        count_map p (row_quality points) gone,
        count_map p (row_quality points) stay,
        count_split (λ row. p (row_quality points row)) goes rows,
      )

  now : (q : Quality) → up_to q (from_worst (measured (stay ++ new))) ≡ up_to q (measured stay) + up_to q (measured new)
  now q =
      let p = no_better_than q in
      ranked_count p (measured (stay ++ new)) ∙ rw (map-append (row_quality points) stay new) (count_append p (measured stay) (measured new))

  long : length (from_worst (measured (stay ++ new))) ≡ length (measured stay) + length new
  long =
      omega (
        arith,
        ranked_length (measured (stay ++ new)),
        length-map (stay ++ new) (row_quality points),
        length-append stay new,
        length-map stay (row_quality points),
      )

  -- w is the worst of the rows that go, each row that comes is better, and there is one
  pub rows_grow : Worst w (measured gone) → ((row : Row) → Memᴰ row new → w ⊏ row_quality points row) → 0 < length new
      → Grows (from_worst (measured rows)) (from_worst (measured (stay ++ new)))
  rows_grow low over some =
      grows
      (climb w fair (from_worst (measured rows)) (from_worst (measured (stay ++ new)))
      (ranked_fractions (measured rows) (all rows)) (ranked_fractions (measured (stay ++ new)) (all (stay ++ new)))
      (ranked_sorted (measured rows) (all rows)) (ranked_sorted (measured (stay ++ new)) (all (stay ++ new)))
      (λ q l. omega (arith, was q, now q, none_gone q l, none_below q l))
      (omega (arith, was w, now w, none_new, self_up_to w (measured gone) low.inside))
      (omega (arith, now w, none_new, count_most (no_better_than w) (measured stay), long, some)))
    where
      all : (rows : List Row) → Fractions (measured rows)
      all = rows_fractions points

      fair : Fraction w
      fair = all gone w low.inside

      none_gone : (q : Quality) → q ⊏ w → up_to q (measured gone) ≡ 0
      none_gone q l = none_up_to q (measured gone) (λ r m. worse_at_most_trans (all gone r m) l (low.bounds r m))

      over_each : (r : Quality) → Memᴰ r (measured new) → w ⊏ r
      over_each r m =
          let (row, k, e) = Memᴰ.of_map (row_quality points) new m in
          subst (λ q. w ⊏ q) e (over row k)

      none_new : up_to w (measured new) ≡ 0
      none_new = none_up_to w (measured new) over_each

      none_below : (q : Quality) → q ⊏ w → up_to q (measured new) ≡ 0
      none_below q l = none_up_to q (measured new) (λ r m. worse_at_most_trans (all new r m) l (worse_is_at_most (over_each r m)))
