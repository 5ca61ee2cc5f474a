-- The best worst and the apex of a piece from those of the smaller pieces inside it: what a loop over k upwards finds.
-- The candidate at k is the best worst of the triangulations with apex k; the loop keeps the first of the best candidates.
use Prim.Native.Nat.{ℕ, suc, ◌+◌, ◌-◌, ◌≤◌, ◌<◌}
use mathlib.Core.Bool.{Bool, true, false, cond, not}
use mathlib.Core.List.{map}
use mathlib.Core.Option
use mathlib.Core.Option.{Option, none, some, none-ne-some, some-injective}
use mathlib.Core.Path.{◌≡◌, refl, sym, ap, ◌∙◌, subst}
use native.Mathlib.Omega.{arith}
use lib.Dec.{T, leb, leb→le, nleb→lt, not_T}
use Rattle.lists.specs.Lists.{any}
use Rattle.lists.proofs.Tests.{is_yes, is_no, no_is}
use Rattle.lists.proofs.Numbers.{first_at}
use Rattle.quality.specs.declared.Quality.{Quality}
use Rattle.quality.specs.Quality.{worse_of, worst}
use Rattle.quality.proofs.QualityOrder.{Fraction, ◌⊑◌, ◌≈◌, as_good_lem, from_as_good, at_most_self, at_most_trans, clash}
use Rattle.quality.proofs.QualityOrder.{worse_of_left, worse_of_right, worse_of_has}
use Rattle.rows.specs.RowMeasure.{row_quality}
use Rattle.ring.specs.Ring.{Site}
use Rattle.triangulation.specs.Triangulation.{Tri, side, cut, span, two_rows, new_rows}
use Rattle.triangulation.specs.Admissible.{kept_uses, triangle_face, diagonal_faces, piece_admissible}
use Rattle.triangulation.specs.Best.{worst_of_way, best_worst, reaches, apex, same_best}
use Rattle.triangulation.proofs.AllWays.{span_over}
use Rattle.triangulation.proofs.AdmissibleParts.{side_used, diagonal_used, neighbours_free, Cuts, cut_fits, fits_cut, side_admissible}
use Rattle.triangulation.proofs.WorstOfWays.{Over, rows_fraction, rows_over_lem, over_rows}
use Rattle.triangulation.proofs.WorstOfWays.{over_side, over_triangle, over_left, over_right, over_cut}
use Rattle.triangulation.proofs.WorstOfWays.{Way, Reached, worst_over_lem, over_worst, way_fraction, best_there, best_reached}
use Rattle.triangulation.proofs.ApexOfPiece.{Reaches, reaches_way, best_cut, reach_i, reach_e, mark_apex}
use Rattle.triangulation.specs.Steps.{triangle_worst, beside, candidate, best_found}
use Rattle.triangulation.proofs.FirstOfTheBest.{Leads, Led, Sound, leading_led}

-- what is kept for piece (i,j) is its best worst, as a fraction, or the mark
pub record Agrees (site : Site) (kept : ℕ → ℕ → Option Quality) (i j : ℕ) : Type 0 where
  pub same : T (same_best (kept i j) (best_worst site i j))
  pub fraction : (q : Quality) → kept i j ≡ some q → Fraction q

-- p is the worse of q and the best worst of side (i,j), if the side is a piece: reached by a triangulation, and a bound for all
pub record Beside (site : Site) (i j : ℕ) (q p : Quality) : Type 0 where
  pub by : Tri
  pub way : Way site i j by
  pub free : T (not (side_used site i j))
  pub below : p ⊑ q
  pub under : (c : Quality) → c ⊑ p → Over site c (new_rows site i by)
  pub bounds : (t : Tri) → Way site i j t → (c : Quality) → c ⊑ q → Over site c (new_rows site i t) → c ⊑ p
  pub fraction : Fraction p

-- q is the best worst of the triangulations of piece (i,j) with apex k
pub record Candidate (site : Site) (i k j : ℕ) (q : Quality) : Type 0 where
  pub reached : Reaches site i k j q
  pub bounds : (l r : Tri) → Cuts i k j l r → T (piece_admissible site i (cut l r)) → worst_of_way site i (cut l r) ⊑ q
  pub fraction : Fraction q

module _ (site : Site) where
  -- a triangle has rows, so the stand-in is never used
  triangle_there : (i k j : ℕ) → worst (map (row_quality site.points) (two_rows site (i, k, j))) ≡ some (triangle_worst site i k j)
  unfolding triangle_worst worst two_rows
  triangle_there i k j = refl

  triangle_fraction : (i k j : ℕ) → Fraction (triangle_worst site i k j)
  triangle_fraction i k j = rows_fraction site (two_rows site (i, k, j)) (triangle_there i k j)

  beside_near : {i j : ℕ} {q : Quality} → i < j → j - i ≤ 1 → Fraction q → Beside site i j q q
  unfolding span
  beside_near {i} {j} {q} h near fq =
      record {
        by = side;
        way = record { ends = omega arith; admissible = side_admissible site i };
        free = is_no (side_used site i j) (neighbours_free site i j near);
        below = at_most_self q;
        under = λ c l. over_side site c i;
        bounds = λ t w c l o. l;
        fraction = fq;
      }

  beside_far : {i j : ℕ} {q r s : Quality}
      → i + 2 ≤ j
      → T (not (any (kept_uses site) (diagonal_faces site (i, j))))
      → Fraction q
      → Fraction r
      → Reached site i j s
      → r ≈ s
      → Beside site i j q (worse_of q r)
  beside_far {i} {j} {q} {r} {s} far free fq fr top same =
      record {
        by = top.by;
        way = top.way;
        free = subst (λ b. T (not b)) (sym (diagonal_used site i j (omega arith))) free;
        below = worse_of_left q r;
        under = λ c l. worst_over_lem site c i top.by (subst (λ w. c ⊑ w) (sym top.worst) (reached c l));
        bounds = λ t w c l o. worse_of_has (λ p. c ⊑ p) q r l (bound t w c o);
        fraction = fp;
      }
    where
      fp : Fraction (worse_of q r)
      fp = worse_of_has Fraction q r fq fr

      reached : (c : Quality) → c ⊑ worse_of q r → c ⊑ s
      reached c l = at_most_trans fr (at_most_trans fp l (worse_of_right q r)) same.up

      bound : (t : Tri) → Way site i j t → (c : Quality) → Over site c (new_rows site i t) → c ⊑ r
      bound t w c o =
          let over = over_worst site c i t (omega (arith, w.ends)) o in
          at_most_trans top.fraction (at_most_trans (way_fraction site i t) over (top.bounds t w)) same.down

  -- what stands beside both sides of a free triangle
  both_sides : {i k j : ℕ} {p q : Quality}
      → T (not (kept_uses site (triangle_face site (i, k, j))))
      → Beside site i k (triangle_worst site i k j) p
      → Beside site k j p q
      → Candidate site i k j q
  unfolding span
  both_sides {i} {k} {j} {p} {q} free left right =
      record {
        reached = record { l = l; r = r; cuts = cuts; admissible = admissible; reached = reached };
        bounds = at_most;
        fraction = right.fraction;
      }
    where
      l : Tri
      l = left.by

      r : Tri
      r = right.by

      cuts : Cuts i k j l r
      cuts = record { at_k = left.way.ends; at_j = right.way.ends }

      admissible : T (piece_admissible site i (cut l r))
      admissible =
          fits_cut site cuts (record {
            triangle = free;
            left_side = left.free;
            left = left.way.admissible;
            right_side = right.free;
            right = right.way.admissible;
          })

      rows : Over site q (new_rows site i (cut l r))
      rows =
          over_cut site cuts q
          (rows_over_lem site (two_rows site (i, k, j)) (triangle_there i k j) q (at_most_trans left.fraction right.below left.below))
          (left.under q right.below)
          (right.under q (at_most_self q))

      at_most : (l r : Tri) → Cuts i k j l r → T (piece_admissible site i (cut l r)) → worst_of_way site i (cut l r) ⊑ q
      at_most l r cuts a =
          let w = worst_of_way site i (cut l r) in
          let o = worst_over_lem site w i (cut l r) (at_most_self w) in
          let fits = cut_fits site cuts a in
          let of-triangle = over_rows site (two_rows site (i, k, j)) (triangle_there i k j) w (over_triangle site cuts w o) in
          let of_left = left.bounds l (record { ends = cuts.at_k; admissible = fits.left }) w of-triangle (over_left site cuts w o) in
          right.bounds r (record { ends = cuts.at_j; admissible = fits.right }) w of_left (over_right site cuts w o)

      reached : worst_of_way site i (cut l r) ≈ q
      reached =
          record {
            up = at_most l r cuts admissible;
            down = over_worst site q i (cut l r) (omega (arith, span_over l, span_over r)) rows;
          }

-- ---- the candidate, from what is kept for the smaller pieces

module _ (site : Site) (kept : ℕ → ℕ → Option Quality) where
  -- what is kept, as a best worst that is reached
  agreed : {i j : ℕ} {r : Quality} → i < j → Agrees site kept i j → kept i j ≡ some r → (q : Quality) × Reached site i j q × (r ≈ q)
  unfolding same_best
  agreed {i} {j} {r} h a e = go (best_worst site i j) refl (subst (λ o. T (same_best o (best_worst site i j))) e a.same)
    where
      go : (o : Option Quality) → best_worst site i j ≡ o → T (same_best (some r) o) → (q : Quality) × Reached site i j q × (r ≈ q)
      go none b t = absurd t
      go (some q) b t = (q, best_reached site h b, from_as_good r q t)

  -- what stands beside a side, if something does
  beside_some : {i j : ℕ} {q p : Quality}
      → i < j
      → (i + 2 ≤ j → Agrees site kept i j)
      → Fraction q
      → beside site kept i j q ≡ some p
      → Beside site i j q p
  unfolding beside
  beside_some {i} {j} {q} {p} h agrees fq e =
      go (leb (j - i) 1) refl (any (kept_uses site) (diagonal_faces site (i, j))) refl (kept i j) refl e
    where
      go : (b : Bool)
          → leb (j - i) 1 ≡ b
          → (u : Bool)
          → any (kept_uses site) (diagonal_faces site (i, j)) ≡ u
          → (o : Option Quality)
          → kept i j ≡ o
          → cond b (some q) (cond u none (Option.map (worse_of q) o)) ≡ some p
          → Beside site i j q p
      go true s u v o k e =
          let near = leb→le (j - i) 1 (is_yes (leb (j - i) 1) s) in
          subst (Beside site i j q) (some-injective q p e) (beside_near site h near fq)
      go false s true v o k e = absurd (none-ne-some p e)
      go false s false v none k e = absurd (none-ne-some p e)
      go false s false v (some r) k e =
          let far : i + 2 ≤ j = omega (arith, nleb→lt (j - i) 1 (is_no (leb (j - i) 1) s)) in
          let free = is_no (any (kept_uses site) (diagonal_faces site (i, j))) v in
          let a = agreed h (agrees far) k in
          subst (Beside site i j q) (some-injective (worse_of q r) p e)
          (beside_far site far free fq ((agrees far).fraction r k) a.1 a.2)

  -- something stands beside a side that is free, if it is no piece or its piece has an admissible triangulation
  beside_there : {i j : ℕ} {t : Tri}
      → (i + 2 ≤ j → Agrees site kept i j)
      → T (not (side_used site i j))
      → Way site i j t
      → (q : Quality)
      → (p : Quality) × (beside site kept i j q ≡ some p)
  unfolding beside same_best
  beside_there {i} {j} agrees free w q = go (leb (j - i) 1) refl
    where
      kept_there : (o : Option Quality) → T (same_best o (best_worst site i j)) → (p : Quality) × (Option.map (worse_of q) o ≡ some p)
      kept_there (some r) t = (worse_of q r, refl)
      kept_there none t = let b = best_there site w in absurd (subst (λ o. T (same_best none o)) b.1 t)

      diagonal : Option Quality
      diagonal = cond (any (kept_uses site) (diagonal_faces site (i, j))) none (Option.map (worse_of q) (kept i j))

      go : (b : Bool) → leb (j - i) 1 ≡ b → (p : Quality) × (cond b (some q) diagonal ≡ some p)
      go true s = (q, refl)
      go false s =
          let far : i + 2 ≤ j = omega (arith, nleb→lt (j - i) 1 (is_no (leb (j - i) 1) s)) in
          let unused = sym (diagonal_used site i j (omega arith)) ∙ no_is (side_used site i j) free in
          let at = kept_there (kept i j) (agrees far).same in
          (at.0, ap (λ u. cond u none (Option.map (worse_of q) (kept i j))) unused ∙ at.1)

  module _ {i k j : ℕ} (low : i < k) (high : k < j)
      (agrees_left : i + 2 ≤ k → Agrees site kept i k)
      (agrees_right : k + 2 ≤ j → Agrees site kept k j) where
    pub candidate_some : {q : Quality} → candidate site kept i k j ≡ some q → Candidate site i k j q
    unfolding candidate
    candidate_some {q} e =
        go (kept_uses site (triangle_face site (i, k, j))) refl (beside site kept i k (triangle_worst site i k j)) refl e
      where
        go : (b : Bool)
            → kept_uses site (triangle_face site (i, k, j)) ≡ b
            → (o : Option Quality)
            → beside site kept i k (triangle_worst site i k j) ≡ o
            → cond b none (elim o [ none ↦ none | some q ↦ beside site kept k j q ]) ≡ some q
            → Candidate site i k j q
        go true u o s e = absurd (none-ne-some q e)
        go false u none s e = absurd (none-ne-some q e)
        go false u (some p) s e =
            let left = beside_some low agrees_left (triangle_fraction site i k j) s in
            let right = beside_some high agrees_right left.fraction e in
            both_sides site (is_no (kept_uses site (triangle_face site (i, k, j))) u) left right

    pub candidate_there : (l r : Tri)
        → Cuts i k j l r
        → T (piece_admissible site i (cut l r))
        → (q : Quality) × (candidate site kept i k j ≡ some q)
    unfolding candidate
    candidate_there l r cuts a =
        let fits = cut_fits site cuts a in
        let way-left : Way site i k l = record { ends = cuts.at_k; admissible = fits.left } in
        let way-right : Way site k j r = record { ends = cuts.at_j; admissible = fits.right } in
        let left = beside_there agrees_left fits.left_side way-left (triangle_worst site i k j) in
        let right = beside_there agrees_right fits.right_side way-right left.0 in
        (right.0, rw (no_is (kept_uses site (triangle_face site (i, k, j))) fits.triangle, left.1, right.1))

  -- ---- the best worst and the apex of piece (i,j), from the candidates

  module _ {i j : ℕ} (long : i + 2 ≤ j)
      (agrees : (l e : ℕ) → i ≤ l → e ≤ j → l + 2 ≤ e → e - l < j - i → Agrees site kept l e) where
    abbrev candidates : ℕ → Option Quality
    candidates k = candidate site kept i k j

    agrees_left : (k : ℕ) → k < j → i + 2 ≤ k → Agrees site kept i k
    agrees_left k high h = agrees i k (omega arith) (omega arith) h (omega arith)

    agrees_right : (k : ℕ) → i < k → k + 2 ≤ j → Agrees site kept k j
    agrees_right k low h = agrees k j (omega arith) (omega arith) h (omega arith)

    some_at : (k : ℕ) (q : Quality) → i < k → k < j → candidates k ≡ some q → Candidate site i k j q
    some_at k q low high = candidate_some low high (agrees_left k high) (agrees_right k low)

    -- each candidate is a fraction
    pub candidates_sound : Sound candidates (suc i) j
    candidates_sound k q low high e = (some_at k q low high e).fraction

    -- what is reached with apex k is no better than the candidate at k
    there_at : {k : ℕ} {q : Quality} → Reaches site i k j q → (p : Quality) × (candidates k ≡ some p) × (q ⊑ p) × (i < k) × (k < j)
    there_at {k} {q} at =
        let low : i < k = omega (arith, at.cuts.at_k, span_over at.l) in
        let high : k < j = omega (arith, at.cuts.at_j, span_over at.r) in
        let c = candidate_there low high (agrees_left k high) (agrees_right k low) at.l at.r at.cuts at.admissible in
        let p = c.0 in
        let bound = (some_at k p low high c.1).bounds at.l at.r at.cuts at.admissible in
        (p, c.1, at_most_trans {z = p} (way_fraction site i (cut at.l at.r)) at.reached.down bound, low, high)

    -- no candidate: the piece has the mark
    pub none_led : Led candidates (suc i) j none → best_worst site i j ≡ none
    none_led h = go (best_worst site i j) refl
      where
        go : (o : Option Quality) → best_worst site i j ≡ o → o ≡ none
        go none e = refl
        go (some q) e =
            let top = best_cut site long (best_reached site (omega arith) e) in
            let c = there_at top.1 in
            absurd (none-ne-some c.0 (sym (h top.0 c.3 c.4) ∙ c.1))

    module _ {k : ℕ} {q : Quality} (leads : Leads candidates (suc i) j k q) where
      own : Candidate site i k j q
      own = some_at k q leads.low leads.high leads.at

      own_way : Way site i j (cut own.reached.l own.reached.r)
      own_way = reaches_way site own.reached

      leads_best : (p : Quality) × (best_worst site i j ≡ some p) × Reached site i j p × (q ≈ p)
      leads_best =
          let b = best_there site own_way in
          let top = best_reached site (omega arith) b.1 in
          let at = best_cut site long top in
          let c = there_at at.1 in
          let tree = cut own.reached.l own.reached.r in
          let up = at_most_trans (way_fraction site i tree) own.reached.reached.down (top.bounds tree own_way) in
          let most = leads.most at.0 c.0 c.3 c.4 c.1 in
          let down = at_most_trans (candidates_sound at.0 c.0 c.3 c.4 c.1) c.2 most in
          (b.0, b.1, top, record { up = up; down = down })

      leads_apex : apex site i j ≡ some k
      unfolding apex
      leads_apex =
          first_at (reaches site i j (best_worst site i j)) (suc i) (j - i - 1) k leads.low (omega (arith, leads.high))
          (subst (λ o. T (reaches site i j o k)) (sym b) (reach_i site own_way own.reached.cuts.at_k reached))
          lower
        where
          p : Quality
          p = leads_best.0

          b : best_worst site i j ≡ some p
          b = leads_best.1

          top : Reached site i j p
          top = leads_best.2

          same : q ≈ p
          same = leads_best.3

          tree : Tri
          tree = cut own.reached.l own.reached.r

          reached : worst_of_way site i tree ≈ p
          reached =
              record {
                up = top.bounds tree own_way;
                down = at_most_trans own.fraction same.down own.reached.reached.down;
              }

          lower : (l : ℕ) → suc i ≤ l → l < k → T (not (reaches site i j (best_worst site i j) l))
          lower l low below =
              not_T (reaches site i j (best_worst site i j) l) (λ t.
              let c = there_at (reach_e site (omega arith) (subst (λ o. T (reaches site i j o l)) b t)) in
              clash (leads.first l c.0 low below c.1) (at_most_trans top.fraction same.up c.2))

    -- what the loop over k has found at its end: the apex, and the best worst as a fraction

    pub led_apex : (found : Option (ℕ × Quality)) → Led candidates (suc i) j found → apex site i j ≡ Option.map (λ f. f.0) found
    led_apex none h = mark_apex site i j (none_led h)
    led_apex (some f) h = leads_apex h

    pub led_best : (found : Option (ℕ × Quality))
        → Led candidates (suc i) j found
        → T (same_best (Option.map (λ f. f.1) found) (best_worst site i j))
    unfolding same_best
    led_best none h = subst (λ o. T (same_best none o)) (sym (none_led h)) tt
    led_best (some f) h = let b = leads_best h in subst (λ o. T (same_best (some f.1) o)) (sym b.1) (as_good_lem b.3)

    pub led_fraction : (f : ℕ × Quality) → Led candidates (suc i) j (some f) → Fraction f.1
    led_fraction f h = (own h).fraction

    -- the same of the loop as a function

    pub found_led : Led candidates (suc i) j (best_found site kept i j)
    found_led =
        let ends : suc i + (j - i - 1) ≡ j = omega arith in
        subst (λ e. Led candidates (suc i) e (best_found site kept i j)) ends
        (leading_led candidates (suc i) (j - i - 1) (λ k q low high. candidates_sound k q low (omega arith)))

    pub found_apex : apex site i j ≡ Option.map (λ f. f.0) (best_found site kept i j)
    found_apex = led_apex (best_found site kept i j) found_led

    pub found_best : T (same_best (Option.map (λ f. f.1) (best_found site kept i j)) (best_worst site i j))
    found_best = led_best (best_found site kept i j) found_led
