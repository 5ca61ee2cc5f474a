-- The chosen triangulation of a piece is admissible and has the piece's best worst; its depth never binds.
-- It cuts where some best triangulation cuts; its two parts are, by induction, no worse than that one's parts.
use Prim.Native.Nat.{ℕ, zero, suc, ◌+◌, ◌-◌, ◌≤◌, ◌<◌}
use mathlib.Core.Bool.{not}
use mathlib.Core.Option.{Option, none, some}
use mathlib.Core.Path.{◌≡◌, refl, sym, ap, ◌∙◌, subst}
use native.Mathlib.Omega.{arith}
use lib.Dec.{T}
use Rattle.quality.specs.declared.Quality.{Quality}
use Rattle.quality.specs.Quality.{worse}
use Rattle.quality.proofs.QualityOrder.{◌⊑◌, ◌≈◌, as_good_lem, at_most_self, at_most_trans}
use Rattle.ring.specs.Ring.{Site}
use Rattle.triangulation.specs.Triangulation.{Tri, side, cut, span, new_rows}
use Rattle.triangulation.specs.Admissible.{piece_admissible}
use Rattle.triangulation.specs.Best.{worst_of_way, best_worst, apex, chosen_within, chosen_of, same_best}
use Rattle.triangulation.proofs.AllWays.{span_over}
use Rattle.triangulation.proofs.AdmissibleParts.{Cuts, cut_fits, fits_cut}
use Rattle.triangulation.proofs.WorstOfWays.{Over, over_triangle, over_left, over_right, over_cut, worst_over_lem, over_worst}
use Rattle.triangulation.proofs.WorstOfWays.{Way, Reached, way_fraction, best_there, best_reached}
use Rattle.triangulation.proofs.ApexOfPiece.{Reaches, apex_between, no_apex, apex_reaches, apex_there}

-- c is an admissible triangulation of piece (i,j) with the best worst, and no admissible one has a better worst
pub record Optimal (site : Site) (i j : ℕ) (c : Tri) : Type 0 where
  pub spans : span c ≡ j - i
  pub admissible : T (piece_admissible site i c)
  pub reaches : T (same_best (some (worst_of_way site i c)) (best_worst site i j))
  pub none_better_fact : (t : Tri)
      → span t ≡ j - i
      → T (piece_admissible site i t)
      → T (not (worse (worst_of_way site i c) (worst_of_way site i t)))

-- c is an admissible triangulation of piece (i,j), and over whatever t is over
record Better (site : Site) (i j : ℕ) (t c : Tri) : Type 0 where
  pub way : Way site i j c
  pub over : (q : Quality) → Over site q (new_rows site i t) → Over site q (new_rows site i c)

module _ (site : Site) where
  -- ---- the depth never binds

  -- one level: the two parts at the apex, if there is one
  abbrev follow : ℕ → ℕ → ℕ → Option ℕ → Tri
  follow depth i j o = elim o [ none ↦ side | some k ↦ cut (chosen_within depth site i k) (chosen_within depth site k j) ]

  chosen_same : (d e i j : ℕ) → j - i ≤ d → j - i ≤ e → chosen_within d site i j ≡ chosen_within e site i j
  unfolding chosen_within
  chosen_same zero zero i j h k = refl
  chosen_same zero (suc e) i j h k = sym (ap (follow e i j) (no_apex site i j (omega arith)))
  chosen_same (suc d) zero i j h k = ap (follow d i j) (no_apex site i j (omega arith))
  chosen_same (suc d) (suc e) i j within_d within-e = go (apex site i j) refl (chosen_same d e)
    where
      go : (o : Option ℕ)
          → apex site i j ≡ o
          → ((i j : ℕ) → j - i ≤ d → j - i ≤ e → chosen_within d site i j ≡ chosen_within e site i j)
          → follow d i j o ≡ follow e i j o
      go none q below = refl
      go (some k) q below =
          let between = apex_between site q in
          let left = below i k (omega (arith, between.1)) (omega (arith, between.1)) in
          let right = below k j (omega (arith, between.0)) (omega (arith, between.0)) in
          rw (left, right)

  pub chosen_within_lem : (depth i j : ℕ) → j - i ≤ depth → chosen_within depth site i j ≡ chosen_of site i j
  chosen_within_lem depth i j h = chosen_same depth (j - i) i j h (omega arith)

  -- ---- the chosen triangulation follows the apexes

  follows : (i j : ℕ) → chosen_of site i j ≡ follow (j - i) i j (apex site i j)
  unfolding chosen_within
  follows i j = sym (chosen_within_lem (suc (j - i)) i j (omega arith))

  pub chosen_side : (i j : ℕ) → apex site i j ≡ none → chosen_of site i j ≡ side
  chosen_side i j e = follows i j ∙ ap (follow (j - i) i j) e

  pub chosen_cut : (i j k : ℕ) → apex site i j ≡ some k → chosen_of site i j ≡ cut (chosen_of site i k) (chosen_of site k j)
  chosen_cut i j k e =
      let between = apex_between site e in
      follows i j
      ∙ ap (follow (j - i) i j) e
      ∙ ap (λ l. cut l (chosen_within (j - i) site k j)) (chosen_within_lem (j - i) i k (omega (arith, between.1)))
      ∙ ap (cut (chosen_of site i k)) (chosen_within_lem (j - i) k j (omega (arith, between.0)))

  -- ---- the chosen triangulation is as good as any

  -- parts that are no worse than those of a best triangulation make a best one
  joined : {i k j : ℕ} {l r cl cr : Tri} {q : Quality}
      → Way site i j (cut l r)
      → Reached site i j q
      → (at : Reaches site i k j q)
      → Better site i k at.l cl
      → Better site k j at.r cr
      → Better site i j (cut l r) (cut cl cr)
  unfolding span
  joined {i} {k} {j} {l} {r} {cl} {cr} {q} w top at left right =
      let fits = cut_fits site at.cuts at.admissible in
      let cuts : Cuts i k j cl cr = record { at_k = left.way.ends; at_j = right.way.ends } in
      record {
        way = record {
          ends = omega (arith, left.way.ends, right.way.ends);
          admissible =
              fits_cut site cuts (record {
                triangle = fits.triangle;
                left_side = fits.left_side;
                left = left.way.admissible;
                right_side = fits.right_side;
                right = right.way.admissible;
              });
        };
        over = λ p o.
            let own = over_worst site p i (cut l r) (omega (arith, span_over l, span_over r)) o in
            let below : p ⊑ q = at_most_trans (way_fraction site i (cut l r)) own (top.bounds (cut l r) w) in
            let rows = worst_over_lem site p i (cut at.l at.r) (at_most_trans top.fraction below at.reached.down) in
            over_cut site cuts p
            (over_triangle site at.cuts p rows)
            (left.over p (over_left site at.cuts p rows))
            (right.over p (over_right site at.cuts p rows));
      }

  -- one step of the induction
  chosen_step : (depth : ℕ)
      → ((i j : ℕ) (t : Tri) → j - i ≤ depth → Way site i j t → Better site i j t (chosen_of site i j))
      → (i j : ℕ) (t : Tri)
      → j - i ≤ suc depth
      → Way site i j t
      → Better site i j t (chosen_of site i j)
  unfolding span
  chosen_step depth below i j side h w =
      subst (Better site i j side) (sym (chosen_side i j (no_apex site i j (omega (arith, w.ends))))) (record { way = w; over = λ q o. o })
  chosen_step depth below i j (cut l r) h w =
      let long : i + 2 ≤ j = omega (arith, w.ends, span_over l, span_over r) in
      let q = best_there site w in
      let a = apex_there site long w in
      let k = a.0 in
      let between = apex_between site a.1 in
      let at = apex_reaches site q.1 a.1 in
      let fits = cut_fits site at.cuts at.admissible in
      subst (Better site i j (cut l r)) (sym (chosen_cut i j k a.1))
      (joined w (best_reached site (omega arith) q.1) at
      (below i k at.l (omega (arith, between.1)) (record { ends = at.cuts.at_k; admissible = fits.left }))
      (below k j at.r (omega (arith, between.0)) (record { ends = at.cuts.at_j; admissible = fits.right })))

  chosen_good : (depth i j : ℕ) (t : Tri) → j - i ≤ depth → Way site i j t → Better site i j t (chosen_of site i j)
  chosen_good zero i j t h w = absurd (omega (arith, w.ends, span_over t))
  chosen_good (suc depth) i j t h w = chosen_step depth (chosen_good depth) i j t h w

  better_worst : (i j : ℕ) (t c : Tri) → Way site i j t → Better site i j t c → worst_of_way site i t ⊑ worst_of_way site i c
  unfolding span
  better_worst i j side side w b = at_most_self (worst_of_way site i side)
  better_worst i j side (cut l r) w b = absurd (omega (arith, w.ends, b.way.ends, span_over l, span_over r))
  better_worst i j (cut l r) c w b =
      let q = worst_of_way site i (cut l r) in
      let long : 2 ≤ span c = omega (arith, w.ends, b.way.ends, span_over l, span_over r) in
      over_worst site q i c long (b.over q (worst_over_lem site q i (cut l r) (at_most_self q)))

  -- ---- the laws

  -- where some triangulation of a piece is admissible, the chosen one is an admissible triangulation of it,
  pub chosen_way : {i j : ℕ} {t : Tri} → Way site i j t → Way site i j (chosen_of site i j)
  chosen_way {i} {j} {t} w = (chosen_good (j - i) i j t (omega arith) w).way

  -- no admissible one has a better worst,
  pub chosen_best : {i j : ℕ} {t : Tri} → Way site i j t → worst_of_way site i t ⊑ worst_of_way site i (chosen_of site i j)
  chosen_best {i} {j} {t} w = better_worst i j t (chosen_of site i j) w (chosen_good (j - i) i j t (omega arith) w)

  -- and its worst is the piece's best worst
  pub chosen_reaches : {i j : ℕ} {q : Quality} → i < j → best_worst site i j ≡ some q → worst_of_way site i (chosen_of site i j) ≈ q
  chosen_reaches {i} {j} {q} h e =
      let top = best_reached site h e in
      record {
        up = top.bounds (chosen_of site i j) (chosen_way top.way);
        down = subst (λ p. p ⊑ worst_of_way site i (chosen_of site i j)) top.worst (chosen_best top.way);
      }

  -- the same for every tree of the piece's span, by the tests
  pub chosen_optimal : (i j : ℕ) (t : Tri) → i < j → span t ≡ j - i → T (piece_admissible site i t) → Optimal site i j (chosen_of site i j)
  unfolding same_best
  chosen_optimal i j t h e a =
      record {
        spans = omega (arith, c.ends);
        admissible = c.admissible;
        reaches =
            subst (λ o. T (same_best (some (worst_of_way site i (chosen_of site i j))) o)) (sym b.1) (as_good_lem (chosen_reaches h b.1));
        none_better_fact = λ t e a. (chosen_best (way t e a)).not_worse;
      }
    where
      way : (t : Tri) → span t ≡ j - i → T (piece_admissible site i t) → Way site i j t
      way t e a = record { ends = omega arith; admissible = a }

      c : Way site i j (chosen_of site i j)
      c = chosen_way (way t e a)

      b : (q : Quality) × (best_worst site i j ≡ some q)
      b = best_there site (way t e a)
