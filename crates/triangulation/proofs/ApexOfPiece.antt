-- The apex of a piece: it lies between the ends, and a piece has one exactly if it has an admissible triangulation.
-- A best triangulation of a piece of two sides or more is a cut, so its own apex reaches the best worst.
use Prim.Native.Nat.{ℕ, suc, ◌+◌, ◌-◌, ◌≤◌, ◌<◌}
use mathlib.Core.Bool.{not, ◌&&◌}
use mathlib.Core.Option.{Option, none, some}
use mathlib.Core.Path.{◌≡◌, refl, sym, subst}
use native.Mathlib.Omega.{arith}
use lib.Dec.{T, eqb, eqb→eq, eqb_refl, T_not}
use Rattle.lists.specs.Lists.{numbers_from}
use Rattle.lists.proofs.Tests.{and_l, and_r, and_i}
use Rattle.lists.proofs.Lists.{any_i, any_e, first_some, first_none}
use Rattle.lists.proofs.Numbers.{numbers_e, numbers_i, first_no}
use Rattle.quality.specs.declared.Quality.{Quality}
use Rattle.quality.specs.Quality.{as_good}
use Rattle.quality.proofs.QualityOrder.{◌≈◌, as_good_lem, from_as_good, one_fraction}
use Rattle.ring.specs.Ring.{Site}
use Rattle.triangulation.specs.Triangulation.{Tri, side, cut, span}
use Rattle.triangulation.specs.Admissible.{piece_admissible}
use Rattle.triangulation.specs.Best.{worst_of_way, piece_ways, best_worst, has_apex, reaches, apex}
use Rattle.triangulation.proofs.AllWays.{span_over}
use Rattle.triangulation.proofs.AdmissibleParts.{Cuts}
use Rattle.triangulation.proofs.WorstOfWays.{Way, Reached, way_in, in_way, best_there, best_reached}

-- an admissible triangulation of piece (i,j) with its apex at k has a worst that is as good as q
pub record Reaches (site : Site) (i k j : ℕ) (q : Quality) : Type 0 where
  pub l : Tri
  pub r : Tri
  pub cuts : Cuts i k j l r
  pub admissible : T (piece_admissible site i (cut l r))
  pub reached : worst_of_way site i (cut l r) ≈ q

module _ (site : Site) where
  pub apex_between : {i j k : ℕ} → apex site i j ≡ some k → (i < k) × (k < j)
  unfolding apex
  apex_between {i} {j} {k} e =
      let at = first_some (reaches site i j (best_worst site i j)) (numbers_from (suc i) (j - i - 1)) e in
      let range = numbers_e (suc i) (j - i - 1) at.0 in
      (range.0, omega (arith, range.0, range.1))

  pub no_apex : (i j : ℕ) → j - i ≤ 1 → apex site i j ≡ none
  no_apex i j h = go (apex site i j) refl
    where
      go : (o : Option ℕ) → apex site i j ≡ o → o ≡ none
      go none e = refl
      go (some k) e = absurd (omega (arith, (apex_between e).0, (apex_between e).1))

  -- ---- k reaches a quality

  pub reach_i : {i j k : ℕ} {l r : Tri} {q : Quality}
      → Way site i j (cut l r)
      → i + span l ≡ k
      → worst_of_way site i (cut l r) ≈ q
      → T (reaches site i j (some q) k)
  unfolding reaches
  reach_i {i} {j} {k} {l} {r} {q} w e g =
      let own = subst (λ n. T (eqb (i + span l) n)) e (eqb_refl (i + span l)) in
      any_i (λ t. has_apex i k t && as_good (worst_of_way site i t) q) (piece_ways site i j) (way_in site w)
      (and_i (eqb (i + span l) k) (as_good (worst_of_way site i (cut l r)) q) own (as_good_lem g))

  pub reach_e : {i j k : ℕ} {q : Quality} → i < j → T (reaches site i j (some q) k) → Reaches site i k j q
  unfolding reaches span
  reach_e {i} {j} {k} {q} h t =
      let at = any_e (λ t. has_apex i k t && as_good (worst_of_way site i t) q) (piece_ways site i j) t in
      go at.0 (in_way site h at.1) at.2
    where
      go : (t : Tri) → Way site i j t → T (has_apex i k t && as_good (worst_of_way site i t) q) → Reaches site i k j q
      go side w t = absurd t
      go (cut l r) w t =
          let own = eqb (i + span l) k in
          let worst = worst_of_way site i (cut l r) in
          let at_k : i + span l ≡ k = eqb→eq (i + span l) k (and_l own (as_good worst q) t) in
          record {
            l = l;
            r = r;
            cuts = record { at_k = at_k; at_j = omega (arith, w.ends, at_k) };
            admissible = w.admissible;
            reached = from_as_good worst q (and_r own (as_good worst q) t);
          }

  pub reaches_way : {i k j : ℕ} {q : Quality} → (at : Reaches site i k j q) → Way site i j (cut at.l at.r)
  unfolding span
  reaches_way at = record { ends = omega (arith, at.cuts.at_k, at.cuts.at_j); admissible = at.admissible }

  -- ---- the apex

  -- the apex, with a triangulation that has it and reaches the best worst
  pub apex_reaches : {i j k : ℕ} {q : Quality} → best_worst site i j ≡ some q → apex site i j ≡ some k → Reaches site i k j q
  unfolding apex
  apex_reaches {i} {j} {k} {q} b e =
      let between = apex_between e in
      let at = first_some (reaches site i j (best_worst site i j)) (numbers_from (suc i) (j - i - 1)) e in
      reach_e (omega (arith, between.0, between.1)) (subst (λ o. T (reaches site i j o k)) b at.1)

  -- the best worst is reached with some apex
  pub best_cut : {i j : ℕ} {q : Quality} → i + 2 ≤ j → Reached site i j q → (k : ℕ) × Reaches site i k j q
  unfolding span
  best_cut {i} {j} {q} h top = go top.by top.way top.worst
    where
      go : (t : Tri) → Way site i j t → worst_of_way site i t ≡ q → (k : ℕ) × Reaches site i k j q
      go side w e = absurd (omega (arith, w.ends))
      go (cut l r) w e = (
        i + span l,
        record {
          l = l;
          r = r;
          cuts = record { at_k = refl; at_j = omega (arith, w.ends) };
          admissible = w.admissible;
          reached = subst (λ w. w ≈ q) (sym e) (one_fraction q);
        },
      )

  -- a piece with an admissible triangulation has an apex
  pub apex_there : {i j : ℕ} {t : Tri} → i + 2 ≤ j → Way site i j t → (k : ℕ) × (apex site i j ≡ some k)
  unfolding apex span
  apex_there {i} {j} h w = go (apex site i j) refl
    where
      never : apex site i j ≡ none → ⊥
      never e =
          let q = best_there site w in
          let at = best_cut h (best_reached site (omega arith) q.1) in
          let k = at.0 in
          let c = at.1.cuts in
          let low : suc i ≤ k = omega (arith, c.at_k, span_over at.1.l) in
          let high : k < suc i + (j - i - 1) = omega (arith, c.at_j, span_over at.1.r) in
          let n = j - i - 1 in
          let fails = first_none (reaches site i j (best_worst site i j)) (numbers_from (suc i) n) e (numbers_i (suc i) n k low high) in
          T_not (reaches site i j (some q.0) k) (subst (λ o. T (not (reaches site i j o k))) q.1 fails)
          (reach_i (reaches_way at.1) c.at_k at.1.reached)

      go : (o : Option ℕ) → apex site i j ≡ o → (k : ℕ) × (apex site i j ≡ some k)
      go (some k) e = (k, e)
      go none e = absurd (never e)

  -- a piece with the mark has none
  pub mark_apex : (i j : ℕ) → best_worst site i j ≡ none → apex site i j ≡ none
  unfolding apex reaches
  mark_apex i j e =
      first_no (reaches site i j (best_worst site i j)) (suc i) (j - i - 1)
      (λ k l h. subst (λ o. T (not (reaches site i j o k))) (sym e) tt)
