-- A loop over k upwards that keeps a candidate where there is nothing yet or the candidate is better finds the first of the best.
use Prim.Native.Nat.{ℕ, zero, suc, ◌+◌, ◌≤◌, ◌<◌}
use mathlib.Core.Bool.{Bool, true, false, cond}
use mathlib.Core.Option.{Option, none, some, none-ne-some, some-injective}
use mathlib.Core.Path.{◌≡◌, refl, sym, ap, ◌∙◌, subst}
use native.Mathlib.Decide.{dec_lt}
use native.Mathlib.Nat.{add-suc}
use native.Mathlib.Omega.{arith}
use Rattle.lists.proofs.Tests.{is_yes, is_no}
use Rattle.quality.specs.declared.Quality.{Quality}
use Rattle.quality.specs.Quality.{worse}
use Rattle.quality.proofs.QualityOrder.{Fraction, ◌⊏◌, ◌⊑◌, at_most_self, at_most_trans, worse_is_at_most, at_most_worse_trans}
use Rattle.triangulation.specs.Steps.{keep, leading}

-- k is the first of the numbers from i to below e whose candidate q is the best
pub record Leads (candidates : ℕ → Option Quality) (i e k : ℕ) (q : Quality) : Type 0 where
  pub low : i ≤ k
  pub high : k < e
  pub at : candidates k ≡ some q
  pub most : (l : ℕ) (p : Quality) → i ≤ l → l < e → candidates l ≡ some p → p ⊑ q
  pub first : (l : ℕ) (p : Quality) → i ≤ l → l < k → candidates l ≡ some p → p ⊏ q

-- what is found among the numbers from i to below e
abbrev pub Led : (ℕ → Option Quality) → ℕ → ℕ → Option (ℕ × Quality) → Type 0
Led candidates i e none = (l : ℕ) → i ≤ l → l < e → candidates l ≡ none
Led candidates i e (some found) = Leads candidates i e found.0 found.1

module _ (candidates : ℕ → Option Quality) (i : ℕ) where
  -- each candidate so far is a fraction
  abbrev pub Sound : ℕ → Type 0
  Sound e = (l : ℕ) (p : Quality) → i ≤ l → l < e → candidates l ≡ some p → Fraction p

  none_more : (e : ℕ) → Led candidates i e none → candidates e ≡ none → Led candidates i (suc e) none
  none_more e h k l a b = go (dec_lt l e)
    where
      go : Dec (l < e) → candidates l ≡ none
      go (yes c) = h l a c
      go (no c) = let s : l ≡ e = omega arith in ap candidates s ∙ k

  -- nothing before e: the candidate at e leads
  first_one : (e : ℕ) (q : Quality) → i ≤ e → Led candidates i e none → candidates e ≡ some q → Leads candidates i (suc e) e q
  first_one e q r h k =
      record {
        low = r;
        high = omega arith;
        at = k;
        most = λ l p a b c. go l p a b c (dec_lt l e);
        first = λ l p a b c. absurd (none-ne-some p (sym (h l a b) ∙ c));
      }
    where
      go : (l : ℕ) (p : Quality) → i ≤ l → l < suc e → candidates l ≡ some p → Dec (l < e) → p ⊑ q
      go l p a b c (yes d) = absurd (none-ne-some p (sym (h l a d) ∙ c))
      go l p a b c (no d) =
          let s : l ≡ e = omega arith in
          subst (λ r. r ⊑ q) (some-injective q p (sym k ∙ ap candidates (sym s) ∙ c)) (at_most_self q)

  -- the candidate at e is no better: what led leads
  still_leads : (e k : ℕ) (q : Quality)
      → Leads candidates i e k q
      → ((p : Quality) → candidates e ≡ some p → p ⊑ q)
      → Leads candidates i (suc e) k q
  still_leads e k q h no-better =
      record {
        low = h.low;
        high = omega (arith, h.high);
        at = h.at;
        most = λ l p a b c. go l p a b c (dec_lt l e);
        first = h.first;
      }
    where
      go : (l : ℕ) (p : Quality) → i ≤ l → l < suc e → candidates l ≡ some p → Dec (l < e) → p ⊑ q
      go l p a b c (yes d) = h.most l p a d c
      go l p a b c (no d) =
          let s : l ≡ e = omega arith in
          no-better p (sym (ap candidates s) ∙ c)

  -- the candidate at e is better: it leads
  takes_over : (e k : ℕ) (q p : Quality)
      → Sound e
      → Leads candidates i e k q
      → candidates e ≡ some p
      → q ⊏ p
      → Leads candidates i (suc e) e p
  takes_over e k q p sound h at better =
      record {
        low = omega (arith, h.low, h.high);
        high = omega arith;
        at = at;
        most = λ l r a b c. go l r a b c (dec_lt l e);
        first = λ l r a b c. at_most_worse_trans (sound l r a b c) (h.most l r a b c) better;
      }
    where
      go : (l : ℕ) (r : Quality) → i ≤ l → l < suc e → candidates l ≡ some r → Dec (l < e) → r ⊑ p
      go l r a b c (yes d) =
          at_most_trans (sound k q h.low h.high h.at) (h.most l r a d c) (worse_is_at_most better)
      go l r a b c (no d) =
          let s : l ≡ e = omega arith in
          subst (λ r. r ⊑ p) (some-injective p r (sym at ∙ ap candidates (sym s) ∙ c)) (at_most_self p)

  -- one step of the loop
  pub led_step : (e : ℕ) (found : Option (ℕ × Quality))
      → i ≤ e
      → Sound e
      → Led candidates i e found
      → Led candidates i (suc e) (keep found e (candidates e))
  led_step e found r sound h = go found (candidates e) refl h
    where
      pick : (k : ℕ) (q p : Quality) (b : Bool)
          → worse q p ≡ b
          → candidates e ≡ some p
          → Leads candidates i e k q
          → Led candidates i (suc e) (cond b (some (e, p)) (some (k, q)))
      pick k q p true w c h = takes_over e k q p sound h c (record { worse = is_yes (worse q p) w })
      pick k q p false w c h =
          still_leads e k q h
          (λ s d. subst (λ s. s ⊑ q) (some-injective p s (sym c ∙ d)) (record { not_worse = is_no (worse q p) w }))

      go : (found : Option (ℕ × Quality)) (c : Option Quality)
          → candidates e ≡ c
          → Led candidates i e found
          → Led candidates i (suc e) (keep found e c)
      go none none c h = none_more e h c
      go none (some q) c h = first_one e q r h c
      go (some best) none c h = still_leads e best.0 best.1 h (λ s d. absurd (none-ne-some s (sym c ∙ d)))
      go (some best) (some q) c h = pick best.0 best.1 q (worse best.1 q) refl c h

  pub leading_led : (n : ℕ) → Sound (i + n) → Led candidates i (i + n) (leading candidates i n)
  unfolding leading
  leading_led zero sound = λ l a b. absurd (omega arith)
  leading_led (suc n) sound =
      subst (λ e. Led candidates i e (leading candidates i (suc n))) (sym (add-suc i n))
      (led_step (i + n) (leading candidates i n) (omega arith) (λ l p a b. sound l p a (omega arith))
      (leading_led n (λ l p a b. sound l p a (omega arith))))
