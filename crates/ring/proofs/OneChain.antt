-- An open chain: from a point that no link enters the links lead on to one from which none goes, and no point is met twice. The links
-- make one chain exactly when it has more points than there are links.
-- Idea: a point met twice would give one way on two lengths, and there are only so many points.
use Prim.Native.Nat.{ℕ, zero, suc, ◌+◌, ◌≤◌, ◌<◌}
use mathlib.Core.Bool.{Bool, true, false}
use mathlib.Core.List.{List, [], ◌∷◌, Memᴰ}
use mathlib.Core.Logic.{◌⊎◌, inl, inr}
use mathlib.Core.Option.{Option, none, some}
use mathlib.Core.Path.{◌≡◌, refl, sym, ap, ◌∙◌, subst}
use native.Mathlib.Omega.{arith}
use lib.Dec.{T, not_T}
use lib.ListN.{length, get_or, length-map}
use Rattle.lists.specs.Lists.{every, has, different}
use Rattle.lists.proofs.Tests.{is_yes, no_is}
use Rattle.lists.proofs.Lists.{every_at, every_i}
use Rattle.lists.proofs.Numbers.{has_i, has_e, different_i, no_more, no_fewer}
use Rattle.lists.proofs.Places.{in_cases, in_length}
use Rattle.lists.proofs.Options.{some_is, none_not}
use Rattle.links.specs.Links.{Link, next, starts, ends}
use Rattle.walk.specs.Walk.{closes, all_close, smallest, heads, follow, chain_of}
use Rattle.links.proofs.NextLink.{next_in, next_some, one_before}
use Rattle.walk.proofs.TheSmallest.{smallest_in, smallest_is}
use Rattle.walk.proofs.FirstPoint.{head_e, head_i}
use Rattle.walk.proofs.LinksClose.{closed_entered, entered_close}

-- The links lead from a point along these points, and from the last of them no link goes.
pub data Runs (links : List Link) : ℕ → List ℕ → Type 0 where
  last : {here : ℕ} → next links here ≡ none → Runs links here (here ∷ [])
  more : {here there : ℕ} {points : List ℕ} → next links here ≡ some there → Runs links there points → Runs links here (here ∷ points)

-- where no point is entered by none, the links all close
pub no_head_close : (links : List Link) → T (different (starts links)) → T (different (ends links)) → heads links ≡ [] → T (all_close links)
no_head_close links single single_end empty =
    entered_close links single single_end (λ x m. go x m (has (ends links) x) refl)
  where
    go : (x : ℕ) → Memᴰ x (starts links) → (b : Bool) → has (ends links) x ≡ b → Memᴰ x (ends links)
    go x m true q = has_e (ends links) x (is_yes _ q)
    go x m false q =
        let out : Memᴰ x (ends links) → ⊥ = λ k. subst T q (has_i (ends links) k) in
        absurd (mathlib.Core.List.Memᴰ.not-nil (subst (λ hs. Memᴰ x hs) empty (head_i links m out)))

-- where there is one, they do not
pub head_open : (links : List Link) {v : ℕ} → Memᴰ v (heads links) → closes links v ≡ false
head_open links {v} m =
    let (k, out) = head_e links m in
    no_is (closes links v) (not_T (closes links v) (λ h. out (closed_entered links v h)))

module _ (links : List Link) where
  -- ---- one run

  -- there is one from a point
  pub runs_one : {here : ℕ} {ps qs : List ℕ} → Runs links here ps → Runs links here qs → ps ≡ qs
  runs_one (last e) (last f) = refl
  runs_one (last e) (more f w) = absurd (none_not (sym e ∙ f))
  runs_one (more e w) (last f) = absurd (none_not (sym f ∙ e))
  runs_one {here} (more {there = x} e w) (more {there = y} {points = qs} f u) =
      ap (λ ps. here ∷ ps) (runs_one w (subst (λ z. Runs links z qs) (some_is (sym f ∙ e)) u))

  pub runs_here : {here : ℕ} {points : List ℕ} → Runs links here points → Memᴰ here points
  runs_here (last e) = mathlib.Core.List.Memᴰ.head refl
  runs_here (more e w) = mathlib.Core.List.Memᴰ.head refl

  runs_some : {here : ℕ} {points : List ℕ} → Runs links here points → 0 < length points
  runs_some w = in_length _ (runs_here w)

  pub runs_first : {here : ℕ} {points : List ℕ} → Runs links here points → get_or points 0 0 ≡ here
  runs_first (last e) = refl
  runs_first (more e w) = refl

  -- each point of a run has its own, which is no longer
  runs_from : {here : ℕ} {points : List ℕ} {x : ℕ} → Runs links here points → Memᴰ x points
      → (others : List ℕ) × Runs links x others × (length others ≤ length points)
  runs_from {here} {x = x} (last e) m =
      in_cases m (λ q. (here ∷ [], subst (λ z. Runs links z (here ∷ [])) (sym q) (last e), omega arith))
      (λ k. absurd (mathlib.Core.List.Memᴰ.not-nil k))
  runs_from {here} (more {points = ps} e w) m =
      in_cases m (λ q. (here ∷ ps, subst (λ z. Runs links z (here ∷ ps)) (sym q) (more e w), omega arith))
      (λ k. let (others, u, l) = runs_from w k in (others, u, omega arith))

  -- so its points are different
  pub runs_different : {here : ℕ} {points : List ℕ} → Runs links here points → T (different points)
  unfolding different
  runs_different {here} (last e) = different_i here [] mathlib.Core.List.Memᴰ.not-nil tt
  runs_different {here} (more {points = ps} e w) = different_i here ps (λ m.
      let (others, u, l) = runs_from w m in
      let q = ap length (runs_one (more e w) u) in
      omega arith
      ) (runs_different w)

  -- each point leads to the one after it
  pub runs_onward : {here : ℕ} {points : List ℕ} (i : ℕ) → Runs links here points → suc i < length points
      → next links (get_or points i 0) ≡ some (get_or points (suc i) 0)
  runs_onward i (last e) l = absurd (omega arith)
  runs_onward zero (more e w) l = rw (runs_first w) e
  runs_onward (suc i) (more e w) l = runs_onward i w (omega arith)

  -- and from the last none goes
  pub runs_last : {here : ℕ} {points : List ℕ} (i : ℕ) → Runs links here points → suc i ≡ length points
      → next links (get_or points i 0) ≡ none
  runs_last zero (last e) l = e
  runs_last (suc i) (last e) l = absurd (omega arith)
  runs_last zero (more e w) l = absurd (omega (arith, runs_some w))
  runs_last (suc i) (more e w) l = runs_last i w (omega arith)

  -- but for the first, a link comes to each
  pub runs_entered : {here : ℕ} {points : List ℕ} {x : ℕ} → Runs links here points → Memᴰ x points
      → (x ≡ here) ⊎ Memᴰ x (ends links)
  runs_entered (last e) m = in_cases m (λ q. inl q) (λ k. absurd (mathlib.Core.List.Memᴰ.not-nil k))
  runs_entered {here} (more {there = there} e w) m = in_cases m (λ q. inl q) (λ k. go (runs_entered w k))
    where
      go : {x : ℕ} → (x ≡ there) ⊎ Memᴰ x (ends links) → (x ≡ here) ⊎ Memᴰ x (ends links)
      go (inl q) = inr (rw q (mathlib.Core.List.Memᴰ.map (λ (l : Link). l.1) (next_in links here e)))
      go (inr k) = inr k

  -- the last point; from each other a link goes
  pub runs_end : {here : ℕ} {points : List ℕ} → Runs links here points
      → (end : ℕ) × Memᴰ end points × (next links end ≡ none) × ((x : ℕ) → Memᴰ x points → Memᴰ x (end ∷ starts links))
  runs_end {here} (last e) =
      (here, mathlib.Core.List.Memᴰ.head refl, e, λ x m. in_cases m (λ q. mathlib.Core.List.Memᴰ.head q) (λ k. absurd (mathlib.Core.List.Memᴰ.not-nil k)))
  runs_end {here} (more e w) =
      let (end, at, none-on, rest) = runs_end w in (
        end,
        mathlib.Core.List.Memᴰ.tail at,
        none-on,
        λ x m. in_cases m (λ q. mathlib.Core.List.Memᴰ.tail (rw q (mathlib.Core.List.Memᴰ.map (λ (l : Link). l.0) (next_in links here e)))) (rest x),
      )

  -- so it has at most one point more than there are links
  pub runs_short : {here : ℕ} {points : List ℕ} → Runs links here points → length points ≤ suc (length links)
  runs_short {points = points} w =
      let (end, at, none-on, rest) = runs_end w in
      let r = no_more points (end ∷ starts links) (runs_different w) rest in
      omega (arith, length-map links (λ (l : Link). l.0))

  -- and following the links for as many steps gives it
  runs_follow : (n : ℕ) {here : ℕ} {points : List ℕ} → Runs links here points → length points ≤ suc n → follow n links here ≡ points
  unfolding follow
  runs_follow zero (last e) l = refl
  runs_follow zero (more e w) l = absurd (omega (arith, runs_some w))
  runs_follow (suc n) (last e) l = rw (e, follow)
  runs_follow (suc n) {here} (more e w) l = rw (e, follow) (ap (λ ps. here ∷ ps) (runs_follow n w (omega arith)))

  pub run_followed : {here : ℕ} {points : List ℕ} → Runs links here points → follow (length links) links here ≡ points
  run_followed w = runs_follow (length links) w (runs_short w)

  -- ---- the run from a head

  module _ (single : T (different (starts links))) (single_end : T (different (ends links))) where
    -- The way from the start is here and has seen these points, each once; but for the start it came to each from one that it has seen.
    record Path (start here : ℕ) (seen : List ℕ) : Type 0 where
      fresh : Memᴰ here seen → ⊥
      once : T (different seen)
      starting : (x : ℕ) → Memᴰ x seen → Memᴰ x (starts links)
      came : (x : ℕ) → Memᴰ x (here ∷ seen) → (x ≡ start) ⊎ ((y : ℕ) × Memᴰ y seen × (next links y ≡ some x))

    module _ {start : ℕ} (out : Memᴰ start (ends links) → ⊥) where
      path_on : {here there : ℕ} {seen : List ℕ} → Path start here seen → next links here ≡ some there → Path start there (here ∷ seen)
      path_on {here} {there} {seen} t e =
          record {
            fresh = λ m. again (t.came there m);
            once = different_i here seen t.fresh t.once;
            starting = λ x m. in_cases m (λ i. rw i (mathlib.Core.List.Memᴰ.map (λ (l : Link). l.0) (next_in links here e))) (t.starting x);
            came = λ x m. in_cases m (λ i. inr (here, mathlib.Core.List.Memᴰ.head refl, rw i e)) (λ k. later (t.came x k));
          }
        where
          again : (there ≡ start) ⊎ ((y : ℕ) × Memᴰ y seen × (next links y ≡ some there)) → ⊥
          again (inl q) = out (subst (λ n. Memᴰ n (ends links)) q (mathlib.Core.List.Memᴰ.map (λ (l : Link). l.1) (next_in links here e)))
          again (inr (y, k, f)) =
              t.fresh (subst (λ n. Memᴰ n seen) (one_before links single_end (next_in links y f) (next_in links here e)) k)

          later : {x : ℕ} → (x ≡ start) ⊎ ((y : ℕ) × Memᴰ y seen × (next links y ≡ some x))
              → (x ≡ start) ⊎ ((y : ℕ) × Memᴰ y (here ∷ seen) × (next links y ≡ some x))
          later (inl q) = inl q
          later (inr (y, k, f)) = inr (y, mathlib.Core.List.Memᴰ.tail k, f)

      path_runs : (n : ℕ) {here : ℕ} {seen : List ℕ} → Path start here seen → length links ≤ length seen + n
          → (points : List ℕ) × Runs links here points
      path_runs zero {here} {seen} t l = go (next links here) refl
        where
          go : (o : Option ℕ) → next links here ≡ o → (points : List ℕ) × Runs links here points
          go none e = (here ∷ [], last e)
          go (some there) e =
              let r = no_more (here ∷ seen) (starts links) (path_on t e).once (path_on t e).starting in
              absurd (omega (arith, length-map links (λ (l : Link). l.0)))
      path_runs (suc n) {here} {seen} t l = go (next links here) refl (λ there e. path_runs n (path_on t e) (omega arith))
        where
          go : (o : Option ℕ) → next links here ≡ o
              → ((there : ℕ) → next links here ≡ some there → (points : List ℕ) × Runs links there points)
              → (points : List ℕ) × Runs links here points
          go none e f = (here ∷ [], last e)
          go (some there) e f = let (points, w) = f there e in (here ∷ points, more e w)

    pub head_runs : {v : ℕ} → Memᴰ v (heads links) → (points : List ℕ) × Runs links v points
    head_runs {v} m =
        let (k, out) = head_e links m in
        let t : Path v v [] = record {
          fresh = mathlib.Core.List.Memᴰ.not-nil;
          once = unfold different in tt;
          starting = λ x k. absurd (mathlib.Core.List.Memᴰ.not-nil k);
          came = λ x k. in_cases k (λ i. inl i) (λ k. absurd (mathlib.Core.List.Memᴰ.not-nil k));
        } in
        path_runs out (length links) t (omega arith)

    -- ---- one chain

    module _ {v : ℕ} (at_head : Memᴰ v (heads links)) {points : List ℕ} (run : Runs links v points) where
      -- the run goes by every link exactly when it has more points than there are links

      pub covers_more : T (every (has points) (starts links)) → length links < length points
      covers_more h =
          let (end, at, none-on, rest) = runs_end run in
          let unstarted : Memᴰ end (starts links) → ⊥ = λ m. none_not (sym none-on ∙ (next_some links m).1) in
          let on : (x : ℕ) → Memᴰ x (end ∷ starts links) → Memᴰ x points =
          λ x m. in_cases m (λ q. rw q at) (λ k. has_e points x (every_at (has points) (starts links) h k)) in
          let r = no_more (end ∷ starts links) points (different_i end (starts links) unstarted single) on in
          omega (arith, length-map links (λ (l : Link). l.0))

      pub more_covers : length links < length points → T (every (has points) (starts links))
      more_covers l =
          let (end, at, none-on, rest) = runs_end run in
          every_i (has points) (starts links) (λ x m.
          has_i points (no_fewer points (end ∷ starts links) (runs_different run) rest
          (omega (arith, length-map links (λ (l : Link). l.0))) (mathlib.Core.List.Memᴰ.tail m)))

      -- then there is no other head
      only_head : T (every (has points) (starts links)) → (h : ℕ) → Memᴰ h (heads links) → h ≡ v
      only_head covers h m =
          let (k, out) = head_e links m in
          go out (runs_entered run (has_e points h (every_at (has points) (starts links) covers k)))
        where
          go : (Memᴰ h (ends links) → ⊥) → (h ≡ v) ⊎ Memᴰ h (ends links) → h ≡ v
          go out (inl q) = q
          go out (inr k) = absurd (out k)

      pub head_least : T (every (has points) (starts links)) → v ≡ smallest (heads links)
      head_least covers = smallest_is (heads links) v at_head (λ k m. let q = only_head covers k m in omega arith)

      -- so it is the chain
      pub run_chain : T (every (has points) (starts links)) → chain_of links ≡ points
      unfolding chain_of
      run_chain covers = ap (follow (length links) links) (sym (head_least covers)) ∙ run_followed run

    -- the run from the smallest head
    pub chain_runs : {v : ℕ} → Memᴰ v (heads links) → Runs links (smallest (heads links)) (chain_of links)
    unfolding chain_of
    chain_runs m =
        let (points, w) = head_runs (smallest_in (heads links) (in_length (heads links) m)) in
        subst (λ ps. Runs links (smallest (heads links)) ps) (sym (run_followed w)) w

    -- where the run from some head does not go by every link, neither does the chain
    pub no_chain : {v : ℕ} {points : List ℕ} → Memᴰ v (heads links) → Runs links v points → length points ≤ length links
        → T (every (has (chain_of links)) (starts links)) → ⊥
    no_chain {v} {points} m run short covers =
        let at = smallest_in (heads links) (in_length (heads links) m) in
        let chain = chain_runs m in
        let same = only_head at chain covers v m in
        let long = covers_more at chain covers in
        let equal = runs_one (subst (λ x. Runs links x points) same run) chain in
        omega (arith, ap length equal)

-- ---- open or closed

-- where the links do not all close, some start is entered by none
pub open_head : (links : List Link) → T (different (starts links)) → T (different (ends links)) → all_close links ≡ false
    → (v : ℕ) × Memᴰ v (heads links)
open_head links single single_end unclosed = go (heads links) refl
  where
    go : (hs : List ℕ) → heads links ≡ hs → (v : ℕ) × Memᴰ v (heads links)
    go (v ∷ vs) e = (v, rw e (mathlib.Core.List.Memᴰ.head refl))
    go [] e = absurd (subst T unclosed (no_head_close links single single_end e))
