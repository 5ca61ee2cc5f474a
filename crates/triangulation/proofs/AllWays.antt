-- The list of all ways holds exactly the trees of its span, and its depth never binds.
-- By induction on the depth; a cut tree stands in the list of the cuts at the span of its left part.
use Prim.Native.Nat.{ℕ, zero, suc, ◌+◌, ◌-◌, ◌≤◌, ◌<◌}
use mathlib.Core.Bool.{Bool, true, false, cond}
use mathlib.Core.List.Memᴰ
use mathlib.Core.List.{List, [], ◌∷◌, map, flat_map, Memᴰ}
use mathlib.Core.Path.{◌≡◌, refl, sym, ap, ◌∙◌, subst}
use native.Mathlib.Omega.{arith}
use lib.Dec.{leb, leb→le}
use Rattle.lists.specs.Lists.{numbers_from}
use Rattle.lists.proofs.Tests.{is_yes}
use Rattle.lists.proofs.Numbers.{numbers_e, numbers_i}
use Rattle.lists.proofs.Images.{flat_map_i, flat_map_e, flat_map_same}
use Rattle.triangulation.specs.Triangulation.{Tri, side, cut, span, ways_within, ways}

pub span_over : (t : Tri) → 1 ≤ span t
unfolding span
span_over side = omega arith
span_over (cut l r) = omega (arith, span_over l, span_over r)

-- the trees of span n whose left part has span k, from the ways one level down
abbrev pub cuts_at : ℕ → ℕ → ℕ → List Tri
cuts_at depth n k = flat_map (λ l. map (cut l) (ways_within depth (n - k))) (ways_within depth k)

abbrev cuts : ℕ → ℕ → List Tri
cuts depth n = flat_map (cuts_at depth n) (numbers_from 1 (n - 1))

-- ---- each way has its span

within_span : (depth n : ℕ) (t : Tri) → Memᴰ t (ways_within depth n) → 1 ≤ n → span t ≡ n
unfolding ways_within span
within_span zero n t m h = absurd (Memᴰ.not-nil m)
within_span (suc depth) n t m h = go (leb n 1) refl (λ k. within_span depth k) m
  where
    at_cut : ((k : ℕ) (t : Tri) → Memᴰ t (ways_within depth k) → 1 ≤ k → span t ≡ k) → Memᴰ t (cuts depth n) → span t ≡ n
    at_cut below m =
        let at = flat_map_e (cuts_at depth n) (numbers_from 1 (n - 1)) m in
        let k = at.0 in
        let range = numbers_e 1 (n - 1) at.1 in
        let inner = flat_map_e (λ l. map (cut l) (ways_within depth (n - k))) (ways_within depth k) at.2 in
        let l = inner.0 in
        let right = Memᴰ.of_map (cut l) (ways_within depth (n - k)) inner.2 in
        let left-span = below k l inner.1 range.0 in
        let right-span = below (n - k) right.0 right.1 (omega (arith, range.1)) in
        sym (ap span {x = cut l right.0} right.2) ∙ omega (arith, range.1)

    go : (b : Bool)
        → leb n 1 ≡ b
        → ((k : ℕ) (t : Tri) → Memᴰ t (ways_within depth k) → 1 ≤ k → span t ≡ k)
        → Memᴰ t (cond b (side ∷ []) (cuts depth n))
        → span t ≡ n
    go true e below m =
        let small = leb→le n 1 (is_yes (leb n 1) e) in
        ap span (Memᴰ.eq_of_singleton m) ∙ omega arith
    go false e below m = at_cut below m

pub ways_span : (n : ℕ) {t : Tri} → 1 ≤ n → Memᴰ t (ways n) → span t ≡ n
ways_span n {t} h m = within_span n n t m h

-- ---- each tree stands among the ways of its span

within_all : (depth : ℕ) (t : Tri) → span t ≤ depth → Memᴰ t (ways_within depth (span t))
unfolding ways_within span
within_all zero t h = absurd (omega (arith, span_over t))
within_all (suc depth) side h = Memᴰ.head refl
within_all (suc depth) (cut l r) h =
    let over_left = span_over l in
    let over_right = span_over r in
    go (leb (span l + span r) 1) refl (within_all depth l (omega arith)) (within_all depth r (omega arith))
  where
    go : (b : Bool)
        → leb (span l + span r) 1 ≡ b
        → Memᴰ l (ways_within depth (span l))
        → Memᴰ r (ways_within depth (span r))
        → Memᴰ (cut l r) (cond b (side ∷ []) (cuts depth (span l + span r)))
    go true e ml mr =
        let small = leb→le (span l + span r) 1 (is_yes (leb (span l + span r) 1) e) in
        absurd (omega (arith, span_over l, span_over r))
    go false e ml mr =
        let n = span l + span r in
        let k = span l in
        let rest : n - k ≡ span r = omega arith in
        let range : k < 1 + (n - 1) = omega (arith, span_over r) in
        flat_map_i (cuts_at depth n) (numbers_from 1 (n - 1)) (numbers_i 1 (n - 1) k (span_over l) range)
        (flat_map_i (λ l. map (cut l) (ways_within depth (n - k))) (ways_within depth k) ml
        (Memᴰ.map (cut l) (subst (λ s. Memᴰ r (ways_within depth s)) (sym rest) mr)))

pub ways_all : (t : Tri) → Memᴰ t (ways (span t))
ways_all t = within_all (span t) t (omega arith)

-- ---- the depth never binds

within_same : (d e n : ℕ) → 1 ≤ n → n ≤ d → n ≤ e → ways_within d n ≡ ways_within e n
unfolding ways_within
within_same zero e n h k l = absurd (omega arith)
within_same (suc d) zero n h k l = absurd (omega arith)
within_same (suc d) (suc e) n h within_d within-e = go (leb n 1) (within_same d e)
  where
    at : ((n : ℕ) → 1 ≤ n → n ≤ d → n ≤ e → ways_within d n ≡ ways_within e n)
        → (k : ℕ)
        → Memᴰ k (numbers_from 1 (n - 1))
        → cuts_at d n k ≡ cuts_at e n k
    at below k m =
        let range = numbers_e 1 (n - 1) m in
        let left : ways_within d k ≡ ways_within e k = below k range.0 (omega (arith, range.1)) (omega (arith, range.1)) in
        let right : ways_within d (n - k) ≡ ways_within e (n - k) =
        below (n - k) (omega (arith, range.1)) (omega (arith, range.0)) (omega (arith, range.0)) in
        rw (left, right)

    go : (b : Bool)
        → ((n : ℕ) → 1 ≤ n → n ≤ d → n ≤ e → ways_within d n ≡ ways_within e n)
        → cond b (side ∷ []) (cuts d n) ≡ cond b (side ∷ []) (cuts e n)
    go true below = refl
    go false below = flat_map_same (cuts_at d n) (cuts_at e n) (numbers_from 1 (n - 1)) (at below)

pub ways_within_lem : (depth n : ℕ) → 1 ≤ n → n ≤ depth → ways_within depth n ≡ ways n
ways_within_lem depth n h k = within_same depth n n h k (omega arith)
