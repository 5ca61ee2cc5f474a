-- One ring, or one chain, as a statement about the rows is what the walk finds: the links close or not, and the ring is v1..vm. And the
-- other way round: what goes round by all links has one row for each pair of neighbours.
use Prim.Native.Nat.{ℕ, zero, suc, ◌-◌, ◌≤◌, ◌<◌}
use mathlib.Core.Bool.{Bool, true, false, cond}
use mathlib.Core.List.{List, Memᴰ}
use mathlib.Core.Option.{some}
use mathlib.Core.Path.{◌≡◌, refl, sym, ap, ◌∙◌, subst}
use native.Mathlib.Decide.{dec_le, dec_lt}
use native.Mathlib.Omega.{arith}
use lib.Dec.{T, eqb, eqb→eq}
use lib.ListN.{length, get_or}
use Rattle.lists.specs.Lists.{every, has, count, different, numbers_from}
use Rattle.lists.proofs.Tests.{and_l, and_r, and_i, yes_is, is_yes, eq_test}
use Rattle.lists.proofs.Lists.{every_i, every_no, any_e}
use Rattle.lists.proofs.Counts.{count_some, count_member, some_counted, two_places}
use Rattle.lists.proofs.Numbers.{has_i, different_places, numbers_i, numbers_e, map_numbers_length, map_numbers_at}
use Rattle.lists.proofs.Places.{in_at, at_in}
use Rattle.lists.proofs.Options.{some_is, none_not}
use Rattle.rows.specs.declared.Row.{Row}
use Rattle.mesh.specs.Mesh.{keeps_mesh_rule, uses}
use Rattle.mesh.proofs.TurnedFaces.{stay, no_s, face_uses}
use Rattle.mesh.proofs.EvenFaces.{even_uses}
use Rattle.mesh.proofs.MeshRuleStated.{keeps_hits}
use Rattle.links.specs.Links.{Link, next, starts, ends}
use Rattle.walk.specs.Walk.{smallest, closes, all_close, circle_of, heads, chain_of}
use Rattle.links.specs.Links.{links_of}
use Rattle.links.proofs.LinksUnderRule.{starts_different, ends_different}
use Rattle.walk.proofs.TheSmallest.{smallest_le}
use Rattle.walk.proofs.ClosedWalks.{Walks, after, walk_walks, walks_here, walks_after}
use Rattle.links.proofs.NextLink.{next_is}
use Rattle.walk.proofs.LinksClose.{entered_close}
use Rattle.ring.proofs.OneChain.{Runs, head_open, head_runs, runs_here, runs_onward, runs_last, run_chain}
use Rattle.ring.proofs.OneRing.{GoesRound, ring_circle, circle_round, chain_round, round_one}
use Rattle.tables.specs.RoundAnEdge.{reads, pair_count, neighbours, is_pair, Round}
use Rattle.tables.proofs.AtMostTwoRows.{count_weaker}
use Rattle.tables.proofs.RowsAndLinks.{read_e, read_linked, linked_read, after_in, after_on, after_last, pair_at, chain_less}
use Rattle.tables.proofs.RowsAndLinks.{ring_full, upward, round_ends, round_linked, starts_first, first_starts, as_many, chain_head}
use Rattle.tables.proofs.RowsAndLinks.{round_first, goes_round}

-- ---- what is closed under the links

-- the points of a closed walk
pub walk_onward : (links : List Link) (start : ℕ) {points : List ℕ} {v w : ℕ} → T (different (starts links))
    → Walks links start start points → Memᴰ (v, w) links → Memᴰ v points → Memᴰ w points
walk_onward links start {points} {v} {w} single walk k m =
    let (j, h, e) = in_at points 0 m in
    let there = some_is (sym (next_is links single k) ∙ ap (next links) (sym e) ∙ walks_after links start j walk h) in
    rw there (after_in points j h)

-- the points of a run to its end
run_onward : (links : List Link) {start : ℕ} {points : List ℕ} {v w : ℕ} → T (different (starts links))
    → Runs links start points → Memᴰ (v, w) links → Memᴰ v points → Memᴰ w points
run_onward links {start} {points} {v} {w} single run k m =
    let (j, h, e) = in_at points 0 m in
    let f = next_is links single k in
    go j h e f (dec_lt (suc j) (length points))
  where
    go : (j : ℕ) → j < length points → get_or points j 0 ≡ v → next links v ≡ some w → Dec (suc j < length points) → Memᴰ w points
    go j h e f (yes s) =
        let there = some_is (sym f ∙ ap (next links) (sym e) ∙ runs_onward links j run s) in
        rw (there, ← after_on points j s) (after_in points j h)
    go j h e f (no s) = absurd (none_not (sym (runs_last links j run (omega arith)) ∙ ap (next links) e ∙ f))

-- ---- what the walk finds

module _ (a b points : ℕ) (rows : List Row) (rule : T (keeps_mesh_rule points rows)) (closed : Bool) (vs : List ℕ)
    (round : Round rows a b closed vs) (some_pair : 0 < pair_count closed vs) where
  abbrev links : List Link
  links = links_of a b rows

  apart : a ≡ b → ⊥
  apart = (round_ends a b points rows rule closed vs round some_pair).2

  single : T (different (starts links))
  single = starts_different a b apart points rows rule

  single_end : T (different (ends links))
  single_end = ends_different a b apart points rows rule

  some_link : 0 < length links
  some_link = omega (arith, as_many a b points rows rule closed vs round some_pair)

  goes : GoesRound links closed vs
  goes = goes_round a b points rows rule closed vs round some_pair

  -- in a ring each start is entered
  entered : closed ≡ true → (x : ℕ) → Memᴰ x (starts links) → Memᴰ x (ends links)
  entered e x m =
      let (i, h, q) = starts_first a b points rows rule closed vs round some_pair m in
      go i h q
    where
      by : (i : ℕ) → i < pair_count closed vs → Memᴰ (after vs i) (ends links)
      by i h = mathlib.Core.List.Memᴰ.map (λ (l : Link). l.1) (round_linked a b points rows rule closed vs round some_pair i h)

      go : (i : ℕ) → i < pair_count closed vs → x ≡ get_or vs i 0 → Memᴰ x (ends links)
      go zero h q =
          let full = ring_full closed vs e in
          let last = length vs - 1 in
          rw (q, ← after_last vs last (omega arith)) (by last (omega arith))
      go (suc i) h q = rw (q, ← after_on vs i (omega arith)) (by i (omega arith))

  pub closed_is : all_close links ≡ closed
  unfolding all_close
  closed_is = go closed refl
    where
      go : (c : Bool) → closed ≡ c → all_close links ≡ c
      go true e = yes_is (all_close links) (entered_close links single single_end (entered e))
      go false e =
          every_no (closes links) (starts links) (first_starts a b points rows rule closed vs round some_pair 0 some_pair)
          (head_open links (chain_head a b points rows rule closed vs round some_pair e))

  -- what has v1 and is closed under the links has all starts
  swept : (P : ℕ → Type 0) → P (get_or vs 0 0) → ((v w : ℕ) → Memᴰ (v, w) links → P v → P w)
      → (x : ℕ) → Memᴰ x (starts links) → P x
  swept P first on x m =
      let (i, h, q) = starts_first a b points rows rule closed vs round some_pair m in
      rw q (upward vs P (pair_count closed vs) near (λ j k p. on (get_or vs j 0) (after vs j)
      (round_linked a b points rows rule closed vs round some_pair j k) p)
      i 0 i (omega arith) (omega arith) first)
    where
      near : length vs ≤ suc (pair_count closed vs)
      near = go closed refl
        where
          go : (c : Bool) → closed ≡ c → length vs ≤ suc (pair_count closed vs)
          go true e = omega (arith, ring_full closed vs e)
          go false e = omega (arith, chain_less closed vs e)

  ring_walks : closed ≡ true → Walks links (smallest (starts links)) (smallest (starts links)) (circle_of links)
  ring_walks e =
      let close = is_yes (all_close links) (closed_is ∙ e) in
      walk_walks links (smallest (starts links)) (length links) (smallest (starts links)) (ring_circle links some_link close)

  pub ring_is_lem : cond closed (circle_of links) (chain_of links) ≡ vs
  ring_is_lem = go closed refl goes
    where
      first_is : get_or vs 0 0 ≡ cond closed (smallest (starts links)) (smallest (heads links))
      first_is = round_first a b points rows rule closed vs round some_pair

      go : (c : Bool) → closed ≡ c → GoesRound links c vs → cond c (circle_of links) (chain_of links) ≡ vs
      go true e g =
          let ring = circle_of links in
          let walk = ring_walks e in
          let at_first : Memᴰ (get_or vs 0 0) ring =
          subst (λ x. Memᴰ x ring) (sym (rw e at first_is)) (walks_here links (smallest (starts links)) walk) in
          let whole = every_i (has ring) (starts links) (λ x m.
          has_i ring (swept (λ x. Memᴰ x ring) at_first
          (λ v w k p. walk_onward links (smallest (starts links)) single walk k p) x m)) in
          round_one links single (circle_round links some_link (is_yes (all_close links) (closed_is ∙ e)) single whole) g
      go false e g =
          let head = chain_head a b points rows rule closed vs round some_pair e in
          let (points, run) = head_runs links single single_end head in
          let whole = every_i (has points) (starts links) (λ x m.
          has_i points (swept (λ x. Memᴰ x points) (runs_here links run) (λ v w k p. run_onward links single run k p) x m)) in
          let same = run_chain links single single_end head run whole in
          round_one links single (chain_round links single single_end head (rw same whole)) g

  -- all links lie on it
  pub whole_is : T (every (has vs) (starts links))
  whole_is = every_i (has vs) (starts links) (λ x m.
      let (i, h, q) = starts_first a b points rows rule closed vs round some_pair m in
      has_i vs (rw q (at_in vs i 0 (omega arith))))

-- ---- the other way round

same_small : (m n : ℕ) → m ≤ 1 → n ≤ 1 → (1 ≤ m → 1 ≤ n) → (1 ≤ n → 1 ≤ m) → m ≡ n
same_small m n l k f g = go (dec_le 1 m) (dec_le 1 n)
  where
    go : Dec (1 ≤ m) → Dec (1 ≤ n) → m ≡ n
    go (yes p) d = let q = f p in omega arith
    go (no p) (yes q) = absurd (p (g q))
    go (no p) (no q) = omega arith

-- a pair of neighbours stands once
pairs_once : (closed : Bool) (vs : List ℕ) (v w : ℕ) → T (different vs) → count (is_pair v w) (neighbours closed vs) ≤ 1
pairs_once closed vs v w apart = go (dec_le 2 (count (is_pair v w) (neighbours closed vs)))
  where
    start_at : (i : ℕ) → i < length (neighbours closed vs) → T (is_pair v w (get_or (neighbours closed vs) i (0, 0))) → get_or vs i 0 ≡ v
    start_at i h k =
        let n = pair_count closed vs in
        let pair = get_or (neighbours closed vs) i (0, 0) in
        let e = map_numbers_at (pair_at vs) n i (0, 0) (omega (arith, map_numbers_length (pair_at vs) n)) in
        sym (ap (λ (l : Link). l.0) e) ∙ eqb→eq pair.0 v (and_l (eqb pair.0 v) (eqb pair.1 w) k)

    go : Dec (2 ≤ count (is_pair v w) (neighbours closed vs)) → count (is_pair v w) (neighbours closed vs) ≤ 1
    go (no p) = omega arith
    go (yes p) =
        let (i, j, l, h, x, y) = two_places (is_pair v w) (neighbours closed vs) (0, 0) p in
        let few = map_numbers_length (pair_at vs) (pair_count closed vs) in
        let z = different_places vs 0 i j apart (omega arith) (omega arith) (start_at i (omega arith) x ∙ sym (start_at j h y)) in
        absurd (omega arith)

module _ (a b points : ℕ) (rows : List Row) (rule : T (keeps_mesh_rule points rows)) (apart : a ≡ b → ⊥) (closed : Bool) (vs : List ℕ)
    (goes : GoesRound (links_of a b rows) closed vs) where
  abbrev n : ℕ
  n = pair_count closed vs

  as_links : n ≡ length (links_of a b rows)
  as_links = omega (arith, goes.size)

  -- a row stands once
  rows_once : (v w : ℕ) → count (reads a b v w) rows ≤ 1
  rows_once v w =
      omega (
        arith,
        keeps_hits points rows rule (a, v, b),
        count_weaker (reads a b v w) (uses (a, v, b)) (λ row h.
            let (t, e, p, q, r, s) = read_e a b v w row h in
            rw (p, q, r) at (subst T (even_uses t row e (t.p, t.r, t.q)) (face_uses (t.p, t.r, t.q) t (no_s stay)))) rows,
      )

  pub round_of : Round rows a b closed vs
  round_of = record {
    apart = goes.apart;
    one_row_each = λ v w. same_small (count (reads a b v w) rows) (count (is_pair v w) (neighbours closed vs))
        (rows_once v w) (pairs_once closed vs v w goes.apart)
        (λ h.
        let (i, k, e) = goes.only (v, w) (read_linked a b points rows rule v w (some_counted (reads a b v w) rows h)) in
        let m = mathlib.Core.List.Memᴰ.map (pair_at vs) (numbers_i 0 n i (omega arith) (omega (arith, as_links))) in
        count_member (is_pair v w) (neighbours closed vs) m
        (and_i (eqb (get_or vs i 0) v) (eqb (after vs i) w) (eq_test _ _ (sym (ap (λ (l : Link). l.0) e)))
        (eq_test _ _ (sym (ap (λ (l : Link). l.1) e)))))
        (λ h.
        let (pair, k, same) = any_e (is_pair v w) (neighbours closed vs) (some_counted (is_pair v w) (neighbours closed vs) h) in
        let (i, j, e) = mathlib.Core.List.Memᴰ.of_map (pair_at vs) (numbers_from 0 n) k in
        let (low, high) = numbers_e 0 n j in
        let p = eqb→eq pair.0 v (and_l (eqb pair.0 v) (eqb pair.1 w) same) in
        let q = eqb→eq pair.1 w (and_r (eqb pair.0 v) (eqb pair.1 w) same) in
        let there = rw (ap (λ (l : Link). l.0) e ∙ p, ap (λ (l : Link). l.1) e ∙ q) at (goes.linked i (omega (arith, as_links))) in
        count_some (reads a b v w) rows (linked_read a b points rows rule apart v w there));
    smallest_first = λ e v m.
        let (i, h, q) = in_at vs 0 m in
        let full = ring_full closed vs e in
        let k = mathlib.Core.List.Memᴰ.map (λ (l : Link). l.0) (goes.linked i (omega (arith, as_links))) in
        let least = smallest_le (starts (links_of a b rows)) k in
        let first : get_or vs 0 0 ≡ smallest (starts (links_of a b rows)) = rw e at goes.first in
        omega arith;
  }
