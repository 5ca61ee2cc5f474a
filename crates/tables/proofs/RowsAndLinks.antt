-- Rows that read (a,b,v,w) are the rows that give a link v to w; and v1..vm with one row for each pair of neighbours go round by all links.
use Prim.Native.Nat.{ℕ, zero, suc, ◌+◌, ◌-◌, ◌≤◌, ◌<◌}
use mathlib.Core.Bool.{Bool, true, false, cond, not, ◌&&◌}
use mathlib.Core.List.Memᴰ
use mathlib.Core.List.{List, map, Memᴰ}
use mathlib.Core.Path.{◌≡◌, refl, sym, ap, ◌∙◌, subst}
use native.Mathlib.Decide.{dec_le}
use native.Mathlib.Omega.{arith}
use borrow.Author.Tests.{eq-eqb, ne_eqb, eqb-false}
use lib.Dec.{T, eqb, eqb→eq}
use lib.ListN.{length, get_or, take, drop, length-map, take-append-drop}
use Rattle.lists.specs.Lists.{every, any, those, count, has, different, numbers_from}
use Rattle.lists.proofs.Tests.{and_l, and_r, and_i, eq_test}
use Rattle.lists.proofs.Lists.{every_at, any_i, any_e, those_e, those_i}
use Rattle.lists.proofs.Counts.{count_some, count_most, count_member, some_counted}
use Rattle.lists.proofs.Numbers.{has_i, different_places, different_append, no_more, numbers_i, numbers_e, map_numbers_length}
use Rattle.lists.proofs.Numbers.{map_numbers_take}
use Rattle.lists.proofs.Places.{in_at, at_in}
use Rattle.lists.proofs.Options.{pair_is}
use Rattle.rows.specs.declared.Row.{Row}
use Rattle.rows.specs.Rows.{numbers, holds, holds_edge}
use Rattle.mesh.specs.Mesh.{numbers_fit, keeps_mesh_rule, Proper}
use Rattle.rows.specs.Tetrahedra.{evenly, rearranged, arranged_from}
use Rattle.mesh.proofs.MeshRuleStated.{fit_proper, keeps_fits}
use Rattle.rows.proofs.EvenMoves.{even_e, even_i, even_holds}
use Rattle.mesh.proofs.EvenFaces.{even_proper}
use Rattle.rows.proofs.EvenGroup.{arranged_from_lem}
use Rattle.links.specs.Links.{Link, link, starts, ends}
use Rattle.walk.specs.Walk.{smallest, heads}
use Rattle.links.specs.Links.{links_of}
use Rattle.links.proofs.LinksUnderRule.{link_is, links_fit, starts_different}
use Rattle.walk.proofs.TheSmallest.{smallest_is}
use Rattle.walk.proofs.ClosedWalks.{after}
use Rattle.walk.proofs.FirstPoint.{head_e, head_i}
use Rattle.ring.proofs.OneRing.{GoesRound}
use Rattle.tables.specs.RoundAnEdge.{is_row, reads, linked, pair_count, neighbours, is_pair, Round}

-- ---- one row

pub read_e : (a b v w : ℕ) (row : Row) → T (reads a b v w row)
    → (t : Row) × T (rearranged t row) × (t.p ≡ a) × (t.q ≡ b) × (t.r ≡ v) × (t.s ≡ w)
read_e a b v w row h =
    let (t, m, k) = any_e (is_row a b v w) (evenly row) h in
    let p = eqb t.p a in
    let q = eqb t.q b in
    let r = eqb t.r v in
    let s = eqb t.s w in
    let k1 = and_r p (q && (r && s)) k in
    let k2 = and_r q (r && s) k1 in (
      t,
      even_i t row m,
      eqb→eq t.p a (and_l p (q && (r && s)) k),
      eqb→eq t.q b (and_l q (r && s) k1),
      eqb→eq t.r v (and_l r s k2),
      eqb→eq t.s w (and_r r s k2),
    )

pub read_i : (a b v w : ℕ) (row t : Row) → T (rearranged t row) → t.p ≡ a → t.q ≡ b → t.r ≡ v → t.s ≡ w → T (reads a b v w row)
read_i a b v w row t e p q r s =
    any_i (is_row a b v w) (evenly row) (even_e t row e)
    (and_i (eqb t.p a) (eqb t.q b && (eqb t.r v && eqb t.s w)) (eq_test t.p a p)
    (and_i (eqb t.q b) (eqb t.r v && eqb t.s w) (eq_test t.q b q)
    (and_i (eqb t.r v) (eqb t.s w) (eq_test t.r v r) (eq_test t.s w s))))

module _ (a b points : ℕ) (rows : List Row) (rule : T (keeps_mesh_rule points rows)) where
  pub row_proper : {row : Row} → Memᴰ row rows → Proper points row
  row_proper {row} m = fit_proper points row (every_at (numbers_fit points) rows (keeps_fits points rows rule) m)

  -- the ends of an edge that some row reads fit
  read_ends : (v w : ℕ) → T (linked rows a b v w) → (a < points) × (b < points) × (a ≡ b → ⊥)
  read_ends v w h =
      let (row, m, k) = any_e (reads a b v w) rows h in
      let (t, e, p, q, r, s) = read_e a b v w row k in
      let fits = even_proper points t row e (row_proper m) in
      (rw p at fits.below_p, rw q at fits.below_q, λ i. fits.p_q (p ∙ i ∙ sym q))

  pub read_linked : (v w : ℕ) → T (linked rows a b v w) → Memᴰ (v, w) (links_of a b rows)
  read_linked v w h =
      let (row, m, k) = any_e (reads a b v w) rows h in
      let (t, e, p, q, r, s) = read_e a b v w row k in
      let in_a = subst T (even_holds t row e a) (has_i (numbers t) (Memᴰ.head (sym p))) in
      let in_b = subst T (even_holds t row e b) (has_i (numbers t) (Memᴰ.tail (Memᴰ.head (sym q)))) in
      let held = and_i (holds row a) (holds row b) in_a in_b in
      let l : link a b row ≡ (v, w) = rw (p, q, r, s) at (link_is row t (row_proper m) e) in
      subst (λ x. Memᴰ x (links_of a b rows)) l (Memᴰ.map (link a b) (those_i (holds_edge a b) rows m held))

  pub linked_read : (a ≡ b → ⊥) → (v w : ℕ) → Memᴰ (v, w) (links_of a b rows) → T (linked rows a b v w)
  unfolding link
  linked_read apart v w m =
      let (row, k, e) = Memᴰ.of_map (link a b) (those (holds_edge a b) rows) m in
      let (k, h) = those_e (holds_edge a b) rows k in
      let t = arranged_from a b row in
      let (even, p, q) = arranged_from_lem a b row (and_l (holds row a) (holds row b) h) (and_r (holds row a) (holds row b) h) apart in
      any_i (reads a b v w) rows k (read_i a b v w row t even p q (ap (λ (l : Link). l.0) e) (ap (λ (l : Link). l.1) e))

-- ---- places

-- the point after a place stands in the list
pub after_in : (vs : List ℕ) (i : ℕ) → i < length vs → Memᴰ (after vs i) vs
after_in vs i h = go (eqb (suc i) (length vs)) refl
  where
    go : (c : Bool) → eqb (suc i) (length vs) ≡ c → Memᴰ (cond c (get_or vs 0 0) (get_or vs (suc i) 0)) vs
    go true e = at_in vs 0 0 (omega arith)
    go false e = let d = eqb-false (suc i) (length vs) e in at_in vs (suc i) 0 (omega arith)

pub after_on : (vs : List ℕ) (i : ℕ) → suc i < length vs → after vs i ≡ get_or vs (suc i) 0
after_on vs i h = rw (ne_eqb (suc i) (length vs) (λ e. omega arith))

pub after_last : (vs : List ℕ) (i : ℕ) → suc i ≡ length vs → after vs i ≡ get_or vs 0 0
after_last vs i h = rw (eq-eqb (suc i) (length vs) h)

-- the pair of neighbours from a place on
abbrev pub pair_at : List ℕ → ℕ → Link
pair_at vs i = (get_or vs i 0, after vs i)

-- a chain has a pair less than points, a ring as many

pub chain_less : (closed : Bool) (vs : List ℕ) → closed ≡ false → pair_count closed vs ≡ length vs - 1
chain_less closed vs e = rw e

pub ring_full : (closed : Bool) (vs : List ℕ) → closed ≡ true → pair_count closed vs ≡ length vs
ring_full closed vs e = rw e (omega arith)

-- where some row holds the edge, it has a link
pub held_link : (a b : ℕ) (rows : List Row) → T (any (holds_edge a b) rows) → (l : Link) × Memᴰ l (links_of a b rows)
held_link a b rows held =
    let (row, m, h) = any_e (holds_edge a b) rows held in
    (link a b row, Memᴰ.map (link a b) (those_i (holds_edge a b) rows m h))

-- and so there is a pair of neighbours
pub held_pair : (a b points : ℕ) (rows : List Row) → T (keeps_mesh_rule points rows) → T (any (holds_edge a b) rows) → (a ≡ b → ⊥)
    → (closed : Bool) (vs : List ℕ) → Round rows a b closed vs → 0 < pair_count closed vs
held_pair a b points rows rule held apart closed vs round =
    let (l, m) = held_link a b rows held in
    omega (
      arith,
      count_some (reads a b l.0 l.1) rows (linked_read a b points rows rule apart l.0 l.1 m),
      round.one_row_each l.0 l.1,
      count_most (is_pair l.0 l.1) (neighbours closed vs),
      map_numbers_length (pair_at vs) (pair_count closed vs),
    )

-- ---- what is carried along the links

module _ (vs : List ℕ) (P : ℕ → Type 0) (n : ℕ) (near : length vs ≤ suc n) (step : (i : ℕ) → i < n → P (get_or vs i 0) → P (after vs i)) where
  -- from a place to each later one
  pub upward : (k i j : ℕ) → i + k ≡ j → j < length vs → P (get_or vs i 0) → P (get_or vs j 0)
  upward zero i j e h p = let same : i ≡ j = omega arith in subst (λ x. P (get_or vs x 0)) same p
  upward (suc k) i j e h p =
      upward k (suc i) j (omega arith) h (subst P (after_on vs i (omega arith)) (step i (omega arith) p))

  -- and in a ring from each point to each other
  pub around : n ≡ length vs → {x y : ℕ} → Memᴰ x vs → Memᴰ y vs → P x → P y
  around full {x} {y} mx my p =
      let (i, h, e) = in_at vs 0 mx in
      let (j, k, f) = in_at vs 0 my in
      let last = length vs - 1 in
      let at_last = upward (last - i) i last (omega arith) (omega arith) (subst P (sym e) p) in
      let at_first = subst P (after_last vs last (omega arith)) (step last (omega arith) at_last) in
      subst P f (upward j 0 j (omega arith) k at_first)

-- ---- one ring, or one chain

module _ (a b points : ℕ) (rows : List Row) (rule : T (keeps_mesh_rule points rows)) (closed : Bool) (vs : List ℕ)
    (round : Round rows a b closed vs) (some : 0 < pair_count closed vs) where
  abbrev links : List Link
  links = links_of a b rows

  abbrev n : ℕ
  n = pair_count closed vs

  pair_read : (i : ℕ) → i < n → T (linked rows a b (get_or vs i 0) (after vs i))
  pair_read i h =
      let v = get_or vs i 0 in
      let w = after vs i in
      let m = Memᴰ.map (pair_at vs) (numbers_i 0 n i (omega arith) (omega arith)) in
      let one = count_member (is_pair v w) (neighbours closed vs) m (and_i (eqb v v) (eqb w w) (eq_test v v refl) (eq_test w w refl)) in
      some_counted (reads a b v w) rows (omega (arith, round.one_row_each v w))

  pub round_ends : (a < points) × (b < points) × (a ≡ b → ⊥)
  round_ends = read_ends a b points rows rule (get_or vs 0 0) (after vs 0) (pair_read 0 some)

  pub round_linked : (i : ℕ) → i < n → Memᴰ (get_or vs i 0, after vs i) links
  round_linked i h = read_linked a b points rows rule (get_or vs i 0) (after vs i) (pair_read i h)

  -- there are two points or more: no point has a link to itself
  pub two_points : 2 ≤ length vs
  two_points = go closed refl
    where
      alone : length vs ≡ 1 → 0 < n → ⊥
      alone one h =
          (links_fit a b round_ends.2 points rows rule (round_linked 0 h)).v_w (sym (after_last vs 0 (sym one)))

      go : (c : Bool) → closed ≡ c → 2 ≤ length vs
      go true e = by (dec_le 2 (length vs))
        where
          by : Dec (2 ≤ length vs) → 2 ≤ length vs
          by (yes two) = two
          by (no few) = absurd (alone (omega (arith, ring_full closed vs e)) some)
      go false e = omega (arith, chain_less closed vs e)

  round_only : (l : Link) → Memᴰ l links → (i : ℕ) × (i < n) × (l ≡ (get_or vs i 0, after vs i))
  round_only l m =
      let v = l.0 in
      let w = l.1 in
      let h = linked_read a b points rows rule round_ends.2 v w m in
      let one : 1 ≤ count (is_pair v w) (neighbours closed vs) =
      omega (arith, count_some (reads a b v w) rows h, round.one_row_each v w) in
      let (pair, k, same) = any_e (is_pair v w) (neighbours closed vs) (some_counted (is_pair v w) (neighbours closed vs) one) in
      let (i, j, e) = Memᴰ.of_map (pair_at vs) (numbers_from 0 n) k in
      let (low, high) = numbers_e 0 n j in
      let p = eqb→eq pair.0 v (and_l (eqb pair.0 v) (eqb pair.1 w) same) in
      let q = eqb→eq pair.1 w (and_r (eqb pair.0 v) (eqb pair.1 w) same) in
      (i, omega arith, pair_is l (ap (λ (x : Link). x.0) e ∙ p) (ap (λ (x : Link). x.1) e ∙ q))

  round_single : T (different (starts links))
  round_single = starts_different a b round_ends.2 points rows rule

  -- the points from which links go
  abbrev firsts : List ℕ
  firsts = map (λ i. get_or vs i 0) (numbers_from 0 n)

  firsts_apart : T (different firsts)
  firsts_apart =
      let whole = subst (λ xs. T (different xs)) (sym (take-append-drop n vs)) round.apart in
      let parts = subst T (different_append (take n vs) (drop n vs)) whole in
      subst (λ xs. T (different xs)) (sym (map_numbers_take n vs (omega arith)))
      (and_l (different (take n vs)) (every (λ m. not (has (drop n vs) m)) (take n vs))
      (and_l (different (take n vs) && every (λ m. not (has (drop n vs) m)) (take n vs)) (different (drop n vs)) parts))

  pub starts_first : {x : ℕ} → Memᴰ x (starts links) → (i : ℕ) × (i < n) × (x ≡ get_or vs i 0)
  starts_first m =
      let (l, k, e) = Memᴰ.of_map (λ (l : Link). l.0) links m in
      let (i, h, q) = round_only l k in
      (i, h, sym e ∙ ap (λ (l : Link). l.0) q)

  pub first_starts : (i : ℕ) → i < n → Memᴰ (get_or vs i 0) (starts links)
  first_starts i h = Memᴰ.map (λ (l : Link). l.0) (round_linked i h)

  pub as_many : n ≡ length links
  as_many =
      let few = no_more firsts (starts links) firsts_apart (λ x m.
      let (i, k, e) = Memᴰ.of_map (λ i. get_or vs i 0) (numbers_from 0 n) m in
      let (low, high) = numbers_e 0 n k in
      subst (λ y. Memᴰ y (starts links)) e (first_starts i (omega arith))) in
      let many = no_more (starts links) firsts round_single (λ x m.
      let (i, h, e) = starts_first m in
      rw e (Memᴰ.map (λ i. get_or vs i 0) (numbers_i 0 n i (omega arith) (omega arith)))) in
      omega (arith, length-map links (λ (l : Link). l.0), map_numbers_length (λ i. get_or vs i 0) n)

  -- no link enters the first point of a chain
  pub chain_head : closed ≡ false → Memᴰ (get_or vs 0 0) (heads links)
  chain_head e = head_i links (first_starts 0 some) (λ m.
      let less = chain_less closed vs e in
      let (l, k, q) = Memᴰ.of_map (λ (l : Link). l.1) links m in
      let (i, h, r) = round_only l k in
      let on = after_on vs i (omega arith) in
      let z = different_places vs 0 (suc i) 0 round.apart (omega arith) (omega arith)
      (sym on ∙ sym (ap (λ (l : Link). l.1) r) ∙ q) in
      omega arith)

  pub round_first : get_or vs 0 0 ≡ cond closed (smallest (starts links)) (smallest (heads links))
  round_first = go closed refl
    where
      go : (c : Bool) → closed ≡ c → get_or vs 0 0 ≡ cond c (smallest (starts links)) (smallest (heads links))
      go true e = smallest_is (starts links) (get_or vs 0 0) (first_starts 0 some) (λ x m.
          let (i, h, q) = starts_first m in
          rw q (round.smallest_first e (get_or vs i 0) (at_in vs i 0 (omega arith))))
      go false e =
          let less = chain_less closed vs e in
          smallest_is (heads links) (get_or vs 0 0) (chain_head e) (λ x m.
          let (k, out) = head_e links m in
          let (i, h, q) = starts_first k in
          start_only x i out h q)
        where
          start_only : (x i : ℕ) → (Memᴰ x (ends links) → ⊥) → i < n → x ≡ get_or vs i 0 → get_or vs 0 0 ≤ x
          start_only x zero out h q = omega arith
          start_only x (suc i) out h q =
              absurd (out (rw (q, ← after_on vs i (omega arith)) (Memᴰ.map (λ (l : Link). l.1) (round_linked i (omega arith)))))

  pub goes_round : GoesRound links closed vs
  goes_round = record {
    size = omega (arith, as_many);
    apart = round.apart;
    linked = λ i h. round_linked i (omega (arith, as_many));
    only = λ l m. let (i, h, e) = round_only l m in (i, omega (arith, as_many), e);
    first = round_first;
  }
