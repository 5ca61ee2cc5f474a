-- Whatever triangulation of the ring or of a flat chain is carried out, the total D stays. The removed rows' D are those of their
-- links, the links are the sides, and the new rows' total is the sum over the sides of the chain, less D of the row across it,
-- (a,b,v1,vm). The closing side of a ring makes up for that; of a chain nothing does, so it must be 0.
use Prim.Native.Nat.{ℕ, zero, suc, ◌+◌, ◌-◌, ◌≤◌, ◌<◌}
use mathlib.Core.Bool.{Bool, true, false, cond, not, ◌||◌}
use mathlib.Core.List.Memᴰ
use mathlib.Core.List.{List, [], ◌∷◌, ◌++◌, map, Memᴰ, map-append}
use mathlib.Core.Path.{◌≡◌, refl, sym, ap, ◌∙◌, subst}
use native.Mathlib.Omega.{arith}
use borrow.Author.Tests.{not-false}
use lib.Dec.{T, ltb, nltb→le}
use lib.IntN.{ℤ, pos, negsuc, ◌+ℤ◌, +ℤ_idr}
use lib.ListN.{length, get_or, length-map}
use Rattle.algebra.proofs.Normal.{var, con, ◌:+◌, norm, same, ◌⊹◌, ring_from}
use Rattle.lists.specs.Lists.{those, numbers_from}
use Rattle.lists.proofs.Tests.{and_l, and_r, is_yes, neither_r}
use Rattle.lists.proofs.Lists.{those_e}
use Rattle.lists.proofs.Sums.{Single, one_more, sum_over, sum_append, sum_through, sum_same, single_map}
use Rattle.lists.proofs.Numbers.{numbers_e, numbers_length, numbers_append}
use Rattle.lists.proofs.Places.{in_cases}
use Rattle.volume.specs.Volume.{D, same_z}
use Rattle.rows.specs.declared.Row.{Row}
use Rattle.rows.specs.Rows.{holds, holds_edge}
use Rattle.rows.specs.RowMeasure.{place, row_d, total_d}
use Rattle.rows.specs.Tetrahedra.{arranged_from}
use Rattle.rows.proofs.EvenGroup.{arranged_from_lem}
use Rattle.rows.proofs.EvenMeasure.{even_D, total_split, total_append}
use Rattle.ring.specs.Ring.{Site, m, flat, not_flat}
use Rattle.links.specs.Links.{Link, link}
use Rattle.ring.specs.SoundRing.{SoundRing}
use Rattle.triangulation.specs.Triangulation.{Tri, side, cut, span, v, new_rows, table_after}
use Rattle.triangulation.proofs.AllWays.{span_over}
use Rattle.triangulation.proofs.NewRowsProper.{next_link, last_link, all_differ}
use Rattle.triangulation.proofs.TotalOfPiece.{turned_over, link_d, chain_d, total_piece}

-- the whole number 0
same_zero : (x : ℤ) → T (same_z x (pos 0)) → x ≡ pos 0
same_zero (pos n) h =
    let none : n ≡ 0 = omega (arith, nltb→le 0 n (neither_r (ltb n 0) (ltb 0 n) h)) in
    ap pos none
same_zero (negsuc n) h = absurd h

-- the test of flatness is what it says: D(a,b,v1,vm) is 0
pub flat_zero : (site : Site) → flat site ≡ true
    → let at = place site.points in
    D (at site.a) (at site.b) (at (get_or site.ring 0 0)) (at (get_or site.ring (m site - 1) 0)) ≡ pos 0
unfolding flat
flat_zero site e = same_zero _ (is_yes (flat site) e)

-- vm as flatness has it
pub last_point : (site : Site) (n : ℕ) → 1 ≤ n → v site n ≡ get_or site.ring (n - 1) 0
last_point site zero h = absurd (omega arith)
last_point site (suc n) h = let back : suc n - 1 ≡ n = omega arith in rw back

-- ---- the sides of the ring

module _ (site : Site) where
  -- D of a link's row
  abbrev of_link : Link → ℤ
  of_link l = link_d site l.0 l.1

  -- the side from vi to the next
  abbrev side_at : ℕ → Link
  side_at i = (v site i, v site (suc i))

  -- the sides from vi on, along a piece
  abbrev sides_from : ℕ → ℕ → List Link
  sides_from i n = map side_at (numbers_from i n)

  sides_chain : (i : ℕ) (t : Tri) → sum_over of_link (sides_from i (span t)) ≡ chain_d site i t
  unfolding chain_d span numbers_from
  sides_chain i side =
      let e : i + 1 ≡ suc i = omega arith in
      rw e (+ℤ_idr (of_link (side_at i)))
  sides_chain i (cut l r) =
      ap (λ ns. sum_over of_link (map side_at ns)) (numbers_append i (span l) (span r))
      ∙ ap (sum_over of_link) (map-append side_at (numbers_from i (span l)) (numbers_from (i + span l) (span r)))
      ∙ sum_append of_link (sides_from i (span l)) (sides_from (i + span l) (span r))
      ∙ ap (λ z. z +ℤ sum_over of_link (sides_from (i + span l) (span r))) (sides_chain i l)
      ∙ ap (λ z. chain_d site i l +ℤ z) (sides_chain (i + span l) r)

  -- D of a removed row is that of its link
  link_D : (row : Row) → (site.a ≡ site.b → ⊥) → T (holds_edge site.a site.b row)
      → row_d site.points row ≡ of_link (link site.a site.b row)
  unfolding link row_d
  link_D row apart h =
      let a = site.a in
      let b = site.b in
      let t = arranged_from a b row in
      let (even, p, q) = arranged_from_lem a b row (and_l (holds row a) (holds row b) h) (and_r (holds row a) (holds row b) h) apart in
      let at = place site.points in
      sym (even_D site.points t row even)
      ∙ ap (λ x. D (at x) (at t.q) (at t.r) (at t.s)) p
      ∙ ap (λ x. D (at a) (at x) (at t.r) (at t.s)) q

  module _ (sound : SoundRing site) (t : Tri) (spans : span t ≡ m site - 1) where
    many : 2 ≤ m site
    many = omega (arith, span_over t)

    -- the link that closes a ring; a chain has none
    abbrev closing : Bool → List Link
    closing closed = cond closed ((v site (m site), v site 1) ∷ []) []

    -- the sides from v1 on, after the closing one
    abbrev sides : Bool → List Link
    sides closed = closing closed ++ sides_from 1 (m site - 1)

    places_differ : (i j : ℕ) → 1 ≤ i → i ≤ m site → 1 ≤ j → j ≤ m site → v site i ≡ v site j → i ≡ j
    places_differ i j a b c d e = (all_differ site sound.chain many).points i j (a, b) (c, d) e

    closing_once : Memᴰ (v site (m site), v site 1) (sides_from 1 (m site - 1)) → ⊥
    closing_once k =
        let (i, at, e) = Memᴰ.of_map side_at (numbers_from 1 (m site - 1)) k in
        let (low, high) = numbers_e 1 (m site - 1) at in
        let same = places_differ i (m site) low (omega arith) (omega (arith, many)) (omega arith) (ap (λ (l : Link). l.0) e) in
        omega arith

    step_once : (j k : ℕ) → 1 ≤ j → j < k → k < 1 + (m site - 1) → side_at k ≡ side_at j → ⊥
    step_once j k low less high e =
        let same = places_differ k j (omega arith) (omega arith) low (omega arith) (ap (λ (l : Link). l.0) e) in
        omega arith

    sides_single : (closed : Bool) → Single (sides closed)
    sides_single true = one_more {x = (v site (m site), v site 1)} closing_once (single_map side_at 1 (m site - 1) step_once)
    sides_single false = single_map side_at 1 (m site - 1) step_once

    steps_linked : (l : Link) → Memᴰ l (sides_from 1 (m site - 1)) → Memᴰ l site.links
    steps_linked l k =
        let (i, at, e) = Memᴰ.of_map side_at (numbers_from 1 (m site - 1)) k in
        let (low, high) = numbers_e 1 (m site - 1) at in
        subst (λ l. Memᴰ l site.links) e (next_link site sound.chain i low (omega arith))

    sides_linked : (closed : Bool) → site.closed ≡ closed → (l : Link) → Memᴰ l (sides closed) → Memᴰ l site.links
    sides_linked true is l k =
        in_cases k
        (λ e. subst (λ l. Memᴰ l site.links) (sym e) (last_link site sound is (m site) (omega (arith, many)) refl))
        (steps_linked l)
    sides_linked false is l k = steps_linked l k

    sides_length : (closed : Bool) → length site.removed + cond closed 0 1 ≡ m site → length site.links ≤ length (sides closed)
    sides_length = by_case
        (ap length sound.chain.linked ∙ length-map site.removed (link site.a site.b))
        (length-map (numbers_from 1 (m site - 1)) side_at ∙ numbers_length 1 (m site - 1))
      where
        by_case : length site.links ≡ length site.removed → length (sides_from 1 (m site - 1)) ≡ m site - 1
            → (closed : Bool) → length site.removed + cond closed 0 1 ≡ m site → length site.links ≤ length (sides closed)
        by_case links steps true size = omega (arith, many)
        by_case links steps false size = omega (arith, many)

    -- what the closing side adds to the total of the removed rows
    abbrev closing_d : Bool → ℤ
    closing_d closed = sum_over of_link (closing closed)

    -- the total of the removed rows
    removed_total : total_d site.points site.removed ≡ closing_d site.closed +ℤ chain_d site 1 t
    unfolding total_d
    removed_total =
        sum_through (row_d site.points) of_link (link site.a site.b) site.removed
        (λ row k.
        let both = those_e (holds_edge site.a site.b) sound.chain.table
        (subst (λ rows. Memᴰ row rows) sound.chain.going k) in
        link_D row (λ e. omega (arith, sound.chain.ordered)) both.1)
        ∙ ap (sum_over of_link) (sym sound.chain.linked)
        ∙ sum_same of_link site.links (sides site.closed) (sides_length site.closed sound.size) (sides_single site.closed)
        (sides_linked site.closed refl)
        ∙ sum_append of_link (closing site.closed) (sides_from 1 (m site - 1))
        ∙ ap (λ n. closing_d site.closed +ℤ sum_over of_link (sides_from 1 n)) (sym spans)
        ∙ ap (λ z. closing_d site.closed +ℤ z) (sides_chain 1 t)

    -- D of the row across, (a,b,v1,vm), and the other way round
    abbrev across_d : ℤ
    across_d = link_d site (v site 1) (v site (m site))

    abbrev back_d : ℤ
    back_d = link_d site (v site (m site)) (v site 1)

    both_ways_lem : across_d +ℤ back_d ≡ pos 0
    both_ways_lem =
        let at = place site.points in
        turned_over (at site.a) (at site.b) (at (v site 1)) (at (v site (m site)))

    new_total : total_d site.points (new_rows site 1 t) +ℤ across_d ≡ chain_d site 1 t
    new_total =
        let e : 1 + span t ≡ m site = omega (arith, many) in
        subst (λ n. total_d site.points (new_rows site 1 t) +ℤ link_d site (v site 1) (v site n) ≡ chain_d site 1 t) e (total_piece site 1 t)

    -- ---- the whole table

    module _ (table : List Row) (going : site.removed ≡ those (holds_edge site.a site.b) table)
        (staying : site.kept ≡ those (λ row. not (holds_edge site.a site.b row)) table) where
      before_total : total_d site.points site.removed +ℤ total_d site.points site.kept ≡ total_d site.points table
      before_total =
          let goes = holds_edge site.a site.b in
          ap (λ rows. total_d site.points rows +ℤ total_d site.points site.kept) going
          ∙ ap (λ rows. total_d site.points (those goes table) +ℤ total_d site.points rows) staying
          ∙ total_split site.points goes table

      after_total : total_d site.points (table_after site t)
          ≡ total_d site.points site.kept +ℤ total_d site.points (new_rows site 1 t)
      unfolding table_after
      after_total = total_append site.points site.kept (new_rows site 1 t)

      -- what the laws speak of
      abbrev sums : List ℤ
      sums =
          total_d site.points (table_after site t) ∷ total_d site.points table
          ∷ total_d site.points site.kept ∷ total_d site.points (new_rows site 1 t) ∷ total_d site.points site.removed
          ∷ chain_d site 1 t ∷ closing_d site.closed ∷ across_d ∷ back_d ∷ []

      -- afterwards D of the closing side and of the row across are missing
      table_total : total_d site.points (table_after site t) +ℤ (closing_d site.closed +ℤ across_d) ≡ total_d site.points table
      unfolding norm
      table_total =
          ring_from sums (var 0 :+ (var 6 :+ var 7)) (var 1)
          (same (var 0) (var 2 :+ var 3) after_total ⊹ same (var 3 :+ var 7) (var 5) new_total
          ⊹ same (var 6 :+ var 5) (var 4) (sym removed_total) ⊹ same (var 4 :+ var 2) (var 1) before_total)
          refl

      -- the closing side of a ring is the row across the other way round, so the total stays
      pub ring_stays : site.closed ≡ true → total_d site.points (table_after site t) ≡ total_d site.points table
      unfolding norm
      ring_stays closed =
          ring_from sums (var 0) (var 1)
          (same (var 0 :+ (var 6 :+ var 7)) (var 1) table_total ⊹ same (var 8 :+ con (pos 0)) (var 6) (sym (ap closing_d closed))
          ⊹ same (con (pos 0)) (var 7 :+ var 8) (sym both_ways_lem))
          refl

      -- a chain has none, so its total grows by the row across the other way round
      pub chain_grows : site.closed ≡ false → total_d site.points (table_after site t) ≡ total_d site.points table +ℤ back_d
      unfolding norm
      chain_grows chain =
          ring_from sums (var 0) (var 1 :+ var 8)
          (same (var 0 :+ (var 6 :+ var 7)) (var 1) table_total ⊹ same (con (pos 0)) (var 6) (sym (ap closing_d chain))
          ⊹ same (con (pos 0)) (var 7 :+ var 8) (sym both_ways_lem))
          refl

      -- and stays if the row across has no D,
      pub flat_stays : site.closed ≡ false → across_d ≡ pos 0 → total_d site.points (table_after site t) ≡ total_d site.points table
      unfolding norm
      flat_stays chain flat =
          ring_from sums (var 0) (var 1)
          (same (var 0) (var 1 :+ var 8) (chain_grows chain) ⊹ same (con (pos 0)) (var 7) (sym flat)
          ⊹ same (var 7 :+ var 8) (con (pos 0)) both_ways_lem)
          refl

      -- and not otherwise
      pub flat_if_stays : site.closed ≡ false → total_d site.points (table_after site t) ≡ total_d site.points table → across_d ≡ pos 0
      unfolding norm
      flat_if_stays chain stays =
          ring_from sums (var 7) (con (pos 0))
          (same (var 1) (var 0) (sym stays) ⊹ same (var 0) (var 1 :+ var 8) (chain_grows chain)
          ⊹ same (var 7 :+ var 8) (con (pos 0)) both_ways_lem)
          refl

      -- ---- a ring, or a chain that is flat

      pub total_stays : not_flat site ≡ false → total_d site.points (table_after site t) ≡ total_d site.points table
      total_stays = go site.closed refl
        where
          go : (closed : Bool) → site.closed ≡ closed → not (closed || flat site) ≡ false
              → total_d site.points (table_after site t) ≡ total_d site.points table
          go true e h = ring_stays e
          go false e h =
              flat_stays e (rw (last_point site (m site) (omega (arith, many))) (flat_zero site (not-false (flat site) h)))
