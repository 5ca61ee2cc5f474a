-- An edge, its ends in order: with a refusal there is no ring, and where there is one the table of its pieces can be
-- filled. Each law is one of the calls' own.
use Prim.Native.Nat.{ℕ, zero, suc, ◌≤◌, ◌<◌}
use mathlib.Core.Bool.{Bool, true, false, cond, ◌&&◌}
use mathlib.Core.List.{List, []}
use mathlib.Core.Option
use mathlib.Core.Option.{none}
use mathlib.Core.Path.{◌≡◌, refl, sym, ap, ◌∙◌}
use native.Mathlib.Omega.{arith}
use borrow.Author.Tests.{lt-ltb, le-ltb, ltb-true, ltb-false, eq-eqb, ne_eqb}
use lib.Dec.{T, eqb, ltb, eqb→eq, ltb→lt}
use lib.ListN.{length, get_or}
use Rattle.lists.proofs.Tests.{and_l, and_r}
use Rattle.rows.specs.Rows.{rows_in}
use Rattle.std.specs.Prelude.{Result, Ok, Err}
use Rattle.answers.specs.declared.Refusal.{Refusal}
use Rattle.layout.specs.Layout.{block_bytes, point_count, row_count, coordinates_of, fields_of}
use Rattle.block.specs.Opening.{open_answer}
use Rattle.answers.specs.Answers.{answer_of}
use Rattle.answers.proofs.Refusals.{given_done, given_refused}
use Rattle.block.proofs.RightBlocks.{right_block}
use Rattle.ring.specs.declared.Found.{Found}
use Rattle.ring.specs.declared.Ring.{Ring}
use Rattle.ring.specs.Ring.{Site, site_of, m, min_ring, max_ring, rings_alone, ring_with}
use Rattle.links.specs.Steps.{Table}
use Rattle.ring.specs.Steps.{found_of, edge_in}
use Rattle.pieces.specs.declared.Pieces.{Pieces}
use Rattle.triangulation.specs.Best.{apex, table_apex}
use Rattle.cells.specs.Steps.{cell_at}
use Rattle.pieces.specs.Steps.{KeepsTable}
use Rattle.kept_faces.specs.Steps.{Fillable}
use Rattle.cells.specs.Steps.{coded_apex}
use Rattle.triangulation.specs.Steps.{site_in}
use Rattle.triangulation.proofs.Barred.{ring_open, open_piece}
use Rattle.edge.specs.Steps.{edge_found}
use Rattle.edge.proofs.EdgeAnswers.{edge_9_first, edge_9_second, edge_table, edge_ring}
use Rattle.edge.proofs.EdgeRinged.{ends_bytes, own_closed, alone_closed, own_site, ringed}
use Rattle.edge_tables.specs.EdgeTables.{found_ring, ring_at, top_apex}

-- what a cell keeps as an apex is its number, 0 for the mark
number : (n : ℕ) → Option.get_or (coded_apex n) 0 ≡ n
unfolding coded_apex
number zero = refl
number (suc n) = refl

module _ (block : List ℕ) where
  module _ (e f : ℕ) where
    -- ---- the ring

    pub turned : f ≤ e → ring_with [] ≡ ring_at block e f
    unfolding ring_at
    turned h = rw (le-ltb e f h)

    module _ (order : e < f) where
      pub refused : {refusal : Refusal} → answer_of (open_answer block) ≡ Err refusal → ring_with [] ≡ ring_at block e f
      unfolding ring_at
      refused {refusal} i = rw (lt-ltb e f order, ne_eqb (open_answer block) 0 (given_refused (open_answer block) tt refusal i))

      module _ {done : Unit {0}} (i : answer_of (open_answer block) ≡ Ok done) where
        opens : open_answer block ≡ 0
        opens = given_done (open_answer block) tt done i

        ring_of_found : (found : Result Found Refusal) → found ≡ edge_found rings_alone block e f → found_ring found ≡ ring_at block e f
        unfolding ring_at
        ring_of_found found i = rw (lt-ltb e f order, eq-eqb (open_answer block) 0 opens) (ap found_ring i)

        pub size : length block ≡ block_bytes
        size = (right_block block opens).size

        pub over : point_count block ≤ f → ring_with [] ≡ ring_at block e f
        over h = go (ltb e (point_count block)) refl
          where
            go : (b : Bool) → ltb e (point_count block) ≡ b → ring_with [] ≡ ring_at block e f
            go true w =
                ring_of_found (Err (record { number = 9 })) (edge_9_second rings_alone block e f opens (ltb-true e (point_count block) w) h)
            go false w = ring_of_found (Err (record { number = 9 })) (edge_9_first rings_alone block e f opens (ltb-false e (point_count block) w))

        pub tabled : Table block (row_count block) e f
        tabled = edge_table rings_alone block e f opens e f (omega arith) (omega arith) (λ q. omega arith)

        pub ring_found : f < point_count block → (found : Result Found Refusal)
            → found ≡ found_of rings_alone (edge_in (rows_in block (row_count block)) e f) → found_ring found ≡ ring_at block e f
        ring_found h found g =
            ring_of_found found
            (edge_ring rings_alone block e f opens e f (omega arith) (omega arith) (omega arith) h (λ q. omega arith) found g)

    -- ---- the table of its pieces

    pub no_apex : (ring : Ring) → ring ≡ ring_at block e f → ring.m ≡ 0 → 0 ≡ top_apex block e f
    unfolding top_apex
    no_apex ring i h = rw (eq-eqb (ring_at block e f).m 0 (sym (ap (λ (ring : Ring). ring.m) i) ∙ h))

    module _ (ring : Ring) (i : ring ≡ ring_at block e f) (h : ring.m ≡ 0 → ⊥) where
      length_left : (ring_at block e f).m ≡ 0 → ⊥
      length_left z = h (ap (λ (ring : Ring). ring.m) i ∙ z)

      both : T (ltb e f && eqb (open_answer block) 0)
      unfolding ring_at
      both = go (ltb e f && eqb (open_answer block) 0) length_left
        where
          go : (b : Bool) → ((cond b (found_ring (edge_found rings_alone block e f)) (ring_with [])).m ≡ 0 → ⊥) → T b
          go true l = tt
          go false l = absurd (l refl)

      pub in_order_lem : e < f
      in_order_lem = ltb→lt e f (and_l (ltb e f) (eqb (open_answer block) 0) both)

      own_opens : open_answer block ≡ 0
      own_opens = eqb→eq (open_answer block) 0 (and_r (ltb e f) (eqb (open_answer block) 0) both)

      own_ring : ring ≡ found_ring (edge_found rings_alone block e f)
      unfolding ring_at
      own_ring = i ∙ rw (lt-ltb e f in_order_lem, eq-eqb (open_answer block) 0 own_opens)

      -- what is found has the ring
      record Its : Type 0 where
        found : Found
        is : edge_found rings_alone block e f ≡ Ok found
        ring_is : ring ≡ found.ring

      its_found : Its
      its_found = go (edge_found rings_alone block e f) refl own_ring
        where
          go : (given : Result Found Refusal) → edge_found rings_alone block e f ≡ given → ring ≡ found_ring given → Its
          go (Ok found) is own = record { found = found; is = is; ring_is = own }
          go (Err refusal) is own = absurd (h (ap (λ (ring : Ring). ring.m) own))

      pub whole : length block ≡ block_bytes
      whole = (right_block block own_opens).size

      pub bytes : (e < 256) × (f < 256)
      bytes = ends_bytes rings_alone block e f own_opens its_found.found its_found.is

      its_closed : (site_of (fields_of block) e f).closed ≡ true
      its_closed = alone_closed rings_alone block e f own_opens its_found.found its_found.is refl

      pub ready : Fillable (coordinates_of block) (point_count block) block (row_count block) e f true ring
      ready =
          let order = in_order_lem in
          let closed = own_closed rings_alone block e f own_opens its_found.found its_found.is ∙ its_closed in
          rw (its_found.ring_is, ← closed)
          (ringed rings_alone block e f own_opens its_found.found its_found.is e f (omega arith) (omega arith)).ready

      abbrev its : Site
      its = site_of (fields_of block) e f

      own : site_in (coordinates_of block) (point_count block) block (row_count block) e f ≡ site_of (fields_of block) e f
      own =
          let order = in_order_lem in
          own_site rings_alone block e f own_opens its_found.found its_found.is e f (omega arith) (omega arith)

      module _ (pieces : Pieces)
          (keeps : KeepsTable (site_in (coordinates_of block) (point_count block) block (row_count block) e f) pieces) where
        pub ring_length : (min_ring ≤ pieces.m) × (pieces.m ≤ max_ring)
        ring_length = (rw keeps.length ready.long, rw keeps.length ready.short)

        pub top : get_or pieces.table.apexes (cell_at 1 pieces.m) 0 ≡ top_apex block e f
        unfolding top_apex
        top =
            let (low, high) = ring_length in
            let kept = keeps.apexes 1 pieces.m (omega arith) (omega arith) (omega (arith, keeps.length)) in
            sym (number (get_or pieces.table.apexes (cell_at 1 pieces.m) 0))
            ∙ ap (λ o. Option.get_or o 0) kept
            ∙ ap (λ (s : Site). Option.get_or (table_apex s 1 pieces.m) 0) own
            ∙ ap (λ b. Option.get_or (cond b none (apex its 1 pieces.m)) 0) (open_piece its (ring_open its its_closed) 1 pieces.m)
            ∙ ap (λ k. Option.get_or (apex (site_of (fields_of block) e f) 1 k) 0) (keeps.length ∙ ap m own)
            ∙ sym (rw (ne_eqb (ring_at block e f).m 0 length_left))
