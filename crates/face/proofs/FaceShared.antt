-- A face in a table: what one pass keeps, one row more at a time; and, under the mesh rule, a's row with its apex and the face.
-- A number at the end is the smallest, or the smallest is what it was; the first row of the smallest apex goes with it.
use Prim.Native.Nat.{ℕ, ◌+◌, ◌<◌, min, max}
use mathlib.Core.Bool.{Bool, true, false, cond, not}
use mathlib.Core.List.Memᴰ
use mathlib.Core.List.{List, [], ◌∷◌, ◌++◌, map, foldr, append-nil, Memᴰ, map-append}
use mathlib.Core.Logic.{◌⊎◌, inl, inr}
use mathlib.Core.Option.{get_or}
use mathlib.Core.Path.{◌≡◌, refl, sym, ap, ◌∙◌, subst}
use native.Mathlib.Numerals.{add-one}
use native.Mathlib.Omega.{arith}
use borrow.Author.Tests.{ne_eqb, ltb-true, ltb-false, eq-eqb, eqb-true, eqb-false}
use lib.Dec.{T, eqb, ltb, eqb→eq, T_not, not_T}
use lib.ListN.{length, length-append, length-map}
use Rattle.std.specs.Prelude.{Option, Some, None, IfSome}
use Rattle.lists.specs.Lists.{every, any, those, first, first_or, has, different}
use Rattle.lists.proofs.Tests.{and_r, and_i, either, no_is, eq_test}
use Rattle.lists.proofs.Lists.{every_at, any_i, any_e, those_e, those_append, those_split, first_front, first_behind, first_found}
use Rattle.lists.proofs.Numbers.{has_i, has_e, no_more, max_more, min_more}
use Rattle.rows.specs.declared.Row.{Row}
use Rattle.rows.specs.declared.Regions.{Regions}
use Rattle.rows.specs.Steps.{regions_of, with_region}
use Rattle.rows.proofs.RegionsRowByRow.{one_met, more_met}
use Rattle.rows.specs.Rows.{row_in, rows_in, numbers, holds, holds_face, no_row}
use Rattle.mesh.specs.Mesh.{numbers_fit, keeps_mesh_rule}
use Rattle.rows.proofs.RowsOfTables.{rows_more}
use Rattle.mesh.proofs.MeshRuleStated.{keeps_fits}
use Rattle.walk.specs.Walk.{smallest}
use Rattle.links.specs.Steps.{LinkedRow}
use Rattle.walk.proofs.TheSmallest.{smallest_in, smallest_le}
use Rattle.face.specs.declared.Sharing.{Sharing}
use Rattle.calls.specs.Flipping.{apex_over, Pair, pair_of}
use Rattle.face.specs.Steps.{sharing, sharing_in, with_row}

-- ---- one more at the end

smallest_more : (n : ℕ) (ns : List ℕ) (p : ℕ) → smallest (n ∷ (ns ++ p ∷ [])) ≡ min (smallest (n ∷ ns)) p
unfolding smallest
smallest_more n ns p = min_more n p ns

-- ---- the rows that hold a face

-- what is noted of some rows with their apexes
abbrev noted : (Row → ℕ) → List Row → Sharing
noted apex rows =
    let a = smallest (map apex rows) in
    record {
      n = length rows;
      a = a;
      b = foldr max 0 (map apex rows);
      row = first_or no_row (λ row. eqb (apex row) a) rows;
      regions = regions_of rows;
    }

same_sharing : {n m a b c d : ℕ} {r s : Row} {g h : Regions} → n ≡ m → a ≡ b → c ≡ d → r ≡ s → g ≡ h
    → ◌≡◌ {A = Sharing} (record { n = n; a = a; b = c; row = r; regions = g }) (record { n = m; a = b; b = d; row = s; regions = h })
same_sharing e f g h i = rw (e, f, g, h, i)

-- some row has the smallest apex
some_low : (apex : Row → ℕ) (rows : List Row) → (length rows ≡ 0 → ⊥) → T (any (λ row. eqb (apex row) (smallest (map apex rows))) rows)
some_low apex rows some_row =
    let low = smallest (map apex rows) in
    let (t, k, e) = Memᴰ.of_map apex rows (smallest_in (map apex rows) (omega (arith, length-map rows apex))) in
    any_i (λ row. eqb (apex row) low) rows k (eq_test (apex t) low e)

module _ (apex : Row → ℕ) (r : Row) (rs : List Row) (row : Row) where
  abbrev rows : List Row
  rows = r ∷ rs

  abbrev low : ℕ
  low = smallest (map apex rows)

  none_below : apex row < low → any (λ t. eqb (apex t) (apex row)) rows ≡ false
  none_below h = no_is _ (not_T (any (λ t. eqb (apex t) (apex row)) rows) λ k.
      let (t, m, e) = any_e (λ t. eqb (apex t) (apex row)) rows k in
      let same = eqb→eq (apex t) (apex row) e in
      omega (arith, smallest_le (map apex rows) (Memᴰ.map apex m)))

  -- the row of the smaller apex
  row_below : apex row < low → first_or no_row (λ t. eqb (apex t) (apex row)) (rows ++ row ∷ []) ≡ row
  unfolding first
  row_below h =
      ap (λ found. get_or found no_row) (first_behind (λ t. eqb (apex t) (apex row)) rows (row ∷ []) (none_below h))
      ∙ rw (eq-eqb (apex row) (apex row) refl)

  row_above : first_or no_row (λ t. eqb (apex t) low) (rows ++ row ∷ []) ≡ first_or no_row (λ t. eqb (apex t) low) rows
  row_above = ap (λ found. get_or found no_row)
      (first_front (λ t. eqb (apex t) low) rows (row ∷ []) (some_low apex rows (λ e. omega arith)))

  low_more : smallest (map apex (rows ++ row ∷ [])) ≡ min low (apex row)
  low_more = ap smallest (map-append apex rows (row ∷ [])) ∙ smallest_more (apex r) (map apex rs) (apex row)

  high_more : max (foldr max 0 (map apex rows)) (apex row) ≡ foldr max 0 (map apex (rows ++ row ∷ []))
  high_more = sym (ap (foldr max 0) (map-append apex rows (row ∷ [])) ∙ max_more (apex row) (map apex rows))

  noted_next : with_row (Some (noted apex rows)) row (apex row) ≡ noted apex (rows ++ row ∷ [])
  unfolding with_row
  noted_next = go (ltb (apex row) low) refl
    where
      n_more : length rows + 1 ≡ length (rows ++ row ∷ [])
      n_more = omega (arith, length-append rows (row ∷ []))

      regions_next : with_region (regions_of rows) row.region ≡ regions_of (rows ++ row ∷ [])
      regions_next = more_met rows (Memᴰ.head refl) row

      found : ℕ → List Row → Row
      found a ts = first_or no_row (λ t. eqb (apex t) a) ts

      go : (b : Bool) → ltb (apex row) low ≡ b
          → cond b (record {
            n = length rows + 1;
            a = apex row;
            b = max (foldr max 0 (map apex rows)) (apex row);
            row = row;
            regions = with_region (regions_of rows) row.region;
          })
          (record {
            n = length rows + 1;
            a = low;
            b = max (foldr max 0 (map apex rows)) (apex row);
            row = found low rows;
            regions = with_region (regions_of rows) row.region;
          })
          ≡ noted apex (rows ++ row ∷ [])
      go true e =
          let h = ltb-true (apex row) low e in
          let is : smallest (map apex (rows ++ row ∷ [])) ≡ apex row = low_more ∙ omega arith in
          same_sharing n_more (sym is) high_more (sym (ap (λ a. found a (rows ++ row ∷ [])) is ∙ row_below h)) regions_next
      go false e =
          let h = ltb-false (apex row) low e in
          let is : smallest (map apex (rows ++ row ∷ [])) ≡ low = low_more ∙ omega arith in
          same_sharing n_more (sym is) high_more (sym (ap (λ a. found a (rows ++ row ∷ [])) is ∙ row_above)) regions_next

-- what is noted, if there is a row
abbrev noted_any : (Row → ℕ) → List Row → Option Sharing
noted_any apex rows = cond (eqb (length rows) 0) None (Some (noted apex rows))

-- one row more
noted_more : (apex : Row → ℕ) (rows : List Row) (row : Row) → Some (with_row (noted_any apex rows) row (apex row)) ≡ noted_any apex (rows ++ row ∷ [])
unfolding with_row first smallest
noted_more apex [] row =
    let high : apex row ≡ max (apex row) 0 = omega arith in
    ap Some (same_sharing refl refl high (rw (eq-eqb (apex row) (apex row) refl)) (sym (one_met row)))
noted_more apex (r ∷ rs) row =
    rw (ne_eqb (length (r ∷ rs)) 0 (λ e. omega arith), ne_eqb (length ((r ∷ rs) ++ row ∷ [])) 0 (λ e. omega arith))
    (ap Some (noted_next apex r rs row))

module _ (face : List ℕ) (rows : List Row) (row : Row) where
  -- a row that holds the face
  share_held : holds_face face row ≡ true → Some (with_row (sharing_in rows face) row (apex_over face row)) ≡ sharing_in (rows ++ row ∷ []) face
  unfolding pair_of those
  share_held e =
      let more : those (holds_face face) (rows ++ row ∷ []) ≡ those (holds_face face) rows ++ row ∷ [] =
      rw (those_append (holds_face face) rows (row ∷ []), e) in
      noted_more (apex_over face) (those (holds_face face) rows) row ∙ ap (noted_any (apex_over face)) (sym more)

  -- any other row
  share_other : holds_face face row ≡ false → sharing_in rows face ≡ sharing_in (rows ++ row ∷ []) face
  unfolding pair_of those
  share_other e =
      let same : those (holds_face face) (rows ++ row ∷ []) ≡ those (holds_face face) rows =
      rw (those_append (holds_face face) rows (row ∷ []), e) (append-nil _) in
      ap (noted_any (apex_over face)) (sym same)

-- no more than there are rows
pub share_few : (face : List ℕ) (rows : List Row) (most : ℕ) → length rows < most → IfSome (sharing_in rows face) (λ found. found.n < most)
unfolding pair_of
share_few face rows most h = go (eqb (length (those (holds_face face) rows)) 0)
  where
    go : (b : Bool) → IfSome (cond b None (Some (noted (apex_over face) (those (holds_face face) rows)))) (λ found. found.n < most)
    go true = tt
    go false = omega (arith, those_split (holds_face face) rows)

-- whether a row holds the face, and what is then kept
module _ (rows : List Row) (face : List ℕ) where
  abbrev whole : Pair
  whole = pair_of (record { points = []; rows = rows }) face

  pub none_shares : None ≡ sharing_in rows face → length whole.removed ≡ 0
  none_shares e = go (eqb (length whole.removed) 0) refl e
    where
      go : (b : Bool) → eqb (length whole.removed) 0 ≡ b → None ≡ cond b None (Some (sharing whole)) → length whole.removed ≡ 0
      go true is e = eqb-true _ _ is
      go false is e = cc

  pub some_share : (found : Sharing) → Some found ≡ sharing_in rows face → (length whole.removed ≡ 0 → ⊥) × (found ≡ sharing whole)
  some_share found e = go (eqb (length whole.removed) 0) refl e
    where
      go : (b : Bool) → eqb (length whole.removed) 0 ≡ b → Some found ≡ cond b None (Some (sharing whole))
          → (length whole.removed ≡ 0 → ⊥) × (found ≡ sharing whole)
      go true is e = cc
      go false is e = (eqb-false _ _ is, cc)

-- one row more of a table
module _ (face table : List ℕ) (i : ℕ) (found : Option Sharing) (so_far : found ≡ sharing_in (rows_in table i) face) (row : Row)
    (row_is : row ≡ row_in table i)
    (test : Bool) (test-is : test ≡ holds_face face row) where
  pub held_next : test ≡ true → (apex : ℕ) (after : Option Sharing) → apex ≡ apex_over face row → after ≡ Some (with_row found row apex)
      → after ≡ sharing_in (rows_in table (i + 1)) face
  held_next e apex after a f =
      rw (add-one i, rows_more table i, ← row_is) (f ∙ rw (so_far, a) (share_held face (rows_in table i) row (sym test-is ∙ e)))

  pub other_next : test ≡ false → (after : Option Sharing) → after ≡ found → after ≡ sharing_in (rows_in table (i + 1)) face
  other_next e after f =
      rw (add-one i, rows_more table i, ← row_is) (f ∙ (so_far ∙ share_other face (rows_in table i) row (sym test-is ∙ e)))

-- ---- the apex, and a's row, under the mesh rule

-- of four different numbers one is not in a face of three
some_outside : (face : List ℕ) (row : Row) → length face < 4 → T (different (numbers row)) → T (any (λ n. not (has face n)) (numbers row))
some_outside face row few apart = go (either (any (λ n. not (has face n)) (numbers row)))
  where
    inside : T (not (any (λ n. not (has face n)) (numbers row))) → (n : ℕ) → Memᴰ n (numbers row)
        → T (has face n) ⊎ T (not (has face n)) → Memᴰ n face
    inside k n m (inl h) = has_e face n h
    inside k n m (inr h) = absurd (T_not (any (λ n. not (has face n)) (numbers row)) k (any_i (λ n. not (has face n)) (numbers row) m h))

    go : T (any (λ n. not (has face n)) (numbers row)) ⊎ T (not (any (λ n. not (has face n)) (numbers row)))
        → T (any (λ n. not (has face n)) (numbers row))
    go (inl k) = k
    go (inr k) = absurd (omega (arith, no_more (numbers row) face apart (λ n m. inside k n m (either (has face n)))))

-- so the apex of a proper row over a face is a number of the row that the face has not: none stands in for it
pub apex_found : (count : ℕ) (face : List ℕ) (row : Row) → length face < 4 → T (numbers_fit count row)
    → T (holds row (apex_over face row)) × T (not (has face (apex_over face row)))
unfolding apex_over numbers_fit
apex_found count face row few fit =
    let apart = and_r (every (λ n. ltb n count) (numbers row)) (different (numbers row)) fit in
    let it = first_found 0 (λ n. not (has face n)) (numbers row) (some_outside face row few apart) in
    (has_i (numbers row) it.0, it.1)

module _ (count : ℕ) (rows : List Row) (x y z : ℕ) (rule : T (keeps_mesh_rule count rows)) where
  abbrev face : List ℕ
  face = x ∷ y ∷ z ∷ []

  abbrev pair : Pair
  pair = pair_of (record { points = []; rows = rows }) face

  module _ (some_row : length pair.removed ≡ 0 → ⊥) where
    -- a's row is one of those that hold the face, and a is its apex: no row stands in for it
    row_found : Memᴰ pair.row_of_a (those (holds_face face) rows) × (apex_over face pair.row_of_a ≡ pair.a)
    unfolding pair_of
    row_found =
        let removed = those (holds_face face) rows in
        let (m, h) = first_found no_row (λ row. eqb (apex_over face row) pair.a) removed (some_low (apex_over face) removed some_row) in
        (m, eqb→eq (apex_over face pair.row_of_a) pair.a h)

    -- a's row is proper, holds a and the smallest number of the face, and these two differ
    pub row_linked : LinkedRow pair.a (smallest face) pair.row_of_a
    row_linked =
        let row = pair.row_of_a in
        let (m, e) = row_found in
        let (k, h) = those_e (holds_face face) rows m in
        let fit = every_at (numbers_fit count) rows (keeps_fits count rows rule) k in
        let (held, out) = apex_found count face row (omega arith) fit in
        let least = smallest_in face (omega arith) in
        record {
          count = count;
          fits = fit;
          apart = λ q. T_not (has face (apex_over face row)) out (has_i face (subst (λ n. Memᴰ n face) (sym (e ∙ q)) least));
          held = and_i (holds row pair.a) (holds row (smallest face)) (subst (λ n. T (holds row n)) e held)
              (every_at (holds row) face h least);
        }
