-- The apexes over a face by words and by the flip's own search: a row over a face has one number that the face has not, so with two rows
-- that have different ones the smaller is a and the larger b.
use Prim.Native.Nat.{ℕ, ◌+◌, min, max}
use mathlib.Core.List.{List, [], ◌∷◌, Memᴰ}
use mathlib.Core.Logic.{◌⊎◌, inl, inr}
use mathlib.Core.Path.{◌≡◌, refl, sym, ap, ◌∙◌, subst}
use native.Mathlib.Omega.{arith}
use lib.Dec.{T}
use lib.ListN.{length, length-append}
use Rattle.lists.specs.Lists.{every, any, those, different}
use Rattle.lists.proofs.Tests.{and_l, and_r, and_i}
use Rattle.lists.proofs.Lists.{any_e, any_i, those_i, those_e, those_split}
use Rattle.lists.proofs.Numbers.{has_i, has_e, different_head, different_tail, different_i}
use Rattle.lists.proofs.Places.{in_cases, in_length}
use Rattle.rows.specs.declared.Row.{Row}
use Rattle.rows.specs.Rows.{numbers, holds, holds_face}
use Rattle.rows.specs.Tetrahedra.{arranged_from}
use Rattle.rows.proofs.EvenMoves.{even_holds}
use Rattle.layout.specs.Layout.{Patch}
use Rattle.walk.specs.Walk.{smallest}
use Rattle.calls.specs.Flipping.{apex_over, Pair, pair_of, three_rows, three_made, patch_after23}
use Rattle.tables.specs.FlipRows.{KeepsRule, facing, OneApex, Apexes}
use Rattle.tables.proofs.RowsOverAFace.{AllOver, two_only}
use Rattle.tables.proofs.FacingRows.{Facing, both_in, all_over}
use Rattle.tables.proofs.AtMostTwoRows.{apexes_of_two}

module _ (patch : Patch) (x y z : ℕ) (rule : KeepsRule patch patch.rows) (apart : T (different (x ∷ y ∷ z ∷ []))) where
  abbrev face : List ℕ
  face = x ∷ y ∷ z ∷ []

  abbrev held : List Row
  held = those (holds_face face) patch.rows

  all : AllOver (length patch.points) face (smallest face) held
  all = all_over (length patch.points) patch face refl apart rule

  -- a row that holds the face and one point more has this for its apex
  pub apex_is : {row : Row} {n : ℕ} → Memᴰ row held → T (holds row n) → (Memᴰ n face → ⊥) → apex_over face row ≡ n
  apex_is {row} {n} k h free =
      let over = all.over row k in
      let t = arranged_from (apex_over face row) (smallest face) row in
      in_cases (has_e (numbers t) n (subst T (sym (even_holds t row over.even n)) h))
      (λ e. sym over.at_apex ∙ sym e) (λ i. absurd (free (over.outside i)))

  -- it holds its apex, which the face has not
  pub apex_held : {row : Row} → Memᴰ row held → T (holds row (apex_over face row)) × (Memᴰ (apex_over face row) face → ⊥)
  apex_held {row} k =
      let over = all.over row k in
      let t = arranged_from (apex_over face row) (smallest face) row in
      let p = over.at_apex in
      let proper = over.proper in (
        subst T (even_holds t row over.even (apex_over face row)) (has_i (numbers t) (mathlib.Core.List.Memᴰ.head (sym p))),
        λ i.
            in_cases (over.inside i) (λ e. proper.p_q (p ∙ e))
            λ k. in_cases k (λ e. proper.p_r (p ∙ e)) λ k. in_cases k (λ e. proper.p_s (p ∙ e)) mathlib.Core.List.Memᴰ.not-nil,
      )

  -- some row that holds the face and n
  pub row_with_lem : (n : ℕ) → (Memᴰ n face → ⊥) → T (any (holds_face (n ∷ face)) patch.rows)
      → (row : Row) × Memᴰ row held × (apex_over face row ≡ n)
  unfolding every
  row_with_lem n free h =
      let (row, k, both) = any_e (holds_face (n ∷ face)) patch.rows h in
      let i = those_i (holds_face face) patch.rows k (and_r (holds row n) (holds_face face row) both) in
      (row, i, apex_is i (and_l (holds row n) (holds_face face row) both) free)

  -- its row holds the face and the apex
  over_apex : {row : Row} {n : ℕ} → Memᴰ row held → apex_over face row ≡ n → T (any (holds_face (n ∷ face)) patch.rows)
  unfolding every
  over_apex {row} {n} k e =
      let (in_rows, h) = those_e (holds_face face) patch.rows k in
      any_i (holds_face (n ∷ face)) patch.rows in_rows
      (and_i (holds row n) (holds_face face row) (subst (λ n. T (holds row n)) e (apex_held k).0) h)

  -- ---- how many rows hold the face, and whether their apexes are one

  -- there are no more than two
  pub the_rows : (facing patch.rows x y z ≡ 0 → ⊥) → (facing patch.rows x y z ≡ 1 → ⊥)
      → (r o : Row) × (held ≡ r ∷ o ∷ [])
  the_rows none one =
      two_only (length patch.points) face (smallest face) held all none one

  -- the two apexes are one point, by the flip's search and by words
  pub one_words : (r o : Row) → held ≡ r ∷ o ∷ [] → (pair_of patch face).a ≡ (pair_of patch face).b
      → (a : ℕ) × OneApex patch.rows x y z a
  unfolding pair_of
  one_words r o e same =
      let (low, high) = apexes_of_two patch face r o e in
      let equal : apex_over face r ≡ apex_over face o = omega (arith, low, high, same) in
      let r-in = subst (Memᴰ r) (sym e) (mathlib.Core.List.Memᴰ.head refl) in
      let o-in = subst (Memᴰ o) (sym e) (mathlib.Core.List.Memᴰ.tail (mathlib.Core.List.Memᴰ.head refl)) in
      let (r-holds, free) = apex_held r-in in
      let o-holds = subst (λ n. T (holds o n)) (sym equal) (apex_held o-in).0 in (
        apex_over face r,
        record {
          two = ap length e;
          apart = different_i (apex_over face r) face free apart;
          both = λ row k h.
              in_cases (subst (Memᴰ row) e (those_i (holds_face face) patch.rows k h))
              (λ q. subst (λ (row : Row). T (holds row (apex_over face r))) (sym q) r-holds)
              λ k. in_cases k (λ q. subst (λ (row : Row). T (holds row (apex_over face r))) (sym q) o-holds)
              (λ k. absurd (mathlib.Core.List.Memᴰ.not-nil k));
        },
      )

  pub words_one : (a : ℕ) → OneApex patch.rows x y z a → (pair_of patch face).a ≡ (pair_of patch face).b
  unfolding pair_of
  words_one a one =
      let (r, o, e) = the_rows (λ none. omega (arith, one.two)) (λ single. omega (arith, one.two)) in
      let (low, high) = apexes_of_two patch face r o e in
      let r-in = subst (Memᴰ r) (sym e) (mathlib.Core.List.Memᴰ.head refl) in
      let o-in = subst (Memᴰ o) (sym e) (mathlib.Core.List.Memᴰ.tail (mathlib.Core.List.Memᴰ.head refl)) in
      omega (arith, low, high, apex r-in, apex o-in)
    where
      apex : {row : Row} → Memᴰ row (those (holds_face face) patch.rows) → apex_over face row ≡ a
      apex {row} k =
          let (in_rows, h) = those_e (holds_face face) patch.rows k in
          apex_is k (one.both row in_rows h) (λ i. different_head a face one.apart i refl)

  -- ---- by what the flip finds

  module _ (f : Facing (length patch.points) (pair_of patch face) face) where
    pub apex_a : apex_over face f.row_a ≡ (pair_of patch face).a
    apex_a = sym f.a_row_fact.at_apex ∙ f.at_a

    pub apex_b : apex_over face f.row_b ≡ (pair_of patch face).b
    apex_b = go f.order
      where
        go : ((pair_of patch face).removed ≡ f.row_a ∷ f.row_b ∷ []) ⊎ ((pair_of patch face).removed ≡ f.row_b ∷ f.row_a ∷ [])
            → apex_over face f.row_b ≡ (pair_of patch face).b
        go (inl e) = omega (arith, apexes_of_two patch face f.row_a f.row_b e, apex_a, f.less)
        go (inr e) = omega (arith, apexes_of_two patch face f.row_b f.row_a e, apex_a, f.less)

    -- a and b are apexes by words
    pub apexes_found : Apexes patch.rows x y z (pair_of patch face).a (pair_of patch face).b
    unfolding pair_of
    apexes_found =
        let a = (pair_of patch face).a in
        let b = (pair_of patch face).b in
        let (a_in, b-in) = both_in f in
        let free-a : Memᴰ a face → ⊥ = subst (λ n. Memᴰ n face → ⊥) apex_a (apex_held a_in).1 in
        let free-b : Memᴰ b face → ⊥ = subst (λ n. Memᴰ n face → ⊥) apex_b (apex_held b-in).1 in
        record {
          apart = different_i a (b ∷ face) (λ k. in_cases k (λ e. omega (arith, f.less)) free-a) (different_i b face free-b apart);
          over_a = over_apex a_in apex_a;
          over_b = over_apex b-in apex_b;
        }

-- Two rows hold the face, and a and b are in order what the flip finds.
pub record TwoApexes (patch : Patch) (face : List ℕ) (a b : ℕ) : Type 0 where
  pub two : length (pair_of patch face).removed ≡ 2
  pub low : (pair_of patch face).a ≡ min a b
  pub high : (pair_of patch face).b ≡ max a b
  pub apart : a ≡ b → ⊥

module _ (patch : Patch) (x y z a b : ℕ) (rule : KeepsRule patch patch.rows) (given : Apexes patch.rows x y z a b) where
  abbrev list : List ℕ
  list = x ∷ y ∷ z ∷ []

  abbrev pair : Pair
  pair = pair_of patch list

  b_apart : T (different (b ∷ list))
  b_apart = different_tail a (b ∷ list) given.apart

  pub face_different : T (different list)
  face_different = different_tail b list b_apart

  ends_apart : a ≡ b → ⊥
  ends_apart = different_head a (b ∷ list) given.apart (mathlib.Core.List.Memᴰ.head refl)

  -- one row has one apex
  not_one : (s t : Row) → apex_over list s ≡ a → apex_over list t ≡ b → (rows : List Row) → Memᴰ s rows → Memᴰ t rows
      → length rows ≡ 1 → ⊥
  not_one s t p q [] k i e = mathlib.Core.List.Memᴰ.not-nil k
  not_one s t p q (row ∷ []) k i e =
      in_cases k (λ here. in_cases i (λ there. ends_apart (sym p ∙ ap (apex_over list) (here ∙ sym there) ∙ q)) mathlib.Core.List.Memᴰ.not-nil)
      mathlib.Core.List.Memᴰ.not-nil
  not_one s t p q (row ∷ more ∷ rows) k i e = omega arith

  -- two rows, of which one has a and the other b
  abbrev Ordered : Row → Row → Type 0
  Ordered r o = (min (apex_over list r) (apex_over list o) ≡ min a b) × (max (apex_over list r) (apex_over list o) ≡ max a b)

  ordered : (s t : Row) → apex_over list s ≡ a → apex_over list t ≡ b → (r o : Row) → Memᴰ s (r ∷ o ∷ []) → Memᴰ t (r ∷ o ∷ [])
      → Ordered r o
  ordered s t p q r o k i =
      in_cases k
      (λ here. in_cases i
      (λ there. absurd (ends_apart (sym p ∙ ap (apex_over list) (here ∙ sym there) ∙ q)))
      (λ i. in_cases i (λ there. straight (ap (apex_over list) (sym here) ∙ p) (ap (apex_over list) (sym there) ∙ q))
      (λ i. absurd (mathlib.Core.List.Memᴰ.not-nil i))))
      (λ k. in_cases k
      (λ here. in_cases i
      (λ there. crossed (ap (apex_over list) (sym here) ∙ p) (ap (apex_over list) (sym there) ∙ q))
      (λ i. in_cases i (λ there. absurd (ends_apart (sym p ∙ ap (apex_over list) (here ∙ sym there) ∙ q)))
      (λ i. absurd (mathlib.Core.List.Memᴰ.not-nil i))))
      (λ k. absurd (mathlib.Core.List.Memᴰ.not-nil k)))
    where
      straight : apex_over list r ≡ a → apex_over list o ≡ b → Ordered r o
      straight p q = rw (p, q) (refl, refl)

      crossed : apex_over list o ≡ a → apex_over list r ≡ b → Ordered r o
      crossed p q = rw (p, q) (omega arith)

  two_from : (s t : Row) → apex_over list s ≡ a → apex_over list t ≡ b → Memᴰ s pair.removed → Memᴰ t pair.removed
      → TwoApexes patch list a b
  unfolding pair_of
  two_from s t p q k i =
      let (r, o, e) = two_only (length patch.points) list (smallest list) pair.removed
      (all patch x y z rule face_different) (λ n. omega (arith, in_length pair.removed k)) (not_one s t p q pair.removed k i) in
      with_two r o e
    where
      with_two : (r o : Row) → pair.removed ≡ r ∷ o ∷ [] → TwoApexes patch list a b
      with_two r o e =
          let (low, high) = apexes_of_two patch list r o e in
          let apexes = ordered s t p q r o (subst (Memᴰ s) e k) (subst (Memᴰ t) e i) in
          record { two = ap length e; low = low ∙ apexes.0; high = high ∙ apexes.1; apart = ends_apart }

  pub two_apexes : TwoApexes patch list a b
  unfolding pair_of
  two_apexes =
      let (s, s-in, s-is) = row_with_lem patch x y z rule face_different a
      (λ k. different_head a (b ∷ list) given.apart (mathlib.Core.List.Memᴰ.tail k) refl) given.over_a in
      let (t, t-in, t_is) = row_with_lem patch x y z rule face_different b (λ k. different_head b list b_apart k refl) given.over_b in
      two_from s t s-is t_is s-in t-in

-- two rows go, three come
pub one_more : (patch : Patch) (face : List ℕ) {a b : ℕ} → TwoApexes patch face a b
    → length (patch_after23 patch face).rows ≡ length patch.rows + 1
unfolding patch_after23 three_rows pair_of
one_more patch face two =
    let pair = pair_of patch face in
    omega (arith, length-append pair.kept (three_made pair face), those_split (holds_face face) patch.rows, two.two)
