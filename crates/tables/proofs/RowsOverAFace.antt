-- The two rows of a face: in a table that keeps the mesh rule they use it once each way, so with a the smaller apex they are
-- (a,u,v,w) and (u,v,w,b), evenly rearranged, and by the identity of five points the three new rows have their total D.
use Prim.Native.Nat.{ℕ, ◌+◌, ◌≤◌, ◌<◌, min, max}
use mathlib.Core.Bool.{Bool, not}
use mathlib.Core.List.Memᴰ
use mathlib.Core.List.{List, [], ◌∷◌, map, foldr, Memᴰ}
use mathlib.Core.Logic.{◌⊎◌, inl, inr}
use mathlib.Core.Path.{◌≡◌, refl, sym, ◌∙◌, subst}
use native.Mathlib.Decide.{dec_lt}
use native.Mathlib.Omega.{arith}
use borrow.Author.Tests.{eq-eqb, ne_eqb}
use lib.Dec.{T, eqb, ltb, T_not}
use lib.ListN.{length, get_or}
use Rattle.lists.specs.Lists.{every, any, first, first_or, has, different}
use Rattle.lists.proofs.Tests.{and_r, either}
use Rattle.lists.proofs.Lists.{every_at, any_i, first_found}
use Rattle.lists.proofs.Numbers.{has_i, has_e, no_more, no_fewer}
use Rattle.lists.proofs.Counts.{ind, ind_yes}
use Rattle.lists.proofs.Places.{at_in, in_cases}
use Rattle.rows.specs.declared.Row.{Row}
use Rattle.mesh.specs.Mesh.{Face, faces, uses, numbers_fit, Proper}
use Rattle.rows.specs.Rows.{numbers, holds, holds_face, no_row}
use Rattle.rows.specs.Tetrahedra.{evenly, rearranged, arranged_from}
use Rattle.mesh.proofs.TurnedFaces.{stay, no_p, face_uses}
use Rattle.mesh.proofs.FacesCounted.{hits, hits_cons}
use Rattle.mesh.proofs.MeshRuleStated.{fit_proper}
use Rattle.rows.proofs.EvenMoves.{even_i, even_holds}
use Rattle.mesh.proofs.EvenFaces.{even_uses, even_proper}
use Rattle.rows.proofs.EvenGroup.{even_trans, arranged_from_lem}
use Rattle.walk.specs.Walk.{smallest}
use Rattle.calls.specs.Flipping.{apex_over}

-- ---- one row over a face of three different numbers

-- The row is t, evenly rearranged: its apex, then u, then the two other numbers of the face.
pub record Over (count : ℕ) (face : List ℕ) (u : ℕ) (row t : Row) : Type 0 where
  pub even : T (rearranged t row)
  pub proper : Proper count t
  pub at_apex : t.p ≡ apex_over face row
  pub at_u : t.q ≡ u
  pub inside : {n : ℕ} → Memᴰ n face → Memᴰ n (t.q ∷ t.r ∷ t.s ∷ [])
  pub outside : {n : ℕ} → Memᴰ n (t.q ∷ t.r ∷ t.s ∷ []) → Memᴰ n face
  pub used : T (uses (t.q, t.r, t.s) row)

module _ (count : ℕ) (face : List ℕ) (three : length face ≡ 3) (apart : T (different face)) (row : Row)
    (fit : T (numbers_fit count row)) (over : T (holds_face face row)) where
  -- a number of the row that is not of the face
  abbrev free : ℕ → Bool
  free n = not (has face n)

  row_different : T (different (numbers row))
  unfolding numbers_fit
  row_different = and_r (every (λ n. ltb n count) (numbers row)) (different (numbers row)) fit

  all_in : T (not (any free (numbers row))) → (n : ℕ) → Memᴰ n (numbers row) → Memᴰ n face
  all_in h n k = go (either (has face n))
    where
      go : T (has face n) ⊎ T (not (has face n)) → Memᴰ n face
      go (inl i) = has_e face n i
      go (inr i) = absurd (T_not (any free (numbers row)) h (any_i free (numbers row) k i))

  -- four different numbers are not all of the face
  some_free : T (any free (numbers row))
  some_free = go (either (any free (numbers row)))
    where
      go : T (any free (numbers row)) ⊎ T (not (any free (numbers row))) → T (any free (numbers row))
      go (inl h) = h
      go (inr h) = absurd (omega (arith, no_more (numbers row) face row_different (all_in h)))

  apex_held : Memᴰ (apex_over face row) (numbers row) × (Memᴰ (apex_over face row) face → ⊥)
  unfolding apex_over
  apex_held =
      let (k, h) = first_found 0 free (numbers row) some_free in
      (k, λ i. T_not (has face (apex_over face row)) h (has_i face i))

  pub row_over : (u : ℕ) → Memᴰ u face → Over count face u row (arranged_from (apex_over face row) u row)
  unfolding faces
  row_over u of =
      let t = arranged_from (apex_over face row) u row in
      let (k, not-of) = apex_held in
      let (even, p, q) = arranged_from_lem (apex_over face row) u row (has_i (numbers row) k) (every_at (holds row) face over of)
      (λ e. not-of (subst (λ n. Memᴰ n face) (sym e) of)) in
      let inside : (n : ℕ) → Memᴰ n face → Memᴰ n (t.q ∷ t.r ∷ t.s ∷ []) = λ n i.
      in_cases (has_e (numbers t) n (subst T (sym (even_holds t row even n)) (every_at (holds row) face over i)))
      (λ e. absurd (not-of (subst (λ n. Memᴰ n face) (e ∙ p) i))) (λ j. j) in
      record {
        even = even;
        proper = even_proper count t row even (fit_proper count row fit);
        at_apex = p;
        at_u = q;
        inside = λ i. inside _ i;
        outside = λ i. no_fewer face (t.q ∷ t.r ∷ t.s ∷ []) apart inside (omega arith) i;
        used = subst T (even_uses t row even (t.q, t.r, t.s)) (face_uses (t.q, t.r, t.s) t (no_p stay));
      }

-- ---- two rows over one face

module _ {count : ℕ} {face : List ℕ} {u : ℕ} {row other t s : Row} (one : Over count face u row t) (two : Over count face u other s) where
  same_u : s.q ≡ t.q
  same_u = two.at_u ∙ sym one.at_u

  -- a number of the second row's face is one of the first's, but not u
  found : {P : Type 0} {n : ℕ} → Memᴰ n (s.q ∷ s.r ∷ s.s ∷ []) → (s.q ≡ n → ⊥) → (n ≡ t.r → P) → (n ≡ t.s → P) → P
  found k not-u f g =
      in_cases (one.inside (two.outside k)) (λ e. absurd (not-u (same_u ∙ sym e)))
      λ k. in_cases k f λ k. in_cases k g λ k. absurd (Memᴰ.not-nil k)

  -- they use it the same way or opposite ways
  same_or_opposite : {P : Type 0} → ((s.q ≡ t.q) → (s.r ≡ t.r) → (s.s ≡ t.s) → P) → ((s.r ≡ t.s) → (s.s ≡ t.r) → P) → P
  same_or_opposite same opposite =
      let r-in = Memᴰ.tail (Memᴰ.head refl) in
      let s-in = Memᴰ.tail (Memᴰ.tail (Memᴰ.head refl)) in
      found r-in two.proper.q_r
      (λ e. found s-in two.proper.q_s (λ f. absurd (two.proper.r_s (e ∙ sym f))) (λ f. same same_u e f))
      (λ e. found s-in two.proper.q_s (λ f. opposite e f) (λ f. absurd (two.proper.r_s (e ∙ sym f))))

  -- where no directed face is used twice, opposite ways
  pub opposite : {P : Type 0} → ((f : Face) → T (uses f row) → T (uses f other) → ⊥) → ((s.r ≡ t.s) → (s.s ≡ t.r) → P) → P
  opposite once go =
      same_or_opposite
      (λ q r w. absurd (once (t.q, t.r, t.s) one.used (subst (λ f. T (uses f other)) (face_is q r w) two.used)))
      go
    where
      face_is : s.q ≡ t.q → s.r ≡ t.r → s.s ≡ t.s → ◌≡◌ {A = Face} (s.q, s.r, s.s) (t.q, t.r, t.s)
      face_is q r w = rw (q, r, w)

-- ---- the rows that hold the face

module _ (count : ℕ) (face : List ℕ) (u : ℕ) where
  -- each of them is over it, and no directed face is used twice
  pub record AllOver (rows : List Row) : Type 0 where
    pub over : (row : Row) → Memᴰ row rows → Over count face u row (arranged_from (apex_over face row) u row)
    pub once : (f : Face) → hits f rows ≤ 1

  -- three do not go together
  three_rows_lem : (x y z : Row) (rest : List Row) → AllOver (x ∷ y ∷ z ∷ rest) → ⊥
  three_rows_lem x y z rest all =
      let xs = all.over x (Memᴰ.head refl) in
      let ys = all.over y (Memᴰ.tail (Memᴰ.head refl)) in
      let zs = all.over z (Memᴰ.tail (Memᴰ.tail (Memᴰ.head refl))) in
      opposite xs ys (λ f a b. twice f (omega (arith, ind_yes (uses f x) a, ind_yes (uses f y) b)))
      λ yr yw. opposite xs zs (λ f a b. twice f (omega (arith, ind_yes (uses f x) a, ind_yes (uses f z) b)))
      λ zr zw. opposite ys zs (λ f a b. twice f (omega (arith, ind_yes (uses f y) a, ind_yes (uses f z) b)))
      λ r w. xs.proper.r_s (sym yw ∙ sym r ∙ zr)
    where
      twice : (f : Face) → 2 ≤ ind (uses f x) + ind (uses f y) + ind (uses f z) → ⊥
      twice f h = omega (arith, all.once f, hits_cons f x (y ∷ z ∷ rest), hits_cons f y (z ∷ rest), hits_cons f z rest)

  -- so there are two, if there are neither none nor one
  pub two_only : (rows : List Row) → AllOver rows → (length rows ≡ 0 → ⊥) → (length rows ≡ 1 → ⊥) → (x y : Row) × (rows ≡ x ∷ y ∷ [])
  two_only [] all none one = absurd (none refl)
  two_only (x ∷ []) all none one = absurd (one refl)
  two_only (x ∷ y ∷ []) all none one = (x, y, refl)
  two_only (x ∷ y ∷ z ∷ rest) all none one = absurd (three_rows_lem x y z rest all)

  -- and they use the face opposite ways
  two_opposite : {P : Type 0} (x y : Row) → AllOver (x ∷ y ∷ [])
      → (let t = arranged_from (apex_over face x) u x in let s = arranged_from (apex_over face y) u y in (s.r ≡ t.s) → (s.s ≡ t.r) → P) → P
  two_opposite x y all go =
      opposite (all.over x (Memᴰ.head refl)) (all.over y (Memᴰ.tail (Memᴰ.head refl)))
      (λ f a b. omega (arith, all.once f, hits_cons f x (y ∷ []), hits_cons f y [], ind_yes (uses f x) a, ind_yes (uses f y) b))
      go

-- ---- the smaller apex

module _ (face : List ℕ) where
  -- a, b and a's row, of the rows that hold the face

  abbrev pub a_of : List Row → ℕ
  a_of rows = smallest (map (apex_over face) rows)

  abbrev pub b_of : List Row → ℕ
  b_of rows = foldr max 0 (map (apex_over face) rows)

  abbrev pub row_of : List Row → Row
  row_of rows = first_or no_row (λ row. eqb (apex_over face row) (a_of rows)) rows

  -- One of the two rows is a's, and the other b's.
  pub record Picked (rows : List Row) : Type 0 where
    pub row_a : Row
    pub row_b : Row
    pub order : (rows ≡ row_a ∷ row_b ∷ []) ⊎ (rows ≡ row_b ∷ row_a ∷ [])
    pub the_row : row_of rows ≡ row_a
    pub apex_a : apex_over face row_a ≡ a_of rows
    pub apex_b : apex_over face row_b ≡ b_of rows
    pub less : a_of rows < b_of rows

  picked : (x y : Row) → (a_of (x ∷ y ∷ []) ≡ b_of (x ∷ y ∷ []) → ⊥) → Picked (x ∷ y ∷ [])
  unfolding smallest first
  picked x y apart = go (dec_lt (apex_over face x) (apex_over face y)) (dec_lt (apex_over face y) (apex_over face x))
    where
      n : ℕ
      n = apex_over face x

      k : ℕ
      k = apex_over face y

      go : Dec (n < k) → Dec (k < n) → Picked (x ∷ y ∷ [])
      go (yes h) other =
          let a : min k n ≡ n = omega arith in
          let b : max n (max k 0) ≡ k = omega arith in
          record {
            row_a = x;
            row_b = y;
            order = inl refl;
            the_row = rw (a, eq-eqb n n refl);
            apex_a = sym a;
            apex_b = sym b;
            less = omega arith;
          }
      go (no h) (yes l) =
          let a : min k n ≡ k = omega arith in
          let b : max n (max k 0) ≡ n = omega arith in
          record {
            row_a = y;
            row_b = x;
            order = inr refl;
            the_row = rw (a, ne_eqb n k (λ e. omega arith), eq-eqb k k refl);
            apex_a = sym a;
            apex_b = sym b;
            less = omega arith;
          }
      go (no h) (no l) = absurd (apart (omega arith))

-- ---- both together: the two rows of a 2-3 flip

module _ (count : ℕ) (face : List ℕ) (rows : List Row) (all : AllOver count face (smallest face) rows)
    (none : length rows ≡ 0 → ⊥) (one : length rows ≡ 1 → ⊥)
    (apart : a_of face rows ≡ b_of face rows → ⊥) where
  pub the_two : Picked face rows
  the_two =
      let (x, y, e) = two_only count face (smallest face) rows all none one in
      subst (Picked face) (sym e) (picked face x y (subst (λ rows. a_of face rows ≡ b_of face rows → ⊥) e apart))

  abbrev pub u : ℕ
  u = smallest face

  abbrev pub up_a : Row
  up_a = arranged_from (apex_over face the_two.row_a) u the_two.row_a

  abbrev pub up_b : Row
  up_b = arranged_from (apex_over face the_two.row_b) u the_two.row_b

  -- a's row and b's row are over the face, opposite ways
  abbrev pub Opposite : Row → Row → Type 0
  Opposite t o = (o.r ≡ t.s) × (o.s ≡ t.r)

  pub both_over : Over count face u the_two.row_a up_a × Over count face u the_two.row_b up_b × Opposite up_a up_b
  both_over = go the_two.order
    where
      go : (rows ≡ the_two.row_a ∷ the_two.row_b ∷ []) ⊎ (rows ≡ the_two.row_b ∷ the_two.row_a ∷ [])
          → Over count face u the_two.row_a up_a × Over count face u the_two.row_b up_b × Opposite up_a up_b
      go (inl e) =
          let here = subst (AllOver count face u) e all in (
            here.over the_two.row_a (Memᴰ.head refl),
            here.over the_two.row_b (Memᴰ.tail (Memᴰ.head refl)),
            two_opposite count face u the_two.row_a the_two.row_b here (λ r w. (r, w)),
          )
      go (inr e) =
          let here = subst (AllOver count face u) e all in (
            here.over the_two.row_a (Memᴰ.tail (Memᴰ.head refl)),
            here.over the_two.row_b (Memᴰ.head refl),
            two_opposite count face u the_two.row_b the_two.row_a here (λ r w. (sym w, sym r)),
          )

  -- b's row is (u,v,w,b)
  pub b_last : (o : Row) × T (rearranged o the_two.row_b) × (numbers o ≡ up_a.q ∷ up_a.r ∷ up_a.s ∷ b_of face rows ∷ [])
  unfolding evenly
  b_last =
      let (over_a, over_b, ways) = both_over in
      let o = get_or (evenly up_b) 5 no_row in
      let even = even_trans o up_b the_two.row_b (even_i o up_b (at_in (evenly up_b) 5 no_row (omega arith))) over_b.even in
      let first = over_a.at_u ∙ sym over_b.at_u in
      let last = sym (over_b.at_apex ∙ the_two.apex_b) in
      (o, even, rw (first, sym ways.1, sym ways.0, last))
