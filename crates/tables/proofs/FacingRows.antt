-- The two rows of a 2-3 flip that is not refused, and its three new rows: the total D stays by the identity of five points.
use Prim.Native.Nat.{ℕ, ◌<◌}
use mathlib.Core.Bool.{false, ◌&&◌}
use mathlib.Core.List.Memᴰ
use mathlib.Core.List.{List, [], ◌∷◌, Memᴰ}
use mathlib.Core.Logic.{◌⊎◌, inl, inr}
use mathlib.Core.Path.{◌≡◌, refl, sym, ap, ◌∙◌, subst}
use native.Mathlib.Omega.{arith}
use borrow.Author.Tests.{not-false}
use lib.Dec.{T, ltb}
use lib.IntN.{ℤ, pos, ◌+ℤ◌, +ℤ_idr, +ℤ_assoc, +ℤ_comm}
use lib.ListN.{length, get_or}
use Rattle.lists.specs.Lists.{every, those, different}
use Rattle.lists.proofs.Tests.{and_r, is_yes}
use Rattle.lists.proofs.Lists.{every_at, those_e}
use Rattle.lists.proofs.Counts.{count_split}
use Rattle.lists.proofs.Places.{in_cases}
use Rattle.volume.specs.declared.Point.{Point}
use Rattle.volume.specs.Volume.{D}
use Rattle.volume.proofs.VolumeIdentities.{five_points}
use Rattle.rows.specs.declared.Row.{Row}
use Rattle.mesh.specs.Mesh.{uses, numbers_fit, keeps_mesh_rule}
use Rattle.rows.specs.RowMeasure.{place, row_d, total_d}
use Rattle.rows.specs.Rows.{numbers, holds_face}
use Rattle.rows.specs.Tetrahedra.{rearranged, arranged_from}
use Rattle.rows.proofs.EvenMeasure.{even_D, total_split, total_append}
use Rattle.mesh.proofs.MeshRuleStated.{keeps_fits, keeps_hits}
use Rattle.layout.specs.Layout.{Patch}
use Rattle.walk.specs.Walk.{smallest}
use Rattle.ring.specs.Ring.{numbers_wrong}
use Rattle.walk.proofs.TheSmallest.{smallest_in}
use Rattle.calls.specs.Flipping.{Pair, pair_of, three_rows, patch_after23}
use Rattle.marking.specs.Marking.{new_mark}
use Rattle.kept_marks.proofs.DressedRows.{dress_total}
use Rattle.kept_marks.proofs.FlipMarks.{TwoGo}
use Rattle.tables.proofs.RowsOverAFace.{Over, AllOver, row_over, the_two, both_over, b_last, up_a}

-- With t = (a,u,v,w) an even arrangement of a's row, o = (u,v,w,b) is one of b's row.
pub record Facing (count : ℕ) (pair : Pair) (face : List ℕ) : Type 0 where
  pub row_a : Row
  pub row_b : Row
  pub order : (pair.removed ≡ row_a ∷ row_b ∷ []) ⊎ (pair.removed ≡ row_b ∷ row_a ∷ [])
  pub t : Row
  pub t_is : arranged_from pair.a (smallest face) pair.row_of_a ≡ t
  pub a_row_fact : Over count face (smallest face) row_a t
  pub at_a : t.p ≡ pair.a
  pub less : pair.a < pair.b
  pub o : Row
  pub b_row_fact : T (rearranged o row_b)
  pub b_numbers : numbers o ≡ t.q ∷ t.r ∷ t.s ∷ pair.b ∷ []

-- both stand among the rows that go
pub both_in : {count : ℕ} {pair : Pair} {face : List ℕ} (f : Facing count pair face)
    → Memᴰ f.row_a pair.removed × Memᴰ f.row_b pair.removed
both_in {pair = pair} f = go f.order
  where
    go : (pair.removed ≡ f.row_a ∷ f.row_b ∷ []) ⊎ (pair.removed ≡ f.row_b ∷ f.row_a ∷ [])
        → Memᴰ f.row_a pair.removed × Memᴰ f.row_b pair.removed
    go (inl e) = rw e (Memᴰ.head refl, Memᴰ.tail (Memᴰ.head refl))
    go (inr e) = rw e (Memᴰ.tail (Memᴰ.head refl), Memᴰ.head refl)

-- one of them that is not b's is a's
pub row_of_a_lem : {count : ℕ} {pair : Pair} {face : List ℕ} (f : Facing count pair face) {row : Row}
    → Memᴰ row pair.removed → (row ≡ f.row_b → ⊥) → row ≡ f.row_a
row_of_a_lem {pair = pair} f {row} k not_b = go f.order
  where
    go : (pair.removed ≡ f.row_a ∷ f.row_b ∷ []) ⊎ (pair.removed ≡ f.row_b ∷ f.row_a ∷ []) → row ≡ f.row_a
    go (inl e) =
        in_cases (subst (Memᴰ row) e k) (λ q. q) λ k. in_cases k (λ q. absurd (not_b q)) (λ k. absurd (Memᴰ.not-nil k))
    go (inr e) =
        in_cases (subst (Memᴰ row) e k) (λ q. absurd (not_b q)) λ k. in_cases k (λ q. q) (λ k. absurd (Memᴰ.not-nil k))

-- answer 9 not given: the numbers are all different
pub face_apart : (count : ℕ) (face : List ℕ) → numbers_wrong count face ≡ false → T (different face)
unfolding numbers_wrong
face_apart count face h =
    let low = every (λ n. ltb n count) face in
    and_r low (different face) (is_yes (low && different face) (not-false (low && different face) h))

module _ (count : ℕ) (patch : Patch) (face : List ℕ) (three : length face ≡ 3) (apart : T (different face))
    (rule : T (keeps_mesh_rule count patch.rows)) where
  abbrev rows : List Row
  rows = those (holds_face face) patch.rows

  pub all_over : AllOver count face (smallest face) rows
  all_over = record {
    over = λ row k.
        let (k, h) = those_e (holds_face face) patch.rows k in
        row_over count face three apart row (every_at (numbers_fit count) patch.rows (keeps_fits count patch.rows rule) k) h
        (smallest face) (smallest_in face (omega arith));
    once = λ f. omega (arith, keeps_hits count patch.rows rule f, count_split (uses f) (holds_face face) patch.rows);
  }

  pub two_facing : (length (pair_of patch face).removed ≡ 0 → ⊥) → (length (pair_of patch face).removed ≡ 1 → ⊥)
      → ((pair_of patch face).a ≡ (pair_of patch face).b → ⊥) → Facing count (pair_of patch face) face
  unfolding pair_of
  two_facing none one ends =
      let two = the_two count face rows all_over none one ends in
      let both = both_over count face rows all_over none one ends in
      let last = b_last count face rows all_over none one ends in
      record {
        row_a = two.row_a;
        row_b = two.row_b;
        order = two.order;
        t = up_a count face rows all_over none one ends;
        t_is = rw (two.the_row, ← two.apex_a);
        a_row_fact = both.0;
        at_a = both.0.at_apex ∙ two.apex_a;
        less = two.less;
        o = last.0;
        b_row_fact = last.1;
        b_numbers = last.2;
      }

-- so these two go, as the law of the marks asks for them
pub facing_go : {count : ℕ} {pair : Pair} {face : List ℕ} → Facing count pair face → TwoGo pair face
facing_go f = record {
  row_a = f.row_a;
  row_b = f.row_b;
  order = f.order;
  t = f.t;
  t_is = f.t_is;
  even_a = f.a_row_fact.even;
  at_a = f.at_a;
  inside = f.a_row_fact.inside;
  outside = f.a_row_fact.outside;
  o = f.o;
  even_b = f.b_row_fact;
  b_numbers = f.b_numbers;
  ends = λ e. omega (arith, f.less);
}

-- ---- the total D

three_sum : (x y z : ℤ) → x +ℤ (y +ℤ (z +ℤ pos 0)) ≡ x +ℤ y +ℤ z
three_sum x y z = ap (λ s. x +ℤ (y +ℤ s)) (+ℤ_idr z) ∙ sym (+ℤ_assoc x y z)

module _ (points : List Point) where
  -- D goes by the numbers alone
  rowD_of : {p q r s : ℕ} (row : Row) → numbers row ≡ p ∷ q ∷ r ∷ s ∷ []
      → row_d points row ≡ D (place points p) (place points q) (place points r) (place points s)
  unfolding row_d
  rowD_of row e = ap (λ ns. let at : ℕ → Point = λ i. place points (get_or ns i 0) in D (at 0) (at 1) (at 2) (at 3)) e

  two_total : (x y : Row) → total_d points (x ∷ y ∷ []) ≡ row_d points x +ℤ row_d points y
  unfolding total_d
  two_total x y = ap (λ z. row_d points x +ℤ z) (+ℤ_idr (row_d points y))

  module _ {count : ℕ} {pair : Pair} {face : List ℕ} (f : Facing count pair face) where
    removed_total : total_d points pair.removed ≡ row_d points f.row_a +ℤ row_d points f.row_b
    removed_total = go f.order
      where
        go : (pair.removed ≡ f.row_a ∷ f.row_b ∷ []) ⊎ (pair.removed ≡ f.row_b ∷ f.row_a ∷ [])
            → total_d points pair.removed ≡ row_d points f.row_a +ℤ row_d points f.row_b
        go (inl e) = ap (total_d points) e ∙ two_total f.row_a f.row_b
        go (inr e) = ap (total_d points) e ∙ two_total f.row_b f.row_a ∙ +ℤ_comm (row_d points f.row_b) (row_d points f.row_a)

    -- the three rows fill what the two fill
    pub three_total : total_d points (three_rows pair face) ≡ total_d points pair.removed
    unfolding three_rows total_d row_d
    three_total =
        let at = place points in
        let t = f.t in
        let a = at pair.a in
        let b = at pair.b in
        let u = at t.q in
        let v = at t.r in
        let w = at t.s in
        let o = f.o in
        rw f.t_is
        (three_sum (D a b u v) (D a b v w) (D a b w u)
        ∙ five_points a b u v w
        ∙ ap (λ n. D (at n) u v w +ℤ D u v w b) (sym f.at_a)
        ∙ ap (λ z. row_d points t +ℤ z) (sym (rowD_of o f.b_numbers))
        ∙ ap (λ z. z +ℤ row_d points o) (even_D points t f.row_a f.a_row_fact.even)
        ∙ ap (λ z. row_d points f.row_a +ℤ z) (even_D points o f.row_b f.b_row_fact)
        ∙ sym removed_total)

-- so the whole table keeps its total
pub flipped_total : {count : ℕ} (patch : Patch) (face : List ℕ) → Facing count (pair_of patch face) face
    → total_d patch.points (patch_after23 patch face).rows ≡ total_d patch.points patch.rows
unfolding patch_after23 pair_of
flipped_total patch face f =
    let pair = pair_of patch face in
    dress_total (new_mark pair.removed pair.kept) patch.points pair.kept (three_rows pair face)
    ∙ total_append patch.points pair.kept (three_rows pair face)
    ∙ ap (λ z. total_d patch.points pair.kept +ℤ z) (three_total patch.points f)
    ∙ +ℤ_comm (total_d patch.points pair.kept) (total_d patch.points pair.removed)
    ∙ total_split patch.points (holds_face face) patch.rows
