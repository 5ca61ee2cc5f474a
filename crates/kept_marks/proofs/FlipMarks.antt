-- The 2-3 flip keeps the marks. The two rows that go are those of one triangle, the three that come are round an edge with a link along
-- each of its sides: so no face is met reversed, and the one face that goes is the triangle itself.
use Prim.Native.Nat.{ℕ}
use mathlib.Core.Bool.{false, not}
use mathlib.Core.List.Memᴰ
use mathlib.Core.List.{List, [], ◌∷◌, ◌++◌, Memᴰ}
use mathlib.Core.Logic.{◌⊎◌, inl, inr}
use mathlib.Core.Path.{◌≡◌, refl, sym, ap, ◌∙◌, subst}
use lib.Dec.{T, T_not}
use lib.ListN.{get_or}
use Rattle.lists.specs.Lists.{any}
use Rattle.lists.proofs.Lists.{any_i, any_e, every_at, every_i, those_e}
use Rattle.lists.proofs.Places.{in_cases}
use Rattle.rows.specs.declared.Row.{Row}
use Rattle.rows.specs.Labels.{no_marks}
use Rattle.rows.specs.Rows.{numbers, holds, holds_face}
use Rattle.rows.specs.Regions.{region_of}
use Rattle.rows.specs.Tetrahedra.{rearranged, arranged_from}
use Rattle.rows.proofs.EvenMoves.{holds_cases}
use Rattle.mesh.specs.Mesh.{Face, uses, uses_either_way, reversed, numbers_fit, keeps_mesh_rule, Proper}
use Rattle.mesh.proofs.TurnedFaces.{Turned, on, back, turned_sym, turned_trans}
use Rattle.mesh.proofs.TurnedFaces.{FaceOf, no_p, no_q, no_r, no_s, same_faces, uses_face, face_uses}
use Rattle.mesh.proofs.MeshRuleStated.{fit_proper, keeps_fits, keeps_hits}
use Rattle.mesh.proofs.EvenFaces.{even_uses, even_proper}
use Rattle.layout.specs.Layout.{Patch}
use Rattle.walk.specs.Walk.{smallest}
use Rattle.calls.specs.Flipping.{Pair, pair_of, three_rows, patch_after23}
use Rattle.marking.specs.Marking.{agree, mark_goes, new_mark}
use Rattle.kept_marks.specs.Replacing.{has_all, Apart, NoMarkGoes, MarksKept}
use Rattle.kept_marks.proofs.AgreementTested.{agree_stated}
use Rattle.kept_marks.proofs.DressedRows.{dress_keeps}
use Rattle.kept_marks.proofs.PartedTables.{those_parted, keeps_different}
use Rattle.kept_marks.proofs.MarksReplaced.{marks_kept}
use Rattle.kept_marks.proofs.NumbersOfFaces.{at_0, at_1, at_2, turned_in, reversed_in, either_holds, all_in, in_all, none_goes}
use Rattle.kept_marks.proofs.LinksAndSides.{plain_row, SideOf, first, second, third, EndsApart, against_a, against_b}

-- Two rows go, a's and b's: (a,u,v,w) and (u,v,w,b), evenly rearranged, where u, v, w are the numbers of the face.
pub record TwoGo (pair : Pair) (face : List ℕ) : Type 0 where
  pub row_a : Row
  pub row_b : Row
  pub order : (pair.removed ≡ row_a ∷ row_b ∷ []) ⊎ (pair.removed ≡ row_b ∷ row_a ∷ [])
  pub t : Row
  pub t_is : arranged_from pair.a (smallest face) pair.row_of_a ≡ t
  pub even_a : T (rearranged t row_a)
  pub at_a : t.p ≡ pair.a
  pub inside : {n : ℕ} → Memᴰ n face → Memᴰ n (t.q ∷ t.r ∷ t.s ∷ [])
  pub outside : {n : ℕ} → Memᴰ n (t.q ∷ t.r ∷ t.s ∷ []) → Memᴰ n face
  pub o : Row
  pub even_b : T (rearranged o row_b)
  pub b_numbers : numbers o ≡ t.q ∷ t.r ∷ t.s ∷ pair.b ∷ []
  pub ends : pair.a ≡ pair.b → ⊥

module _ (count : ℕ) (patch : Patch) (face : List ℕ) (rule : T (keeps_mesh_rule count patch.rows))
    (two : TwoGo (pair_of patch face) face) where
  abbrev pair : Pair
  pair = pair_of patch face

  abbrev u : ℕ
  u = two.t.q

  abbrev v : ℕ
  v = two.t.r

  abbrev w : ℕ
  w = two.t.s

  -- ---- the rows that go

  removed_cases : {P : Type 0} {row : Row} → Memᴰ row pair.removed → (row ≡ two.row_a → P) → (row ≡ two.row_b → P) → P
  removed_cases {P} {row} k f g = go two.order
    where
      either_of : (x y : Row) → pair.removed ≡ x ∷ y ∷ [] → (row ≡ x → P) → (row ≡ y → P) → P
      either_of x y e f g = in_cases (subst (Memᴰ row) e k) f λ k. in_cases k g λ k. absurd (Memᴰ.not-nil k)

      go : (pair.removed ≡ two.row_a ∷ two.row_b ∷ []) ⊎ (pair.removed ≡ two.row_b ∷ two.row_a ∷ []) → P
      go (inl e) = either_of two.row_a two.row_b e f g
      go (inr e) = either_of two.row_b two.row_a e g f

  both_in : Memᴰ two.row_a pair.removed × Memᴰ two.row_b pair.removed
  both_in = go two.order
    where
      go : (pair.removed ≡ two.row_a ∷ two.row_b ∷ []) ⊎ (pair.removed ≡ two.row_b ∷ two.row_a ∷ [])
          → Memᴰ two.row_a pair.removed × Memᴰ two.row_b pair.removed
      go (inl e) = rw e (Memᴰ.head refl, Memᴰ.tail (Memᴰ.head refl))
      go (inr e) = rw e (Memᴰ.tail (Memᴰ.head refl), Memᴰ.head refl)

  removed_proper : {row : Row} → Memᴰ row pair.removed → Proper count row
  unfolding pair_of
  removed_proper {row} k =
      let (k, h) = those_e (holds_face face) patch.rows k in
      fit_proper count row (every_at (numbers_fit count) patch.rows (keeps_fits count patch.rows rule) k)

  proper_a : Proper count two.t
  proper_a = even_proper count two.t two.row_a two.even_a (removed_proper both_in.0)

  proper_b : Proper count two.o
  proper_b = even_proper count two.o two.row_b two.even_b (removed_proper both_in.1)

  o_at : (i : ℕ) → get_or (numbers two.o) i 0 ≡ get_or (u ∷ v ∷ w ∷ pair.b ∷ []) i 0
  o_at i = ap (λ ns. get_or ns i 0) two.b_numbers

  apart : EndsApart pair.a pair.b u v w
  apart = record {
    ends = two.ends;
    a_x = λ e. proper_a.p_q (two.at_a ∙ e);
    a_y = λ e. proper_a.p_r (two.at_a ∙ e);
    a_z = λ e. proper_a.p_s (two.at_a ∙ e);
    b_x = λ e. proper_b.p_s (o_at 0 ∙ sym e ∙ sym (o_at 3));
    b_y = λ e. proper_b.q_s (o_at 1 ∙ sym e ∙ sym (o_at 3));
    b_z = λ e. proper_b.r_s (o_at 2 ∙ sym e ∙ sym (o_at 3));
  }

  -- they have the faces of (a,u,v,w) and of (u,v,w,b)
  removed_faces : (f : Face) {row : Row} → Memᴰ row pair.removed → T (uses f row)
      → FaceOf f (plain_row pair.a u v w) ⊎ FaceOf f (plain_row u v w pair.b)
  removed_faces f {row} k used =
      removed_cases k
      (λ e. inl (same_faces f _ two.t (sym two.at_a) refl refl refl
      (uses_face f two.t (rw (even_uses two.t two.row_a two.even_a f) (rw e at used)))))
      (λ e. inr (same_faces f _ two.o (sym (o_at 0)) (sym (o_at 1)) (sym (o_at 2)) (sym (o_at 3))
      (uses_face f two.o (rw (even_uses two.o two.row_b two.even_b f) (rw e at used)))))

  -- ---- the rows that come

  abbrev new : List Row
  new = three_rows pair face

  -- the row of the link from l to n
  abbrev link_row : ℕ → ℕ → Row
  link_row l n = record { p = pair.a; q = pair.b; r = l; s = n; region = region_of pair.removed; marks = no_marks }

  three_is : new ≡ link_row u v ∷ link_row v w ∷ link_row w u ∷ []
  unfolding three_rows
  three_is = rw two.t_is

  new_cases : {P : Type 0} {row : Row} → Memᴰ row new → ((l n : ℕ) → SideOf u v w l n → row ≡ link_row l n → P) → P
  new_cases {P} {row} k f =
      in_cases (subst (Memᴰ row) three_is k) (f u v (first refl refl))
      λ k. in_cases k (f v w (second refl refl)) λ k. in_cases k (f w u (third refl refl)) λ k. absurd (Memᴰ.not-nil k)

  side_used_lem : (f : Face) {l n : ℕ} → SideOf u v w l n → FaceOf f (plain_row pair.a pair.b l n) → T (any (uses f) new)
  side_used_lem f {l} {n} side h =
      any_i (uses f) new (subst (Memᴰ (link_row l n)) (sym three_is) (go side))
      (face_uses f (link_row l n) (same_faces f _ _ refl refl refl refl h))
    where
      go : SideOf u v w l n → Memᴰ (link_row l n) (link_row u v ∷ link_row v w ∷ link_row w u ∷ [])
      go (first d e) = rw (d, e) (Memᴰ.head refl)
      go (second d e) = rw (d, e) (Memᴰ.tail (Memᴰ.head refl))
      go (third d e) = rw (d, e) (Memᴰ.tail (Memᴰ.tail (Memᴰ.head refl)))

  -- no link runs along a side and against one
  one_way_round : {l n : ℕ} → SideOf u v w l n → SideOf u v w n l → ⊥
  one_way_round (first a b) (first c d) = proper_a.q_r (sym a ∙ d)
  one_way_round (first a b) (second c d) = proper_a.q_s (sym a ∙ d)
  one_way_round (first a b) (third c d) = proper_a.r_s (sym b ∙ c)
  one_way_round (second a b) (first c d) = proper_a.q_s (sym c ∙ b)
  one_way_round (second a b) (second c d) = proper_a.r_s (sym a ∙ d)
  one_way_round (second a b) (third c d) = proper_a.q_r (sym d ∙ a)
  one_way_round (third a b) (first c d) = proper_a.r_s (sym d ∙ a)
  one_way_round (third a b) (second c d) = proper_a.q_r (sym b ∙ c)
  one_way_round (third a b) (third c d) = proper_a.q_s (sym b ∙ c)

  -- a face of a row that goes is used by none that comes the other way round
  pub flip_apart : Apart pair.removed new
  flip_apart f old other =
      let (row, k, used) = any_e (uses f) pair.removed old in
      let (_, l, met) = any_e (uses (reversed f)) new other in
      new_cases l λ l n side e.
      go side (removed_faces f k used) (same_faces (reversed f) _ _ refl refl refl refl (uses_face (reversed f) _ (rw e at met)))
    where
      go : {l n : ℕ} → SideOf u v w l n → FaceOf f (plain_row pair.a u v w) ⊎ FaceOf f (plain_row u v w pair.b)
          → FaceOf (reversed f) (plain_row pair.a pair.b l n) → ⊥
      go side (inl h) met = against_a apart (one_way_round side) met h
      go side (inr h) met = against_b apart (one_way_round side) met h

  -- ---- the face that goes

  -- a face of a row that goes has the numbers of the given one, or a row that comes uses it
  pub flip_goes : (f : Face) (row : Row) → Memᴰ row pair.removed → T (uses f row) → T (has_all face f) ⊎ T (any (uses f) new)
  flip_goes f row k used = go (removed_faces f k used)
    where
      own : Turned f (u, v, w) → T (has_all face f)
      own e = in_all face f (λ n k. turned_in (turned_sym e) (two.inside k))

      own_back : Turned f (u, w, v) → T (has_all face f)
      own_back e = in_all face f (λ n k. turned_in (turned_sym e) (reversed_in (two.inside k)))

      go : FaceOf f (plain_row pair.a u v w) ⊎ FaceOf f (plain_row u v w pair.b) → T (has_all face f) ⊎ T (any (uses f) new)
      go (inl (no_p e)) = inl (own e)
      go (inl (no_q e)) = inr (side_used_lem f (second refl refl) (no_q e))
      go (inl (no_r e)) = inr (side_used_lem f (third refl refl) (no_q e))
      go (inl (no_s e)) = inr (side_used_lem f (first refl refl) (no_q e))
      go (inr (no_p e)) = inr (side_used_lem f (second refl refl) (no_p (turned_trans e on)))
      go (inr (no_q e)) = inr (side_used_lem f (third refl refl) (no_p (turned_trans e back)))
      go (inr (no_r e)) = inr (side_used_lem f (first refl refl) (no_p (turned_trans e on)))
      go (inr (no_s e)) = inl (own_back e)

  -- a row that comes lacks one of its numbers
  new_lacks : {l n : ℕ} → SideOf u v w l n → ((k : ℕ) → Memᴰ k face → T (holds (link_row l n) k)) → ⊥
  new_lacks {l} {n} (first d e) h =
      holds_cases (link_row l n) w (h w (two.outside (at_2 refl))) (λ i. apart.a_z (sym i)) (λ i. apart.b_z (sym i))
      (λ i. proper_a.q_s (sym (i ∙ d))) (λ i. proper_a.r_s (sym (i ∙ e)))
  new_lacks {l} {n} (second d e) h =
      holds_cases (link_row l n) u (h u (two.outside (at_0 refl))) (λ i. apart.a_x (sym i)) (λ i. apart.b_x (sym i))
      (λ i. proper_a.q_r (i ∙ d)) (λ i. proper_a.q_s (i ∙ e))
  new_lacks {l} {n} (third d e) h =
      holds_cases (link_row l n) v (h v (two.outside (at_1 refl))) (λ i. apart.a_y (sym i)) (λ i. apart.b_y (sym i))
      (λ i. proper_a.r_s (i ∙ d)) (λ i. proper_a.q_r (sym (i ∙ e)))

  -- so the given face is in no row afterwards
  pub flip_gone : (f : Face) → T (has_all face f) → T (any (uses_either_way f) (pair.kept ++ new)) → ⊥
  unfolding pair_of
  flip_gone f all h =
      let (row, k, used) = any_e (uses_either_way f) (pair.kept ++ new) h in
      go (Memᴰ.append_cases pair.kept k) (λ n k. either_holds f row used (all_in face f all k))
    where
      go : {row : Row} → Memᴰ row pair.kept ⊎ Memᴰ row new → ((n : ℕ) → Memᴰ n face → T (holds row n)) → ⊥
      go {row} (inl k) held =
          T_not (holds_face face row) (those_e (λ row. not (holds_face face row)) patch.rows k).1 (every_i (holds row) face held)
      go {row} (inr k) held = new_cases k λ l n side e. new_lacks side (λ n k. subst (λ row. T (holds row n)) e (held n k))

  -- where 23 is not given no marked face goes
  pub flip_stays : mark_goes face pair.removed ≡ false → NoMarkGoes pair.removed (pair.kept ++ new)
  flip_stays clear = none_goes face pair.removed pair.kept new flip_goes clear

  -- ---- the flip

  pub flip_marks : T (agree patch.rows) → T (keeps_mesh_rule count (patch_after23 patch face).rows)
      → mark_goes face (pair_of patch face).removed ≡ false → MarksKept patch.rows (patch_after23 patch face).rows
  unfolding pair_of patch_after23
  flip_marks agrees keeps clear =
      let plain = subst T (dress_keeps (new_mark pair.removed pair.kept) count pair.kept new) keeps in
      marks_kept patch.rows pair.removed pair.kept new (those_parted (holds_face face) patch.rows)
      (keeps_hits count patch.rows rule) (agree_stated patch.rows agrees)
      (keeps_hits count (pair.kept ++ new) plain) flip_apart (flip_stays clear) (keeps_different count (pair.kept ++ new) plain)
