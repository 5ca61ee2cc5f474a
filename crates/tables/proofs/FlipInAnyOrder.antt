-- Two tables of the same tetrahedra, in another order of rows and evenly rearranged: a 2-3 flip of both has the same tests and the same
-- three rows. A row's apex is the one number that the face has not, and a's row, evenly rearranged, gives the same v, w.
use Prim.Native.Nat.{ℕ}
use mathlib.Core.Bool.{Bool, true, false, not}
use mathlib.Core.List.Memᴰ
use mathlib.Core.List.{List, [], ◌∷◌, ◌++◌, map, Memᴰ}
use mathlib.Core.Path.{◌≡◌, refl, sym, ap, ◌∙◌, subst}
use native.Mathlib.Omega.{arith}
use borrow.Author.Tests.{eqb-false}
use lib.Dec.{T, ltb}
use lib.ListN.{length, length-append}
use Rattle.lists.specs.Lists.{different, every}
use Rattle.lists.proofs.Numbers.{has_i, has_e, most_same}
use Rattle.lists.proofs.Lists.{every_same}
use Rattle.lists.proofs.Places.{in_cases}
use Rattle.volume.specs.declared.Point.{Point}
use Rattle.rows.specs.declared.Row.{Row}
use Rattle.rows.specs.Rows.{numbers, holds, holds_face}
use Rattle.mesh.specs.Mesh.{keeps_mesh_rule}
use Rattle.rows.specs.Tetrahedra.{rearranged, SameTetrahedra}
use Rattle.mesh.proofs.TablesAlike.{same_keeps, same_append}
use Rattle.rows.proofs.EvenMoves.{even_holds}
use Rattle.mesh.proofs.EvenFaces.{even_proper}
use Rattle.rows.proofs.EvenGroup.{even_trans, even_sym}
use Rattle.layout.specs.Layout.{max_rows, Patch}
use Rattle.answers.specs.Answers.{Tests, first_refusal}
use Rattle.answers.proofs.Refusals.{refuses}
use Rattle.answers.proofs.ByNumber.{before, same_behind, test_of, passes}
use Rattle.links.specs.Links.{Link, link}
use Rattle.ring.specs.Ring.{numbers_wrong}
use Rattle.links.proofs.LinksUnderRule.{link_is}
use Rattle.walk.proofs.TheSmallest.{smallest_same}
use Rattle.links.proofs.SameLinks.{row_across}
use Rattle.triangulation.proofs.AcrossTables.{those_across, length_across, mixed_across, region_across}
use Rattle.calls.specs.Flipping.{apex_over, Pair, pair_of, three_rows, three_made, patch_after23, flip23_tests}
use Rattle.tables.proofs.MarksAcrossTables.{goes_across, new_mark_across}
use Rattle.tables.proofs.RowsOverAFace.{Over}
use Rattle.tables.proofs.FacingRows.{Facing, both_in, row_of_a_lem, face_apart, all_over, two_facing}
use Rattle.tables.proofs.SameTables.{SameTables, other_way}

-- the apex of a row over a face is that of the row, evenly rearranged
apex_even : {count its : ℕ} {face : List ℕ} {u : ℕ} {row other t s : Row} → Over count face u row t → Over its face u other s
    → T (rearranged row other) → apex_over face row ≡ apex_over face other
apex_even {count} {its} {face} {u} {row} {other} {t} {s} one two even =
    let held = subst T (even_holds t row one.even t.p) (has_i (numbers t) (Memᴰ.head refl)) in
    let there = subst T (sym (even_holds s other two.even t.p)) (subst T (even_holds row other even t.p) held) in
    in_cases (has_e (numbers s) t.p there)
    (λ e. sym one.at_apex ∙ e ∙ two.at_apex)
    (λ k.
    in_cases (one.inside (two.outside k)) (λ e. absurd (one.proper.p_q e))
    λ k. in_cases k (λ e. absurd (one.proper.p_r e)) λ k. in_cases k (λ e. absurd (one.proper.p_s e)) λ k. absurd (Memᴰ.not-nil k))

-- ---- the rows that hold the face

module _ (patch other : Patch) (x y z : ℕ) (same : SameTables patch other) where
  abbrev face : List ℕ
  face = x ∷ y ∷ z ∷ []

  abbrev left : Pair
  left = pair_of patch face

  abbrev right : Pair
  right = pair_of other face

  abbrev count_left : ℕ
  count_left = length patch.points

  abbrev count_right : ℕ
  count_right = length other.points

  face_even : (t u : Row) → T (rearranged t u) → holds_face face t ≡ holds_face face u
  face_even t u even = every_same (holds t) (holds u) face (λ n k. even_holds t u even n)

  removed_same : SameTetrahedra left.removed right.removed
  unfolding pair_of
  removed_same = those_across (holds_face face) face_even patch.rows other.rows same.tetrahedra

  pub kept_same : SameTetrahedra left.kept right.kept
  unfolding pair_of
  kept_same =
      those_across (λ row. not (holds_face face row)) (λ t u even. ap not (face_even t u even))
      patch.rows other.rows same.tetrahedra

  wrong_same : numbers_wrong count_left face ≡ numbers_wrong count_right face
  wrong_same = ap (λ (points : List Point). numbers_wrong (length points) face) same.points

  -- the same apexes
  apexes_to : T (different face) → (n : ℕ) → Memᴰ n (map (apex_over face) left.removed)
      → Memᴰ n (map (apex_over face) right.removed)
  unfolding pair_of
  apexes_to apart n k =
      let (row, i, e) = Memᴰ.of_map (apex_over face) left.removed k in
      let (u, j, even) = row_across left.removed right.removed row removed_same i in
      let one = (all_over count_left patch face refl apart same.rule).over row i in
      let two = (all_over count_right other face refl apart same.other_rule).over u j in
      subst (λ n. Memᴰ n (map (apex_over face) right.removed)) (sym (apex_even one two even) ∙ e) (Memᴰ.map (apex_over face) j)

-- ---- the same apexes, and the same three rows

module _ (patch other : Patch) (x y z : ℕ) (same : SameTables patch other) where
  abbrev list : List ℕ
  list = x ∷ y ∷ z ∷ []

  abbrev here : Pair
  here = pair_of patch list

  abbrev there : Pair
  there = pair_of other list

  module _ (apart : T (different list)) where
    a_same : here.a ≡ there.a
    unfolding pair_of
    a_same =
        smallest_same (map (apex_over list) here.removed) (map (apex_over list) there.removed)
        (apexes_to patch other x y z same apart) (apexes_to other patch x y z (other_way same) apart)

    b_same : here.b ≡ there.b
    unfolding pair_of
    b_same =
        most_same (map (apex_over list) here.removed) (map (apex_over list) there.removed)
        (apexes_to patch other x y z same apart) (apexes_to other patch x y z (other_way same) apart)

    module _ (f : Facing (length patch.points) here list) (g : Facing (length other.points) there list) where
      -- b's row does not hold a
      not_b : T (holds g.row_b here.a) → ⊥
      not_b h =
          let a : here.a ≡ g.t.p = a_same ∙ sym g.at_a in
          let held = has_e (numbers g.o) here.a (subst T (sym (even_holds g.o g.row_b g.b_row_fact here.a)) h) in
          in_cases (subst (Memᴰ here.a) g.b_numbers held)
          (λ e. g.a_row_fact.proper.p_q (sym a ∙ e))
          λ k. in_cases k (λ e. g.a_row_fact.proper.p_r (sym a ∙ e))
          λ k. in_cases k (λ e. g.a_row_fact.proper.p_s (sym a ∙ e))
          λ k. in_cases k (λ e. omega (arith, g.less, a_same)) Memᴰ.not-nil

      -- a row that holds a is a's
      is_a : (row : Row) → Memᴰ row there.removed → T (holds row here.a) → row ≡ g.row_a
      is_a row k h = row_of_a_lem g k (λ q. not_b (subst (λ (row : Row). T (holds row here.a)) q h))

      -- a's rows are one tetrahedron
      a_even : T (rearranged f.t g.row_a)
      a_even =
          let (u, k, even) = row_across here.removed there.removed f.row_a (removed_same patch other x y z same) (both_in f).0 in
          let up = even_trans f.t f.row_a u f.a_row_fact.even even in
          let held = subst T (even_holds f.t u up here.a) (has_i (numbers f.t) (Memᴰ.head (sym f.at_a))) in
          subst (λ (row : Row). T (rearranged f.t row)) (is_a u k held) up

      -- so v and w are the same
      ends_same : ◌≡◌ {A = Link} (f.t.r, f.t.s) (g.t.r, g.t.s)
      ends_same =
          let proper = even_proper _ g.row_a g.t (even_sym g.t g.row_a g.a_row_fact.even) g.a_row_fact.proper in
          sym (link_is g.row_a f.t proper a_even)
          ∙ ap (λ n. link n f.t.q g.row_a) (f.at_a ∙ a_same ∙ sym g.at_a)
          ∙ ap (λ n. link g.t.p n g.row_a) (f.a_row_fact.at_u ∙ sym g.a_row_fact.at_u)
          ∙ link_is g.row_a g.t proper g.a_row_fact.even

      plain_same : three_rows here list ≡ three_rows there list
      unfolding three_rows
      plain_same =
          let q : f.t.q ≡ g.t.q = f.a_row_fact.at_u ∙ sym g.a_row_fact.at_u in
          let r = ap (λ (l : Link). l.0) ends_same in
          let s = ap (λ (l : Link). l.1) ends_same in
          let region = region_across here.removed there.removed (removed_same patch other x y z same) in
          rw (f.t_is, g.t_is, a_same, b_same, q, r, s, region)

      -- with the same marks
      pub three_same : three_made here list ≡ three_made there list
      three_same =
          let marked = new_mark_across here.removed here.kept there.removed there.kept
          (removed_same patch other x y z same) (kept_same patch other x y z same) in
          rw (marked, plain_same)

      -- 14 and 15

      after_keeps : keeps_mesh_rule (length patch.points) (patch_after23 patch list).rows
          ≡ keeps_mesh_rule (length other.points) (patch_after23 other list).rows
      unfolding patch_after23
      after_keeps =
          let count = length patch.points in
          let new = three_made there list in
          ap (λ rows. keeps_mesh_rule count (here.kept ++ rows)) three_same
          ∙ same_keeps count (here.kept ++ new) (there.kept ++ new)
          (same_append here.kept there.kept new new (kept_same patch other x y z same) (λ row. refl))
          ∙ ap (λ (points : List Point). keeps_mesh_rule (length points) (there.kept ++ new)) same.points

    after_length : length (patch_after23 patch list).rows ≡ length (patch_after23 other list).rows
    unfolding patch_after23 three_rows
    after_length =
        omega (
          arith,
          length-append here.kept (three_made here list),
          length-append there.kept (three_made there list),
          length_across here.kept there.kept (kept_same patch other x y z same),
        )

  -- ---- the answers

  -- 9 to 11, 18, 20 and 23
  before_same : T (different list) → before 14 (flip23_tests patch list) ≡ before 14 (flip23_tests other list)
  unfolding before flip23_tests
  before_same apart =
      let gone = removed_same patch other x y z same in
      let size = length_across here.removed there.removed gone in
      rw (
        wrong_same patch other x y z same,
        size,
        a_same apart,
        b_same apart,
        mixed_across here.removed there.removed gone,
        goes_across list here.removed there.removed gone,
      )

  -- where they are passed, the two rows face each other in both tables
  pub both_face : T (different list) → (length here.removed ≡ 0 → ⊥) → (length here.removed ≡ 1 → ⊥) → (here.a ≡ here.b → ⊥)
      → Facing (length patch.points) here list × Facing (length other.points) there list
  both_face apart none one ends =
      let size = length_across here.removed there.removed (removed_same patch other x y z same) in
      let a = a_same apart in
      let b = b_same apart in (
        two_facing (length patch.points) patch list refl apart same.rule none one ends,
        two_facing (length other.points) other list refl apart same.other_rule
            (λ e. none (size ∙ e)) (λ e. one (size ∙ e)) (λ e. ends (a ∙ e ∙ sym b)),
      )

  pub tests_same : first_refusal (flip23_tests patch list) ≡ first_refusal (flip23_tests other list)
  unfolding flip23_tests test_of before every
  tests_same = go (numbers_wrong (length patch.points) list) refl
    where
      last : Patch → Tests
      last its =
          (14, ltb max_rows (length (patch_after23 its list).rows))
          ∷ (15, not (keeps_mesh_rule (length its.points) (patch_after23 its list).rows)) ∷ []

      go : (b : Bool) → numbers_wrong (length patch.points) list ≡ b
          → first_refusal (flip23_tests patch list) ≡ first_refusal (flip23_tests other list)
      go true h = refuses 9 _ _ h ∙ sym (refuses 9 _ _ (sym (wrong_same patch other x y z same) ∙ h))
      go false h =
          let apart = face_apart (length patch.points) list h in
          same_behind (before 14 (flip23_tests patch list)) (last patch) (last other)
          (λ passed.
          let front = before 14 (flip23_tests patch list) in
          let (f, g) = both_face apart (eqb-false _ _ (passes 10 front tt passed)) (eqb-false _ _ (passes 11 front tt passed))
          (eqb-false _ _ (passes 18 front tt passed)) in
          rw (after_length apart, after_keeps apart f g))
          ∙ ap (λ (tests : Tests). first_refusal (tests ++ last other)) (before_same apart)
