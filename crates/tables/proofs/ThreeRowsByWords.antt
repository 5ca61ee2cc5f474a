-- The three new rows of a 2-3 flip by words: where a's row reads (a,u,v,w), with u the smallest number of the face, they are (a,b,u,v),
-- (a,b,v,w) and (a,b,w,u). One row only has the face and a, and it reads in one way from a and u.
use Prim.Native.Nat.{ℕ, ◌<◌}
use mathlib.Core.List.{List, [], ◌∷◌, Memᴰ}
use mathlib.Core.Path.{◌≡◌, refl, sym, ap, ◌∙◌, subst}
use native.Mathlib.Omega.{arith}
use lib.Dec.{T}
use lib.ListN.{length, get_or}
use Rattle.lists.specs.Lists.{has, different}
use Rattle.lists.proofs.Lists.{every_at, every_i, any_i, any_e, those_i, those_e}
use Rattle.lists.proofs.Numbers.{has_i, has_e, no_fewer, different_head}
use Rattle.rows.specs.declared.Row.{Row}
use Rattle.rows.specs.Rows.{numbers, holds, holds_face}
use Rattle.mesh.specs.Mesh.{Proper}
use Rattle.rows.specs.Tetrahedra.{rearranged}
use Rattle.rows.proofs.EvenMoves.{even_holds}
use Rattle.mesh.proofs.EvenFaces.{even_proper}
use Rattle.layout.specs.Layout.{Patch}
use Rattle.links.specs.Links.{Link, link}
use Rattle.links.proofs.LinksUnderRule.{link_is}
use Rattle.walk.proofs.TheSmallest.{smallest_is, smallest_le}
use Rattle.marking.specs.Marking.{dressed}
use Rattle.calls.specs.Flipping.{apex_over, Pair, pair_of, three_rows, three_made}
use Rattle.tables.specs.RoundAnEdge.{reads}
use Rattle.tables.specs.FlipRows.{Apexes, KeepsRule, ReadFrom, new23, made23}
use Rattle.tables.proofs.RowsAndLinks.{read_e, read_i, row_proper}
use Rattle.tables.proofs.ThreeNumbers.{apart_three}
use Rattle.tables.proofs.FacingRows.{Facing, both_in, row_of_a_lem, two_facing}
use Rattle.tables.proofs.ApexesByWords.{apex_is, apex_b, TwoApexes, face_different, two_apexes}

module _ (patch : Patch) (x y z a b : ℕ) (rule : KeepsRule patch patch.rows) (apexes : Apexes patch.rows x y z a b)
    (smaller : a < b) where
  abbrev points : ℕ
  points = length patch.points

  abbrev face : List ℕ
  face = x ∷ y ∷ z ∷ []

  abbrev pair : Pair
  pair = pair_of patch face

  apart : T (different face)
  apart = face_different patch x y z a b rule apexes

  two : TwoApexes patch face a b
  two = two_apexes patch x y z a b rule apexes

  a_is : pair.a ≡ a
  a_is = omega (arith, two.low)

  b_is : pair.b ≡ b
  b_is = omega (arith, two.high)

  faces : Facing points pair face
  faces =
      two_facing points patch face refl apart rule (λ e. omega (arith, two.two)) (λ e. omega (arith, two.two))
      (λ e. omega (arith, a_is, b_is))

  -- a's row reads so, in one order of the face
  pub reads_so : (u v w : ℕ) × ReadFrom patch.rows x y z a u v w
  unfolding pair_of
  reads_so =
      let t = faces.t in
      let over = faces.a_row_fact in (
        t.q,
        t.r,
        t.s,
        record {
          row =
              any_i (reads a t.q t.r t.s) patch.rows (those_e (holds_face face) patch.rows (both_in faces).0).0
              (read_i a t.q t.r t.s faces.row_a t over.even (faces.at_a ∙ a_is) refl refl refl);
          of_face = every_i (has face) (t.q ∷ t.r ∷ t.s ∷ []) (λ n k. has_i face (over.outside k));
          smallest = λ n k. rw over.at_u (smallest_le face k);
        },
      )

  module _ (u v w : ℕ) (read : ReadFrom patch.rows x y z a u v w) where
    -- the row that reads (a,u,v,w)
    found : (row : Row) × Memᴰ row patch.rows × (t : Row) × T (rearranged t row) × (numbers t ≡ a ∷ u ∷ v ∷ w ∷ [])
    found =
        let (row, k, h) = any_e (reads a u v w) patch.rows read.row in
        let (t, even, p, q, r, s) = read_e a u v w row h in
        (row, k, t, even, rw (p, q, r, s))

    module _ (row : Row) (in_rows : Memᴰ row patch.rows) (arranged : Row) (even : T (rearranged arranged row))
        (its-numbers : numbers arranged ≡ a ∷ u ∷ v ∷ w ∷ []) where
      at : (i : ℕ) → get_or (numbers arranged) i 0 ≡ get_or (a ∷ u ∷ v ∷ w ∷ []) i 0
      at i = ap (λ ns. get_or ns i 0) its-numbers

      proper : Proper points row
      proper = row_proper a u points patch.rows rule in_rows

      held : (n : ℕ) → Memᴰ n (a ∷ u ∷ v ∷ w ∷ []) → T (holds row n)
      held n k = subst T (even_holds arranged row even n) (has_i (numbers arranged) (subst (Memᴰ n) (sym its-numbers) k))

      holds_face_lem : T (holds_face face row)
      holds_face_lem =
          let its = even_proper points arranged row even proper in
          let three = apart_three u v w (record {
            xy = λ e. its.q_r (at 1 ∙ e ∙ sym (at 2));
            xz = λ e. its.q_s (at 1 ∙ e ∙ sym (at 3));
            yz = λ e. its.r_s (at 2 ∙ e ∙ sym (at 3));
          }) in
          every_i (holds row) face (λ n k.
          held n (Memᴰ.tail (no_fewer (u ∷ v ∷ w ∷ []) face three
          (λ n i. has_e face n (every_at (has face) (u ∷ v ∷ w ∷ []) read.of_face i)) (omega arith) k)))

      removed : Memᴰ row pair.removed
      unfolding pair_of
      removed = those_i (holds_face face) patch.rows in_rows holds_face_lem

      apex : apex_over face row ≡ a
      unfolding pair_of
      apex =
          apex_is patch x y z rule apart removed (held a (Memᴰ.head refl))
          (λ k. different_head a (b ∷ face) apexes.apart (Memᴰ.tail k) refl)

      -- it is a's row: the other has b for its apex
      is_a : row ≡ faces.row_a
      is_a = row_of_a_lem faces removed (λ q. omega (arith, b_is, apex, ap (apex_over face) q, apex_b patch x y z rule apart faces))

      first_is : faces.t.q ≡ u
      first_is =
          let u-in = has_e face u (every_at (has face) (u ∷ v ∷ w ∷ []) read.of_face (Memᴰ.head refl)) in
          faces.a_row_fact.at_u ∙ sym (smallest_is face u u-in read.smallest)

      ends_are : ◌≡◌ {A = Link} (faces.t.r, faces.t.s) (v, w)
      ends_are =
          let even_a = subst (λ (row : Row). T (rearranged faces.t row)) (sym is_a) faces.a_row_fact.even in
          sym (link_is row faces.t proper even_a)
          ∙ ap (λ n. link n faces.t.q row) (faces.at_a ∙ a_is ∙ sym (at 0))
          ∙ ap (λ n. link arranged.p n row) (first_is ∙ sym (at 1))
          ∙ link_is row arranged proper even
          ∙ rw (at 2, at 3)

      new_by_lem : three_rows pair face ≡ new23 patch.rows face a b u v w
      unfolding three_rows pair_of
      new_by_lem =
          let r = ap (λ (l : Link). l.0) ends_are in
          let s = ap (λ (l : Link). l.1) ends_are in
          rw (faces.t_is, a_is, b_is, first_is, r, s)

    plain_is : three_rows pair face ≡ new23 patch.rows face a b u v w
    plain_is = let (row, k, t, even, its) = found in new_by_lem row k t even its

    -- the new rows with their marks, by the flip's search and by words
    pub new_is : three_made pair face ≡ made23 patch.rows face a b u v w
    unfolding pair_of
    new_is = ap (λ new. dressed pair.removed pair.kept new) plain_is
