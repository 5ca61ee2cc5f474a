-- The links round an edge under the mesh rule: a point starts at most one and ends at most one, and a link's points are proper ones.
-- Idea: two rows with a link from v share the directed face (a,v,b), two with a link to w share (a,b,w).
use Prim.Native.Nat.{ℕ, ◌≤◌, ◌<◌}
use mathlib.Core.Bool.{Bool, true, false, cond}
use mathlib.Core.List.Memᴰ
use mathlib.Core.List.{List, [], ◌∷◌, map, Memᴰ}
use mathlib.Core.Path.{◌≡◌, refl, sym, ap, ◌∙◌, subst}
use native.Mathlib.Omega.{arith}
use borrow.Author.Tests.{eq-eqb, ne_eqb}
use lib.Dec.{T}
use Rattle.lists.specs.Lists.{those, different}
use Rattle.lists.proofs.Tests.{and_l, and_r, and_i, is_yes}
use Rattle.lists.proofs.Lists.{every_at, those_e}
use Rattle.lists.proofs.Numbers.{has_i, different_i}
use Rattle.lists.proofs.Places.{at_in}
use Rattle.lists.proofs.Counts.{ind_yes, count_member}
use Rattle.lists.proofs.Options.{pair_is}
use Rattle.rows.specs.declared.Row.{Row}
use Rattle.mesh.specs.Mesh.{Face, uses, numbers_fit, keeps_mesh_rule, Proper}
use Rattle.rows.specs.Labels.{no_marks}
use Rattle.rows.specs.Rows.{numbers, holds, holds_edge, no_row}
use Rattle.rows.specs.Tetrahedra.{evenly, rearranged, arranged_from}
use Rattle.mesh.proofs.TurnedFaces.{as_is, once, twice, stay, FaceOf, no_p, no_q, no_r, no_s, same_faces, uses_face, face_uses}
use Rattle.mesh.proofs.FacesCounted.{hits, hits_cons}
use Rattle.mesh.proofs.MeshRuleStated.{fit_proper, keeps_fits, keeps_hits}
use Rattle.rows.proofs.EvenMoves.{spin, even_i, holds_cases, even_holds}
use Rattle.mesh.proofs.EvenFaces.{even_uses, even_proper}
use Rattle.rows.proofs.EvenGroup.{even_trans, even_sym, arranged_from_lem}
use Rattle.links.specs.Links.{Link, link, starts, ends}
use Rattle.links.specs.Links.{links_of}
use Rattle.links.specs.Steps.{following}

-- The two points of a link round a, b, and the ends: below the count, the points different from each other, from a and from b.
pub record LinkFits (count a b : ℕ) (l : Link) : Type 0 where
  pub below_a : a < count
  pub below_b : b < count
  pub below_v : l.0 < count
  pub below_w : l.1 < count
  pub v_w : l.0 ≡ l.1 → ⊥
  pub a_v : a ≡ l.0 → ⊥
  pub a_w : a ≡ l.1 → ⊥
  pub b_v : b ≡ l.0 → ⊥
  pub b_w : b ≡ l.1 → ⊥

-- the row (a,b,v,w) of a link v to w
abbrev row_with : ℕ → ℕ → Link → Row
row_with a b l = record { p = a; q = b; r = l.0; s = l.1; region = 0; marks = no_marks }

module _ (a b : ℕ) (apart : a ≡ b → ⊥) where
  -- ---- one row

  arranged : (row : Row) → T (holds_edge a b row)
      → T (rearranged (arranged_from a b row) row) × ((arranged_from a b row).p ≡ a) × ((arranged_from a b row).q ≡ b)
  arranged row h = arranged_from_lem a b row (and_l (holds row a) (holds row b) h) (and_r (holds row a) (holds row b) h) apart

  pub link_fits : (count : ℕ) (row : Row) → T (numbers_fit count row) → T (holds_edge a b row) → LinkFits count a b (link a b row)
  unfolding link
  link_fits count row fit h =
      let (e, p, q) = arranged row h in
      let k = even_proper count (arranged_from a b row) row e (fit_proper count row fit) in
      record {
        below_a = rw p at k.below_p;
        below_b = rw q at k.below_q;
        below_v = k.below_r;
        below_w = k.below_s;
        v_w = k.r_s;
        a_v = λ i. k.p_r (p ∙ i);
        a_w = λ i. k.p_s (p ∙ i);
        b_v = λ i. k.q_r (q ∙ i);
        b_w = λ i. k.q_s (q ∙ i);
      }

  -- the row uses the four faces of (a,b,v,w)
  pub link_uses : (row : Row) → T (holds_edge a b row) → (f : Face) → FaceOf f (row_with a b (link a b row)) → T (uses f row)
  unfolding link
  link_uses row h f k =
      let t = arranged_from a b row in
      let (e, p, q) = arranged row h in
      subst T (even_uses t row e f) (face_uses f t (same_faces f t (row_with a b (t.r, t.s)) p q refl refl k))

  -- of those, a link from v has (a,v,b) and a link to w has (a,b,w) inside, and (b,v,w) and (a,w,v) outside

  pub link_from : (row : Row) → T (holds_edge a b row) → T (uses (a, (link a b row).0, b) row)
  link_from row h = link_uses row h _ (no_s stay)

  pub link_to : (row : Row) → T (holds_edge a b row) → T (uses (a, b, (link a b row).1) row)
  link_to row h = link_uses row h _ (no_r stay)

  pub link_outer_a : (row : Row) → T (holds_edge a b row) → T (uses (a, (link a b row).1, (link a b row).0) row)
  link_outer_a row h = link_uses row h _ (no_q stay)

  pub link_outer_b : (row : Row) → T (holds_edge a b row) → T (uses (b, (link a b row).0, (link a b row).1) row)
  link_outer_b row h = link_uses row h _ (no_p stay)

  -- ---- all rows: what is shown of a row that holds the edge is shown of each link

  pub links_fit : (count : ℕ) (rows : List Row) {l : Link} → T (keeps_mesh_rule count rows)
      → Memᴰ l (links_of a b rows) → LinkFits count a b l
  links_fit count rows rule m =
      let (row, k, e) = Memᴰ.of_map (link a b) (those (holds_edge a b) rows) m in
      let (k, h) = those_e (holds_edge a b) rows k in
      subst (λ x. LinkFits count a b x) e (link_fits count row (every_at (numbers_fit count) rows (keeps_fits count rows rule) k) h)

  -- whatever names a face that the row of a link uses stands at most once among the links
  module _ (part : Link → ℕ) (face : ℕ → Face) (has-face : (row : Row) → T (holds_edge a b row)
      → T (uses (face (part (link a b row))) row)) where
    once_each : (rows : List Row) → ((f : Face) → hits f rows ≤ 1) → T (different (map part (links_of a b rows)))
    unfolding those different
    once_each [] h = tt
    once_each (row ∷ rows) h = go (holds_edge a b row) refl (once_each rows (λ f. omega (arith, h f, hits_cons f row rows)))
      where
        again : T (holds_edge a b row) → Memᴰ (part (link a b row)) (map part (links_of a b rows)) → ⊥
        again k m =
            let (l, m, i) = Memᴰ.of_map part (links_of a b rows) m in
            let (other, m, j) = Memᴰ.of_map (link a b) (those (holds_edge a b) rows) m in
            let (m, o) = those_e (holds_edge a b) rows m in
            let f = face (part (link a b row)) in
            let there : T (uses f other) = subst (λ n. T (uses (face n) other)) (ap part j ∙ i) (has-face other o) in
            omega (arith, h f, hits_cons f row rows, ind_yes (uses f row) (has-face row k), count_member (uses f) rows m there)

        go : (t : Bool) → holds_edge a b row ≡ t → T (different (map part (links_of a b rows)))
            → T (different (map part (map (link a b) (cond t (row ∷ those (holds_edge a b) rows) (those (holds_edge a b) rows)))))
        go true e k = different_i (part (link a b row)) (map part (links_of a b rows)) (again (is_yes _ e)) k
        go false e k = k

  -- a point starts at most one link
  pub starts_different : (count : ℕ) (rows : List Row) → T (keeps_mesh_rule count rows) → T (different (starts (links_of a b rows)))
  starts_different count rows rule = once_each (λ l. l.0) (λ v. (a, v, b)) link_from rows (keeps_hits count rows rule)

  -- a point ends at most one link
  pub ends_different : (count : ℕ) (rows : List Row) → T (keeps_mesh_rule count rows) → T (different (ends (links_of a b rows)))
  ends_different count rows rule = once_each (λ l. l.1) (λ w. (a, b, w)) link_to rows (keeps_hits count rows rule)

-- ---- the link of a row, read off any even rearrangement

-- a row whose numbers differ has one face from p to q, and one from q back to p
module _ {count : ℕ} (t : Row) (k : Proper count t) where
  face_on : (w : ℕ) → T (uses (t.p, t.q, w) t) → w ≡ t.s
  face_on w h = go (uses_face (t.p, t.q, w) t h)
    where
      go : FaceOf (t.p, t.q, w) t → w ≡ t.s
      go (no_p (as_is a b c)) = absurd (k.p_q a)
      go (no_p (once a b c)) = absurd (k.p_r a)
      go (no_p (twice a b c)) = absurd (k.p_s a)
      go (no_q (as_is a b c)) = absurd (k.q_s b)
      go (no_q (once a b c)) = absurd (k.p_s a)
      go (no_q (twice a b c)) = absurd (k.p_r a)
      go (no_r (as_is a b c)) = c
      go (no_r (once a b c)) = absurd (k.p_q a)
      go (no_r (twice a b c)) = absurd (k.p_s a)
      go (no_s (as_is a b c)) = absurd (k.q_r b)
      go (no_s (once a b c)) = absurd (k.p_r a)
      go (no_s (twice a b c)) = absurd (k.p_q a)

  face_back : (v : ℕ) → T (uses (t.p, v, t.q) t) → v ≡ t.r
  face_back v h = go (uses_face (t.p, v, t.q) t h)
    where
      go : FaceOf (t.p, v, t.q) t → v ≡ t.r
      go (no_p (as_is a b c)) = absurd (k.p_q a)
      go (no_p (once a b c)) = absurd (k.p_r a)
      go (no_p (twice a b c)) = absurd (k.p_s a)
      go (no_q (as_is a b c)) = absurd (k.q_r c)
      go (no_q (once a b c)) = absurd (k.p_s a)
      go (no_q (twice a b c)) = absurd (k.p_r a)
      go (no_r (as_is a b c)) = absurd (k.q_s c)
      go (no_r (once a b c)) = absurd (k.p_q a)
      go (no_r (twice a b c)) = absurd (k.p_s a)
      go (no_s (as_is a b c)) = b
      go (no_s (once a b c)) = absurd (k.p_r a)
      go (no_s (twice a b c)) = absurd (k.p_q a)

module _ {count : ℕ} (row t : Row) (proper : Proper count row) (even : T (rearranged t row)) where
  -- the link is what follows the two ends
  pub link_is : link t.p t.q row ≡ (t.r, t.s)
  link_is =
      let k = even_proper count t row even proper in
      let p = subst T (even_holds t row even t.p) (has_i (numbers t) (Memᴰ.head refl)) in
      let q = subst T (even_holds t row even t.q) (has_i (numbers t) (Memᴰ.tail (Memᴰ.head refl))) in
      let held = and_i (holds row t.p) (holds row t.q) p q in
      let v = face_back t k _ (subst T (sym (even_uses t row even _)) (link_from t.p t.q k.p_q row held)) in
      let w = face_on t k _ (subst T (sym (even_uses t row even _)) (link_to t.p t.q k.p_q row held)) in
      pair_is (link t.p t.q row) (sym v) (sym w)

-- so it is what follows b in the face opposite a
pub link_following : {count : ℕ} (row t : Row) (b : ℕ) → Proper count row → T (rearranged t row) → (t.p ≡ b → ⊥) → T (holds row b)
    → link t.p b row ≡ following t.q t.r t.s b
unfolding evenly
link_following {count} row t b proper even d h =
    let k = even_proper count t row even proper in
    let spun = even_trans (spin t) t row (even_i (spin t) t (at_in (evenly t) 1 no_row (omega arith))) even in
    let twice-spun = even_trans (spin (spin t)) t row (even_i (spin (spin t)) t (at_in (evenly t) 2 no_row (omega arith))) even in
    holds_cases t b (subst T (sym (even_holds t row even b)) h) (λ i. absurd (d (sym i)))
    (λ i. rw (i, eq-eqb t.q t.q refl) (link_is row t proper even))
    (λ i. rw (i, ne_eqb t.r t.q (λ j. k.q_r (sym j)), eq-eqb t.r t.r refl) (link_is row (spin t) proper spun))
    (λ i. rw (i, ne_eqb t.s t.q (λ j. k.q_s (sym j)), ne_eqb t.s t.r (λ j. k.r_s (sym j)))
    (link_is row (spin (spin t)) proper twice-spun))

-- and the same of every even rearrangement of the row
pub link_even : {count : ℕ} (row t : Row) (a b : ℕ) → (a ≡ b → ⊥) → Proper count row → T (rearranged t row)
    → T (holds_edge a b row) → link a b t ≡ link a b row
link_even {count} row t a b apart proper even h =
    let u = arranged_from a b row in
    let (e, p, q) = arranged a b apart row h in
    let of_row = rw (p, q) at (link_is row u proper e) in
    let of-t = rw (p, q) at (link_is t u (even_proper count t row even proper) (even_trans u row t e (even_sym t row even))) in
    of-t ∙ sym of_row
