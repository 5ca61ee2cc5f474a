-- The removal of an edge keeps the marks, of a ring and of a chain. Every removed row is that of a link between neighbouring places; no
-- link runs against a side of a triangle, because i < k < j; and every link runs along one, the closing link along that of v1 and vm.
-- So the faces that go are exactly those with both ends.
use Prim.Native.Nat.{ℕ, suc, ◌+◌, ◌-◌, ◌<◌, ◌≤◌}
use mathlib.Core.Bool.{Bool, true, false, cond, not, ◌||◌}
use mathlib.Core.List.Memᴰ
use mathlib.Core.List.{List, [], ◌∷◌, ◌++◌, Memᴰ}
use mathlib.Core.Logic.{◌⊎◌, inl, inr}
use mathlib.Core.Path.{◌≡◌, refl, sym, ap, subst}
use native.Mathlib.Decide.{dec_lt}
use native.Mathlib.Omega.{arith}
use borrow.Author.Tests.{eq-eqb, ne_eqb}
use lib.Dec.{T, T_not}
use lib.ListN.{length, get_or}
use Rattle.lists.specs.Lists.{any, those, count}
use Rattle.lists.proofs.Tests.{and_l, and_r, and_i, or_e}
use Rattle.lists.proofs.Lists.{any_i, any_e, those_e}
use Rattle.lists.proofs.Images.{flat_map_i, flat_map_e}
use Rattle.lists.proofs.Places.{in_cases}
use Rattle.lists.proofs.Counts.{some_counted}
use Rattle.rows.specs.declared.Row.{Row}
use Rattle.rows.specs.Rows.{holds, holds_edge}
use Rattle.rows.specs.Tetrahedra.{arranged_from}
use Rattle.rows.proofs.EvenGroup.{arranged_from_lem}
use Rattle.mesh.specs.Mesh.{Face, uses, uses_either_way, reversed}
use Rattle.mesh.proofs.TurnedFaces.{turned_sym, FaceOf, no_p, no_q, no_r, no_s, same_faces, uses_face, face_uses}
use Rattle.mesh.proofs.MeshRuleStated.{keeps_hits}
use Rattle.mesh.proofs.EvenFaces.{even_uses}
use Rattle.links.specs.Links.{Link, link}
use Rattle.walk.proofs.ClosedWalks.{after}
use Rattle.ring.specs.Ring.{Site, m}
use Rattle.ring.specs.SoundRing.{SoundRing}
use Rattle.ring.proofs.OneRing.{GoesRound}
use Rattle.triangulation.specs.Triangulation.{Tri, span, Triangle, triangles, v, two_rows, new_rows, table_after}
use Rattle.triangulation.specs.Admissible.{admissible}
use Rattle.triangulation.proofs.Trees.{a_row, b_row}
use Rattle.triangulation.proofs.NoFaceTwice.{Different}
use Rattle.triangulation.proofs.NewRowsProper.{table_users, all_differ}
use Rattle.triangulation.proofs.TreesTriangulate.{InPiece, triangles_within, has_edge, same_side, side→, side_in_one, closing_in_one}
use Rattle.marking.specs.Marking.{agree, mark_goes, dressed}
use Rattle.kept_marks.specs.Replacing.{has_all, UsedOnce, Parted, Apart, NoMarkGoes, MarksKept}
use Rattle.kept_marks.proofs.AgreementTested.{agree_stated}
use Rattle.kept_marks.proofs.PartedTables.{those_parted, keeps_different}
use Rattle.kept_marks.proofs.MarksReplaced.{marks_kept}
use Rattle.kept_marks.proofs.NumbersOfFaces.{at_0, at_1, at_2, turned_in, either_holds, all_in, in_all, none_goes}
use Rattle.kept_marks.proofs.LinksAndSides.{plain_row, SideOf, first, second, third, outer_a, outer_b}
use Rattle.kept_marks.proofs.LinksAndSides.{EndsApart, no_a, no_b, against_a, against_b}

-- Two places with a link between them: neighbours, or the last and the first.
data Joined (last : ℕ) : ℕ → ℕ → Type 0 where
  next : {i : ℕ} → 1 ≤ i → suc i ≤ last → Joined last i (suc i)
  closing : Joined last last 1

-- the edges of a triangle
edge_cases_lem : {P : Type 0} (d : ℕ × ℕ) (x : Triangle) → T (has_edge d x) → (d.0 ≡ x.0 → d.1 ≡ x.1 → P)
    → (d.0 ≡ x.1 → d.1 ≡ x.2 → P) → (d.0 ≡ x.0 → d.1 ≡ x.2 → P) → P
unfolding has_edge
edge_cases_lem {P} d x h f g k = go (or_e (same_side d (x.0, x.1) || same_side d (x.1, x.2)) (same_side d (x.0, x.2)) h)
  where
    short : T (same_side d (x.0, x.1)) ⊎ T (same_side d (x.1, x.2)) → P
    short (inl s) = let (e, c) = side→ d (x.0, x.1) s in f e c
    short (inr s) = let (e, c) = side→ d (x.1, x.2) s in g e c

    go : T (same_side d (x.0, x.1) || same_side d (x.1, x.2)) ⊎ T (same_side d (x.0, x.2)) → P
    go (inl h) = short (or_e (same_side d (x.0, x.1)) (same_side d (x.1, x.2)) h)
    go (inr s) = let (e, c) = side→ d (x.0, x.2) s in k e c

-- The row has the faces of (a,b,v,w), where v and w stand at two such places.
record LinkedRow (site : Site) (row : Row) : Type 0 where
  pub from : ℕ
  pub to : ℕ
  pub joined : Joined (m site) from to
  pub faces_of : (f : Face) → T (uses f row) → FaceOf f (plain_row site.a site.b (v site from) (v site to))

module _ (site : Site) (ring : SoundRing site) (round : GoesRound site.links site.closed site.ring) (three : 3 ≤ m site) where
  -- ---- the ring

  differ : Different site
  differ = all_differ site ring.chain (omega arith)

  removed_held : {row : Row} → Memᴰ row site.removed → T (holds_edge site.a site.b row)
  removed_held {row} k = (those_e (holds_edge site.a site.b) ring.chain.table (subst (Memᴰ row) ring.chain.going k)).1

  removed_linked : (row : Row) → Memᴰ row site.removed → LinkedRow site row
  unfolding link
  removed_linked row k =
      let a = site.a in
      let b = site.b in
      let h = removed_held k in
      let t = arranged_from a b row in
      let (even, p, q) = arranged_from_lem a b row (and_l (holds row a) (holds row b) h) (and_r (holds row a) (holds row b) h) differ.ends in
      let (i, inside, e) = round.only (link a b row) (rw ring.chain.linked (Memᴰ.map (link a b) k)) in
      let like : (r s : ℕ) → t.r ≡ r → t.s ≡ s → (f : Face) → T (uses f row) → FaceOf f (plain_row a b r s) = λ r s d c f u.
      same_faces f (plain_row a b r s) t (sym p) (sym q) (sym d) (sym c) (uses_face f t (subst T (sym (even_uses t row even f)) u)) in
      place i (on_ring site.closed round.size inside) (like (get_or site.ring i 0) (after site.ring i)
      (ap (λ (l : Link). l.0) e) (ap (λ (l : Link). l.1) e))
    where
      on_ring : (c : Bool) {i : ℕ} → length site.ring ≡ length site.links + cond c 0 1 → i < length site.links → i < m site
      on_ring true e h = omega arith
      on_ring false e h = omega arith

      place : (i : ℕ) → i < m site
          → ((f : Face) → T (uses f row) → FaceOf f (plain_row site.a site.b (get_or site.ring i 0) (after site.ring i)))
          → LinkedRow site row
      place i h faces = go (dec_lt (suc i) (m site))
        where
          go : Dec (suc i < m site) → LinkedRow site row
          go (yes l) =
              let on : after site.ring i ≡ get_or site.ring (suc i) 0 = rw (ne_eqb (suc i) (length site.ring) (λ e. omega arith)) in
              record {
                from = suc i;
                to = suc (suc i);
                joined = next {i = suc i} (omega arith) (omega arith);
                faces_of = λ f u. rw on at (faces f u);
              }
          go (no l) =
              let last : suc i ≡ m site = omega arith in
              let on : after site.ring i ≡ get_or site.ring 0 0 = rw (eq-eqb (suc i) (length site.ring) last) in
              record {
                from = suc i;
                to = 1;
                joined = subst (λ k. Joined (m site) k 1) (sym last) closing;
                faces_of = λ f u. rw on at (faces f u);
              }

  module _ (t : Tri) (spans : span t ≡ m site - 1) where
    -- ---- its triangles

    within : {x : Triangle} → Memᴰ x (triangles 1 t) → InPiece 1 (m site) x
    within k = let h = triangles_within 1 t k in omega arith

    ends_apart : (x : Triangle) → InPiece 1 (m site) x → EndsApart site.a site.b (v site x.0) (v site x.1) (v site x.2)
    ends_apart x h = record {
      ends = differ.ends;
      a_x = differ.not_a x.0 (omega arith);
      a_y = differ.not_a x.1 (omega arith);
      a_z = differ.not_a x.2 (omega arith);
      b_x = differ.not_b x.0 (omega arith);
      b_y = differ.not_b x.1 (omega arith);
      b_z = differ.not_b x.2 (omega arith);
    }

    -- the link between two places runs along a side
    abbrev Along : Triangle → ℕ → ℕ → Type 0
    Along x l n = SideOf (v site x.0) (v site x.1) (v site x.2) (v site l) (v site n)

    -- no link runs against one
    never_against : (x : Triangle) → InPiece 1 (m site) x → {l n : ℕ} → Joined (m site) l n → Along x n l → ⊥
    never_against x h (next {i} low high) (first d e) =
        let n = differ.points (suc i) x.0 (omega arith) (omega arith) d in
        let l = differ.points i x.1 (omega arith) (omega arith) e in
        omega arith
    never_against x h (next {i} low high) (second d e) =
        let n = differ.points (suc i) x.1 (omega arith) (omega arith) d in
        let l = differ.points i x.2 (omega arith) (omega arith) e in
        omega arith
    never_against x h (next {i} low high) (third d e) =
        let n = differ.points (suc i) x.2 (omega arith) (omega arith) d in
        let l = differ.points i x.0 (omega arith) (omega arith) e in
        omega arith
    never_against x h closing (first d e) = omega (arith, differ.points (m site) x.1 (omega arith) (omega arith) e)
    never_against x h closing (second d e) = omega (arith, differ.points 1 x.1 (omega arith) (omega arith) d)
    never_against x h closing (third d e) = omega (arith, differ.points 1 x.2 (omega arith) (omega arith) d)

    -- every link runs along one

    next_along : (i : ℕ) (x : Triangle) → InPiece 1 (m site) x → T (has_edge (i, suc i) x) → Along x i (suc i)
    next_along i x inside h =
        edge_cases_lem (i, suc i) x h (λ d e. first (ap (v site) d) (ap (v site) e)) (λ d e. second (ap (v site) d) (ap (v site) e))
        (λ d e. absurd (omega arith))

    closing_along : (x : Triangle) → InPiece 1 (m site) x → T (has_edge (1, m site) x) → Along x (m site) 1
    closing_along x inside h =
        edge_cases_lem (1, m site) x h (λ d e. absurd (omega arith)) (λ d e. absurd (omega arith))
        (λ d e. third (ap (v site) e) (ap (v site) d))

    along : {l n : ℕ} → Joined (m site) l n → (x : Triangle) × Memᴰ x (triangles 1 t) × Along x l n
    along (next {i} low high) =
        let counted = side_in_one 1 i t (omega arith) low (omega arith) in
        let (x, k, h) = any_e (has_edge (i, suc i)) (triangles 1 t) (some_counted (has_edge (i, suc i)) (triangles 1 t) (omega arith)) in
        (x, k, next_along i x (within k) h)
    along closing =
        let last : 1 + span t ≡ m site = omega arith in
        let counted = subst (λ j. count (has_edge (1, j)) (triangles 1 t) ≡ 1) last (closing_in_one 1 t (omega arith)) in
        let (x, k, h) = any_e (has_edge (1, m site)) (triangles 1 t) (some_counted (has_edge (1, m site)) (triangles 1 t) (omega arith)) in
        (x, k, closing_along x (within k) h)

    -- ---- the new rows

    abbrev new : List Row
    new = new_rows site 1 t

    -- a new row is one of the two of a triangle
    new_cases : {P : Type 0} {row : Row} → Memᴰ row new
        → ((x : Triangle) → InPiece 1 (m site) x → row ≡ a_row site x.0 x.1 x.2 → P)
        → ((x : Triangle) → InPiece 1 (m site) x → row ≡ b_row site x.0 x.1 x.2 → P) → P
    unfolding new_rows two_rows
    new_cases k f g =
        let (x, at, own) = flat_map_e (two_rows site) (triangles 1 t) k in
        in_cases own (f x (within at)) λ own. in_cases own (g x (within at)) λ own. absurd (Memᴰ.not-nil own)

    used_a : (f : Face) {x : Triangle} → Memᴰ x (triangles 1 t)
        → FaceOf f (plain_row site.a (v site x.0) (v site x.1) (v site x.2)) → T (any (uses f) new)
    unfolding new_rows two_rows
    used_a f {x} k h =
        any_i (uses f) new (flat_map_i (two_rows site) (triangles 1 t) k (Memᴰ.head refl))
        (face_uses f (a_row site x.0 x.1 x.2) (same_faces f _ _ refl refl refl refl h))

    used_b : (f : Face) {x : Triangle} → Memᴰ x (triangles 1 t)
        → FaceOf f (plain_row (v site x.0) (v site x.1) (v site x.2) site.b) → T (any (uses f) new)
    unfolding new_rows two_rows
    used_b f {x} k h =
        any_i (uses f) new (flat_map_i (two_rows site) (triangles 1 t) k (Memᴰ.tail (Memᴰ.head refl)))
        (face_uses f (b_row site x.0 x.1 x.2) (same_faces f _ _ refl refl refl refl h))

    -- a face of a removed row is used by no new row the other way round
    pub ring_apart : Apart site.removed new
    ring_apart f old other =
        let (row, k, u) = any_e (uses f) site.removed old in
        let (_, l, w) = any_e (uses (reversed f)) new other in
        let linked = removed_linked row k in
        let face = linked.faces_of f u in
        new_cases l
        (λ x p e. against_a (ends_apart x p) (never_against x p linked.joined) face
        (same_faces (reversed f) _ _ refl refl refl refl (uses_face (reversed f) _ (rw e at w))))
        (λ x p e. against_b (ends_apart x p) (never_against x p linked.joined) face
        (same_faces (reversed f) _ _ refl refl refl refl (uses_face (reversed f) _ (rw e at w))))

    -- ---- the faces that go

    -- a face of a removed row has both ends, or a new row uses it
    pub ring_goes : (f : Face) (row : Row) → Memᴰ row site.removed → T (uses f row)
        → T (has_all (site.a ∷ site.b ∷ []) f) ⊎ T (any (uses f) new)
    ring_goes f row k u =
        let linked = removed_linked row k in
        let (x, at, side) = along linked.joined in
        go at side (linked.faces_of f u)
      where
        both : Memᴰ site.a (f.0 ∷ f.1 ∷ f.2 ∷ []) → Memᴰ site.b (f.0 ∷ f.1 ∷ f.2 ∷ [])
            → T (has_all (site.a ∷ site.b ∷ []) f)
        both ma mb =
            in_all (site.a ∷ site.b ∷ []) f λ n k.
            in_cases k (λ e. rw e ma) λ k. in_cases k (λ e. rw e mb) λ k. absurd (Memᴰ.not-nil k)

        go : {x : Triangle} {r s : ℕ} → Memᴰ x (triangles 1 t) → SideOf (v site x.0) (v site x.1) (v site x.2) r s
            → FaceOf f (plain_row site.a site.b r s) → T (has_all (site.a ∷ site.b ∷ []) f) ⊎ T (any (uses f) new)
        go at side (no_p e) = inr (used_b f at (outer_b side e))
        go at side (no_q e) = inr (used_a f at (outer_a side e))
        go at side (no_r e) = inl (both (turned_in (turned_sym e) (at_0 refl)) (turned_in (turned_sym e) (at_1 refl)))
        go at side (no_s e) = inl (both (turned_in (turned_sym e) (at_0 refl)) (turned_in (turned_sym e) (at_2 refl)))

    -- no row afterwards holds both ends
    after_not_both : {row : Row} → Memᴰ row (site.kept ++ new) → T (holds row site.a) → T (holds row site.b) → ⊥
    after_not_both {row} k ha hb = go (Memᴰ.append_cases site.kept k)
      where
        go : Memᴰ row site.kept ⊎ Memᴰ row new → ⊥
        go (inl k) =
            let edge = holds_edge site.a site.b in
            let out = (those_e (λ row. not (edge row)) ring.chain.table (subst (Memᴰ row) ring.chain.staying k)).1 in
            T_not (edge row) out (and_i (holds row site.a) (holds row site.b) ha hb)
        go (inr k) =
            new_cases k (λ x p e. no_b (ends_apart x p) (subst (λ row. T (holds row site.b)) e hb))
            (λ x p e. no_a (ends_apart x p) (subst (λ row. T (holds row site.a)) e ha))

    -- so a face with both ends is in no row afterwards
    pub ring_gone : (f : Face) → T (has_all (site.a ∷ site.b ∷ []) f) → T (any (uses_either_way f) (site.kept ++ new)) → ⊥
    ring_gone f all h =
        let (row, k, u) = any_e (uses_either_way f) (site.kept ++ new) h in
        after_not_both k (either_holds f row u (all_in (site.a ∷ site.b ∷ []) f all (Memᴰ.head refl)))
        (either_holds f row u (all_in (site.a ∷ site.b ∷ []) f all (Memᴰ.tail (Memᴰ.head refl))))

    -- where 23 is not given no marked face goes
    pub ring_stays : mark_goes (site.a ∷ site.b ∷ []) site.removed ≡ false → NoMarkGoes site.removed (site.kept ++ new)
    ring_stays clear = none_goes (site.a ∷ site.b ∷ []) site.removed site.kept new ring_goes clear

    -- ---- the removal

    pub removal_marks : (table : List Row) → site.removed ≡ those (holds_edge site.a site.b) table
        → site.kept ≡ those (λ row. not (holds_edge site.a site.b row)) table → T (agree table) → T (admissible site t)
        → mark_goes (site.a ∷ site.b ∷ []) site.removed ≡ false
        → MarksKept table (site.kept ++ dressed site.removed site.kept (new_rows site 1 t))
    unfolding admissible table_after
    removal_marks table going staying agrees keeps clear =
        let parted : Parted table site.removed site.kept = rw (going, staying) (those_parted (holds_edge site.a site.b) table) in
        let once : UsedOnce table = λ f. omega (arith, table_users site ring.chain f, parted (uses f)) in
        marks_kept table site.removed site.kept new parted once (agree_stated table agrees)
        (keeps_hits (length site.points) (site.kept ++ new) keeps) ring_apart (ring_stays clear)
        (keeps_different (length site.points) (site.kept ++ new) keeps)
