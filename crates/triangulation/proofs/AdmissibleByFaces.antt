-- A triangulation of the ring is admissible by the mesh rule of the whole table exactly if it is admissible by the faces of its
-- triangles and diagonals, and nothing bars the chain. New rows are proper and use no face twice, and their other outer faces are
-- the removed rows' own.
use Prim.Native.Nat.{ℕ, suc, ◌+◌, ◌-◌, ◌<◌, ◌≤◌}
use mathlib.Core.Bool.{Bool, true, false, not, ◌&&◌}
use mathlib.Core.List.{List, ◌++◌}
use mathlib.Core.Path.{◌≡◌, refl}
use native.Mathlib.Decide.{dec_le}
use native.Mathlib.Omega.{arith}
use lib.Dec.{T}
use Rattle.lists.specs.Lists.{any}
use Rattle.lists.proofs.Tests.{and_l, and_r, and_i, same_test, neither_l, neither_r, neither_i}
use Rattle.lists.proofs.Lists.{every_append, any_or}
use Rattle.lists.proofs.Counts.{ind, ind_no, count_append, count_none, none_counted}
use Rattle.rows.specs.declared.Row.{Row}
use Rattle.mesh.specs.Mesh.{Face, same_face, uses, reversed, numbers_fit}
use Rattle.mesh.proofs.TurnedFaces.{on, back, stay, same_turned, FaceOf, no_p, no_q, no_r, no_s}
use Rattle.mesh.proofs.FacesCounted.{face_hit, hits, hits_turned}
use Rattle.mesh.proofs.MeshRuleStated.{keeps_hits, hits_keep}
use Rattle.ring.specs.Ring.{Site, m}
use Rattle.ring.specs.SoundRing.{SoundChain, SoundRing}
use Rattle.triangulation.specs.Triangulation.{Tri, side, cut, span, new_rows, table_after}
use Rattle.triangulation.specs.Admissible.{admissible, kept_uses, piece_admissible, barred}
use Rattle.triangulation.proofs.Trees.{end_of, end_span, end_more, a_top, b_top, a_face, b_face, ring_face, closing_free, piece_side}
use Rattle.triangulation.proofs.Trees.{piece_cut}
use Rattle.triangulation.proofs.NoFaceTwice.{with_end, with_a, with_b, of_three, own, users_cut, users_own, new_once}
use Rattle.triangulation.proofs.Barred.{ring_faces, chain_faces}
use Rattle.triangulation.proofs.NewRowsProper.{count_of, kept_users, table_users, kept_fit, outer_own, next_link, last_link}
use Rattle.triangulation.proofs.NewRowsProper.{all_differ, new_proper}

-- ---- what no kept row uses

module _ (site : Site) where
  free→ : (f : Face) → T (not (kept_uses site f)) → (kept_users site f ≡ 0) × (kept_users site (reversed f) ≡ 0)
  free→ f h =
      let kept = site.kept in
      let k = rw (any_or (uses f) (uses (reversed f)) kept) at h in
      (count_none (uses f) kept (search (neither_l)), count_none (uses (reversed f)) kept (search (neither_r)))

  →free : (f : Face) → kept_users site f ≡ 0 → kept_users site (reversed f) ≡ 0 → T (not (kept_uses site f))
  →free f g h =
      let kept = site.kept in
      let k = none_counted (uses f) kept g in
      let l = none_counted (uses (reversed f)) kept h in
      rw (any_or (uses f) (uses (reversed f)) kept) (search (neither_i))

  -- the faces of a and b with a diagonal, either way round
  abbrev DiagonalFree : ℕ → ℕ → Type 0
  DiagonalFree i j =
      ((kept_users site (a_face site i j) ≡ 0) × (kept_users site (a_face site j i) ≡ 0))
      × ((kept_users site (b_face site i j) ≡ 0) × (kept_users site (b_face site j i) ≡ 0))

  closing→ : (i : ℕ) (l r : Tri) → T (closing_free site i (cut l r)) → DiagonalFree i (end_of i (cut l r))
  unfolding closing_free any
  closing→ i l r h =
      let j = end_of i (cut l r) in
      (free→ (a_face site i j) (search (neither_l)), free→ (b_face site i j) (search (neither_l, neither_r)))

  →closing : (i : ℕ) (l r : Tri) → DiagonalFree i (end_of i (cut l r)) → T (closing_free site i (cut l r))
  unfolding closing_free any
  →closing i l r h =
      let j = end_of i (cut l r) in
      let a = →free (a_face site i j) h.0.0 h.0.1 in
      let b = →free (b_face site i j) h.1.0 h.1.1 in
      search (neither_i)

  -- ---- an admissible triangulation has no face that a kept row uses, but for its sides

  module _ (f : Face) (stands : 1 ≤ kept_users site f) where
    away : (g : Face) → kept_users site g ≡ 0 → ind (same_face f g) ≡ 0
    away g h = ind_no (same_face f g) (λ k. omega (arith, hits_turned f g site.kept (same_turned f g k), h))

    -- the face is none of those of the sides from i to j, each way that a new row uses them
    abbrev SidesAway : ℕ → ℕ → Type 0
    SidesAway i j = (s : ℕ) → i ≤ s → s < j → (with_a site f (suc s) s ≡ 0) × (with_b site f s (suc s) ≡ 0)

    -- if it is one of the new rows', it is one of those of the closing side
    abbrev Inside : ℕ → Tri → Type 0
    Inside i t = own site f i t ≤ with_a site f i (end_of i t) + with_b site f (end_of i t) i

    smaller : (i : ℕ) (t : Tri) → T (closing_free site i t) → SidesAway i (end_of i t) → Inside i t
        → (own site f i t ≡ 0) × (with_a site f (end_of i t) i ≡ 0) × (with_b site f i (end_of i t) ≡ 0)
    unfolding own with_end
    smaller i side h o l = let k = o i (omega arith) (omega arith) in (refl, k.0, k.1)
    smaller i (cut l r) h o k =
        let j = end_of i (cut l r) in
        let free = closing→ i l r h in
        let a0 = away (a_face site i j) free.0.0 in
        let a1 = away (a_face site j i) free.0.1 in
        let b0 = away (b_face site i j) free.1.0 in
        let b1 = away (b_face site j i) free.1.1 in
        (omega arith, a1, b0)

    inside : (i : ℕ) (t : Tri) → T (piece_admissible site i t) → SidesAway i (end_of i t) → Inside i t
    unfolding own of_three
    inside i side h o = omega arith
    inside i (cut l r) h o =
        let k = end_of i l in
        let j = end_of k r in
        let u = end_more i l in
        let w = end_more k r in
        let parts = rw (piece_cut site i l r) at h in
        let ol : SidesAway i k = λ s e g. o s e (omega arith) in
        let or : SidesAway k j = λ s e g. o s (omega arith) g in
        let free = free→ (ring_face site i k j) (search (and_l)) in
        let f0 = away (ring_face site i k j) free.0 in
        let f1 = away (ring_face site i j k) free.1 in
        let left = smaller i l (search (and_l, and_r)) ol (inside i l (search (and_l, and_r)) ol) in
        let right = smaller k r (search (and_l, and_r)) or (inside k r (search (and_l, and_r)) or) in
        omega arith

  -- ---- where no kept row uses a face of the new rows, the triangulation is admissible

  -- no face has two users among the kept rows and these
  abbrev OneUser : List Row → Type 0
  OneUser rows = (f : Face) → kept_users site f + hits f rows ≤ 1

  in_a : (i : ℕ) (l r : Tri) → OneUser (new_rows site i (cut l r)) → {f : Face} → FaceOf f (a_top site i l r) → kept_users site f ≡ 0
  in_a i l r one {f} h = omega (arith, one f, users_cut site f i l r, face_hit f (a_top site i l r) h)

  in_b : (i : ℕ) (l r : Tri) → OneUser (new_rows site i (cut l r)) → {f : Face} → FaceOf f (b_top site i l r) → kept_users site f ≡ 0
  in_b i l r one {f} h = omega (arith, one f, users_cut site f i l r, face_hit f (b_top site i l r) h)

  -- the closing side, each way that a new row uses it
  abbrev TopFree : ℕ → ℕ → Type 0
  TopFree i j = (kept_users site (a_face site i j) ≡ 0) × (kept_users site (b_face site j i) ≡ 0)

  top_free : (i : ℕ) (l r : Tri) → OneUser (new_rows site i (cut l r)) → TopFree i (end_of i (cut l r))
  top_free i l r one = (in_a i l r one (no_r stay), in_b i l r one (no_q on))

  -- the other way it is the larger piece's
  closing_free_lem : (i : ℕ) (t : Tri) → OneUser (new_rows site i t) → TopFree (end_of i t) i → T (closing_free site i t)
  unfolding closing_free
  closing_free_lem i side one h = tt
  closing_free_lem i (cut l r) one h = let top = top_free i l r one in →closing i l r ((top.0, h.0), (h.1, top.1))

  admissible_if : (i : ℕ) (t : Tri) → OneUser (new_rows site i t) → T (piece_admissible site i t)
  admissible_if i side one = rw (piece_side site i) tt
  admissible_if i (cut l r) one =
      let k = end_of i l in
      let j = end_of k r in
      let ol : OneUser (new_rows site i l) = λ f. omega (arith, one f, users_cut site f i l r) in
      let or : OneUser (new_rows site k r) = λ f. omega (arith, one f, users_cut site f i l r) in
      let triangle = →free (ring_face site i k j) (in_a i l r one (no_p stay)) (in_b i l r one (no_s stay)) in
      let cl = closing_free_lem i l ol (in_a i l r one (no_s stay), in_b i l r one (no_r back)) in
      let cr = closing_free_lem k r or (in_a i l r one (no_q stay), in_b i l r one (no_p back)) in
      let left = admissible_if i l ol in
      let right = admissible_if k r or in
      rw (piece_cut site i l r) (search (and_i))

-- ---- the laws

module _ (site : Site) (sound : SoundChain site) (t : Tri) (whole : span t ≡ m site - 1) (three : 3 ≤ m site) where
  ends_at : end_of 1 t ≡ m site
  ends_at = omega (arith, end_span 1 t)

  one_user : TopFree site 1 (m site) → T (piece_admissible site 1 t) → OneUser site (new_rows site 1 t)
  unfolding with_end
  one_user top h f = go (dec_le 1 (kept_users site f))
    where
      go : Dec (1 ≤ kept_users site f) → kept_users site f + hits f (new_rows site 1 t) ≤ 1
      go (no none) = omega (arith, new_once site (all_differ site sound (omega arith)) f 1 t (omega arith) (omega (arith, ends_at)))
      go (yes s) =
          let sides : SidesAway site f s 1 (end_of 1 t) =
          λ i l k.
          let outer = outer_own site sound (next_link site sound i l (omega (arith, ends_at))) in
          (away site f s (a_face site (suc i) i) outer.0, away site f s (b_face site i (suc i)) outer.1) in
          let a = away site f s (a_face site 1 (m site)) top.0 in
          let b = away site f s (b_face site (m site) 1) top.1 in
          omega (arith, users_own site f 1 t, rw ends_at at (inside site f s 1 t h sides), table_users site sound f)

  keeps_if : TopFree site 1 (m site) → T (piece_admissible site 1 t) → T (admissible site t)
  unfolding admissible table_after
  keeps_if top h =
      let fit = numbers_fit (count_of site) in
      let old = kept_fit site sound in
      let new = new_proper site sound (omega arith) 1 t (omega arith) (omega (arith, ends_at)) in
      hits_keep (count_of site) (site.kept ++ new_rows site 1 t)
      (rw (every_append fit site.kept (new_rows site 1 t)) (search (and_i)))
      (λ f. omega (arith, one_user top h f, count_append (uses f) site.kept (new_rows site 1 t)))

  one_if : T (admissible site t) → OneUser site (new_rows site 1 t)
  unfolding admissible table_after
  one_if h f = omega (arith, keeps_hits (count_of site) _ h f, count_append (uses f) site.kept (new_rows site 1 t))

  top_if : T (admissible site t) → TopFree site 1 (m site)
  top_if h = rw ends_at at (top t (one_if h) (omega arith))
    where
      top : (t : Tri) → OneUser site (new_rows site 1 t) → 2 ≤ span t → TopFree site 1 (end_of 1 t)
      top side one h = absurd (omega (arith, end_span 1 side))
      top (cut l r) one h = top_free site 1 l r one

-- where no kept row uses the closing side the way that a new row does, nothing is barred,
top_open : (site : Site) → TopFree site 1 (m site) → T (not (barred site))
unfolding barred any
top_open site top = go site.closed refl
  where
    go : (closed : Bool) → site.closed ≡ closed → T (not (barred site))
    go true e = rw (ring_faces site e) tt
    go false e =
        let a = none_counted (uses (a_face site 1 (m site))) site.kept top.0 in
        let b = none_counted (uses (b_face site (m site) 1)) site.kept top.1 in
        rw (chain_faces site e) (search (neither_i))

-- and where nothing is barred, none does: of a ring the closing side is the removed rows' own
open_top : (site : Site) → SoundRing site → 1 ≤ m site → T (not (barred site)) → TopFree site 1 (m site)
unfolding barred any
open_top site ring one h = go site.closed refl
  where
    go : (closed : Bool) → site.closed ≡ closed → TopFree site 1 (m site)
    go true e = outer_own site ring.chain (last_link site ring e (m site) one refl)
    go false e =
        let k = rw (chain_faces site e) at h in (
          count_none (uses (a_face site 1 (m site))) site.kept (search (neither_l)),
          count_none (uses (b_face site (m site) 1)) site.kept (search (neither_l, neither_r)),
        )

-- of a ring, and of a chain where the closing side counts too, each way that a new row uses it
pub ring_admissible : (site : Site) → SoundRing site → (t : Tri) → span t ≡ m site - 1 → 3 ≤ m site
    → admissible site t ≡ not (barred site) && piece_admissible site 1 t
ring_admissible site ring t whole three =
    let chain = ring.chain in
    let free = not (barred site) in
    let piece = piece_admissible site 1 t in
    same_test (admissible site t) (free && piece)
    (λ h. and_i free piece (top_open site (top_if site chain t whole three h)) (admissible_if site 1 t (one_if site chain t whole three h)))
    (λ h. keeps_if site chain t whole three (open_top site ring (omega arith) (and_l free piece h)) (and_r free piece h))
