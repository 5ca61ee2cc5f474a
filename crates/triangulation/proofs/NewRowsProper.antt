-- What a sound chain gives: its points are below the count and all different, so the new rows are proper;
-- and no kept row uses the outer faces, which are the removed rows' own.
use Prim.Native.Nat.{ℕ, zero, suc, ◌+◌, ◌<◌, ◌≤◌}
use mathlib.Core.Bool.{true}
use mathlib.Core.List.Memᴰ
use mathlib.Core.List.{Memᴰ}
use mathlib.Core.Logic.{◌≢◌}
use mathlib.Core.Path.{◌≡◌, sym, subst}
use native.Mathlib.Omega.{arith}
use lib.Dec.{T}
use lib.ListN.{length}
use Rattle.lists.specs.Lists.{every}
use Rattle.lists.proofs.Tests.{and_i}
use Rattle.lists.proofs.Lists.{every_append, those_e, every_those}
use Rattle.lists.proofs.Counts.{count_split, count_member}
use Rattle.rows.specs.declared.Row.{Row}
use Rattle.mesh.specs.Mesh.{Face, uses, numbers_fit}
use Rattle.rows.specs.Rows.{holds_edge}
use Rattle.mesh.proofs.FacesCounted.{hits}
use Rattle.mesh.proofs.MeshRuleStated.{keeps_fits, keeps_hits, proper_fits}
use Rattle.ring.specs.Ring.{Site, m}
use Rattle.links.specs.Links.{Link, link}
use Rattle.ring.specs.SoundRing.{SoundChain, SoundRing}
use Rattle.links.proofs.LinksUnderRule.{link_outer_a, link_outer_b, links_fit}
use Rattle.triangulation.specs.Triangulation.{Tri, side, cut, v, new_rows}
use Rattle.triangulation.proofs.Trees.{end_of, end_more, a_row, b_row, rows_side, rows_cut}
use Rattle.triangulation.proofs.NoFaceTwice.{OnRing, Different, apart}

-- the count of points
abbrev pub count_of : Site → ℕ
count_of site = length site.points

-- how many kept rows use the face
abbrev pub kept_users : Site → Face → ℕ
kept_users site f = hits f site.kept

module _ (site : Site) where
  -- The point, a and b are below the count, and the point is neither end.
  pub record PointApart (x : ℕ) : Type 0 where
    pub below_a : site.a < count_of site
    pub below_b : site.b < count_of site
    pub below : x < count_of site
    pub not_a : site.a ≢ x
    pub not_b : site.b ≢ x

module _ (site : Site) (sound : SoundChain site) where
  ends_differ : site.a ≢ site.b
  ends_differ e = omega (arith, sound.ordered)

  -- ---- removed and kept rows

  table_fit : T (every (numbers_fit (count_of site)) sound.table)
  table_fit = keeps_fits (count_of site) sound.table sound.meshed

  pub kept_fit : T (every (numbers_fit (count_of site)) site.kept)
  kept_fit = rw sound.staying (every_those (numbers_fit (count_of site)) _ sound.table table_fit)

  -- a face has one user at most, removed or kept
  pub table_users : (f : Face) → hits f site.removed + kept_users site f ≤ 1
  table_users f =
      let split = count_split (uses f) (holds_edge site.a site.b) sound.table in
      rw (sound.going, sound.staying) (omega (arith, keeps_hits (count_of site) sound.table sound.meshed f))

  -- a face that the row of each link uses, no kept row uses
  removed_own : (face : Link → Face)
      → ((row : Row) → T (holds_edge site.a site.b row) → T (uses (face (link site.a site.b row)) row))
      → {l : Link} → Memᴰ l site.links → kept_users site (face l) ≡ 0
  removed_own face has {l} k =
      let found = Memᴰ.of_map (link site.a site.b) site.removed (rw sound.linked at k) in
      let row = found.0 in
      let held = (those_e (holds_edge site.a site.b) sound.table (subst (λ rows. Memᴰ row rows) sound.going found.1)).1 in
      let used = subst (λ l. T (uses (face l) row)) found.2 (has row held) in
      omega (arith, table_users (face l), count_member (uses (face l)) site.removed found.1 used)

  -- the outer faces of a link are the removed rows' own
  pub outer_own : {l : Link} → Memᴰ l site.links
      → (kept_users site (site.a, l.1, l.0) ≡ 0) × (kept_users site (site.b, l.0, l.1) ≡ 0)
  outer_own k = (
    removed_own (λ l. (site.a, l.1, l.0)) (link_outer_a site.a site.b ends_differ) k,
    removed_own (λ l. (site.b, l.0, l.1)) (link_outer_b site.a site.b ends_differ) k,
  )

  -- ---- the points of the ring

  link_apart : {l : Link} → Memᴰ l site.links → PointApart site l.0 × PointApart site l.1
  link_apart k =
      let f = links_fit site.a site.b ends_differ (count_of site) sound.table sound.meshed
      (rw (sound.linked, sound.going) at k) in (
        record { below_a = f.below_a; below_b = f.below_b; below = f.below_v; not_a = f.a_v; not_b = f.b_v },
        record { below_a = f.below_a; below_b = f.below_b; below = f.below_w; not_a = f.a_w; not_b = f.b_w },
      )

  -- vi has a link to the next
  pub next_link : (i : ℕ) → 1 ≤ i → i < m site → Memᴰ (v site i, v site (suc i)) site.links
  next_link zero o h = absurd (omega arith)
  next_link (suc i) o h = sound.steps i h

  points_differ : (i j : ℕ) → OnRing site i → OnRing site j → v site i ≡ v site j → i ≡ j
  points_differ zero j k l e = absurd (omega arith)
  points_differ (suc i) zero k l e = absurd (omega arith)
  points_differ (suc i) (suc j) k l e = omega (arith, sound.different i j (omega arith) (omega arith) e)

  module _ (two : 2 ≤ m site) where
    pub point_apart : (i : ℕ) → OnRing site i → PointApart site (v site i)
    point_apart zero l = absurd (omega arith)
    point_apart (suc zero) l = (link_apart (next_link 1 (omega arith) two)).0
    point_apart (suc (suc i)) l = (link_apart (next_link (suc i) (omega arith) (omega arith))).1

    pub all_differ : Different site
    all_differ =
        record { ends = ends_differ; not_a = λ i l. (point_apart i l).not_a; not_b = λ i l. (point_apart i l).not_b; points = points_differ }

    -- ---- the new rows are proper

    rows_proper : (i k j : ℕ) → 1 ≤ i → i < k → k < j → j ≤ m site
        → T (numbers_fit (count_of site) (a_row site i k j)) × T (numbers_fit (count_of site) (b_row site i k j))
    rows_proper i k j o g h l =
        let p = point_apart i (omega arith) in
        let q = point_apart k (omega arith) in
        let r = point_apart j (omega arith) in
        let ik = apart site all_differ i k o g (omega arith) in
        let ij = apart site all_differ i j o (omega arith) l in
        let kj = apart site all_differ k j (omega arith) h l in (
          proper_fits (count_of site) (a_row site i k j) (
              record {
                below_p = p.below_a;
                below_q = p.below;
                below_r = q.below;
                below_s = r.below;
                p_q = p.not_a;
                p_r = q.not_a;
                p_s = r.not_a;
                q_r = ik;
                q_s = ij;
                r_s = kj;
              }
              ),
          proper_fits (count_of site) (b_row site i k j) (
              record {
                below_p = p.below;
                below_q = q.below;
                below_r = r.below;
                below_s = p.below_b;
                p_q = ik;
                p_r = ij;
                p_s = λ e. p.not_b (sym e);
                q_r = kj;
                q_s = λ e. q.not_b (sym e);
                r_s = λ e. r.not_b (sym e);
              }
              ),
        )

    pub new_proper : (i : ℕ) (t : Tri) → 1 ≤ i → end_of i t ≤ m site → T (every (numbers_fit (count_of site)) (new_rows site i t))
    unfolding every
    new_proper i side o h = rw (rows_side site i) tt
    new_proper i (cut l r) o h =
        let k = end_of i l in
        let u = end_more i l in
        let w = end_more k r in
        let both = rows_proper i k (end_of k r) o u w h in
        let left = new_proper i l o (omega arith) in
        let right = new_proper k r (omega arith) h in
        rw (rows_cut site i l r, every_append (numbers_fit (count_of site)) (new_rows site i l) (new_rows site k r)) (search (and_i))

-- in a closed ring vm has a link to v1
pub last_link : (site : Site) → SoundRing site → site.closed ≡ true → (i : ℕ) → 1 ≤ i → i ≡ m site
    → Memᴰ (v site i, v site 1) site.links
last_link site ring closed zero o e = absurd (omega arith)
last_link site ring closed (suc i) o e = ring.closing closed i e
