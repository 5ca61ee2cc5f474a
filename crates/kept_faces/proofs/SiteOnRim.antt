-- What a caller shows of an edge: its points stand on the rim, and looking up a face of such points by its key is looking at every kept row.
use Prim.Native.Nat.{ℕ, zero, suc, ◌+◌, ◌-◌, ◌≤◌, ◌<◌}
use mathlib.Core.Bool.{Bool, true, false, cond, not, ◌&&◌, ◌||◌}
use mathlib.Core.List.{List}
use mathlib.Core.Path.{◌≡◌, refl, sym, ap, ap₂, ◌∙◌, subst}
use native.Mathlib.Decide.{dec_lt}
use native.Mathlib.Nat.{min-eq_left, max-eq_right}
use native.Mathlib.Omega.{arith}
use lib.Dec.{T}
use lib.ListN.{get_or, replicate, get_or-replicate, get_or-append}
use lib.Seq.{get_or-append-add}
use Rattle.lists.specs.Lists.{any, has}
use Rattle.lists.proofs.Tests.{is_yes, and_i, or_false}
use Rattle.lists.proofs.Lists.{those_e, any_or}
use Rattle.volume.specs.Volume.{point_in, points_in}
use Rattle.volume.proofs.PointsInBytes.{points_at_lem}
use Rattle.rows.specs.Rows.{rows_in, holds_edge}
use Rattle.rows.specs.RowMeasure.{place, no_point}
use Rattle.mesh.specs.Mesh.{uses}
use Rattle.keys.specs.Steps.{face_key}
use Rattle.keys.proofs.FaceKeys.{Small}
use Rattle.rows.proofs.RowsOfTables.{rows_bytes}
use Rattle.ring.specs.declared.Ring.{Ring}
use Rattle.ring.specs.Ring.{Site, site_of, m, max_ring, ring_with}
use Rattle.kept_faces.specs.declared.Rim.{Rim}
use Rattle.triangulation.specs.Triangulation.{v}
use Rattle.triangulation.specs.Admissible.{kept_uses, barred}
use Rattle.kept_faces.specs.Steps.{met_at, kept_of, Gathered, used_by, SiteRim, OnRim, Fillable, Rimmed, end_a, end_b, ring_point}
use Rattle.triangulation.specs.Steps.{site_in}
use Rattle.triangulation.proofs.Barred.{ring_faces, chain_faces}
use Rattle.kept_faces.proofs.KeptFacesLookedUp.{key_kept}

-- ---- the site, with its ends in order

module _ (coordinates : List ℕ) (count : ℕ) (table : List ℕ) (n a b : ℕ) (ordered : a < b) where
  abbrev here : Site
  here = site_in coordinates count table n a b

  a_is : here.a ≡ a
  unfolding site_of
  a_is = min-eq_left (omega arith)

  b_is : here.b ≡ b
  unfolding site_of
  b_is = max-eq_right (omega arith)

  kept_rows : here.kept ≡ kept_of a b (rows_in table n)
  unfolding site_of
  kept_rows = rw (min-eq_left {n = a} {m = b} (omega arith), max-eq_right {n = a} {m = b} (omega arith))

  points_are : here.points ≡ points_in coordinates count
  unfolding site_of
  points_are = refl

-- ---- what is fillable is site-rim

module _ {coordinates : List ℕ} {count : ℕ} {table : List ℕ} {n a b : ℕ} {closed : Bool} {ring : Ring}
    (fillable : Fillable coordinates count table n a b closed ring) where
  abbrev site : Site
  site = site_in coordinates count table n a b

  abbrev rim : Rim
  rim = record { a = a; b = b; v = ring.v }

  pub size_is : ring.m ≡ m site
  size_is = ap (λ r. r.m) fillable.found

  pub ring_is_lem : ring.v ≡ (ring_with site.ring).v
  ring_is_lem = ap (λ r. r.v) fillable.found

  -- the array has v1 to vm at its front
  front : (i : ℕ) → i < m site → get_or ring.v i 0 ≡ get_or site.ring i 0
  front i h = ap (λ l. get_or l i 0) ring_is_lem ∙ get_or-append site.ring (replicate (max_ring - m site) 0) 0 i h

  v_is : (i : ℕ) → 1 ≤ i → i ≤ m site → get_or ring.v (i - 1) 0 ≡ v site i
  v_is zero s h = absurd (omega arith)
  v_is (suc i) s h =
      let back : suc i - 1 ≡ i = omega arith in
      ap (λ k. get_or ring.v k 0) back ∙ front i (omega arith)

  on_below : {k : ℕ} → OnRim site k → k < count
  on_below end_a = subst (λ k. k < count) (sym (a_is coordinates count table n a b fillable.ordered))
      (omega (arith, fillable.ordered, fillable.below))
  on_below end_b = subst (λ k. k < count) (sym (b_is coordinates count table n a b fillable.ordered)) fillable.below
  on_below (ring_point zero s h) = absurd (omega arith)
  on_below (ring_point (suc i) s h) = fillable.ring_below i (omega arith)

  places_are : {k : ℕ} → OnRim site k → point_in coordinates k ≡ place site.points k
  places_are {k} on =
      sym (ap (λ ps. place ps k) (points_are coordinates count table n a b fillable.ordered)
      ∙ points_at_lem coordinates count k no_point (on_below on))

  -- the places after vm hold 0, which is a point as well
  v_below : (i : ℕ) → i < max_ring → get_or ring.v i 0 < count
  v_below i h = go (dec_lt i (m site))
    where
      go : Dec (i < m site) → get_or ring.v i 0 < count
      go (yes c) = subst (λ k. k < count) (sym (front i c)) (fillable.ring_below i c)
      go (no c) =
          let zeros : List ℕ = replicate (max_ring - m site) 0 in
          let past : i ≡ m site + (i - m site) = omega arith in
          let none : get_or ring.v i 0 ≡ 0 =
          ap₂ (λ l k. get_or l k 0) ring_is_lem past
          ∙ get_or-append-add site.ring zeros (i - m site) 0
          ∙ get_or-replicate (max_ring - m site) (i - m site) 0 0 (omega arith) in
          omega (arith, none, fillable.below)

  pub rimmed : Rimmed coordinates rim
  rimmed =
      record {
        a = omega (arith, fillable.ordered, fillable.below, fillable.points);
        b = omega (arith, fillable.below, fillable.points);
        v = λ i h. omega (arith, v_below i h, fillable.points);
      }

  module _ {keys : List ℕ} (gathered : Gathered keys rim ring.m (kept_of a b (rows_in table n)))
      (bytes : (j : ℕ) → get_or table j 0 < 256) where
    abbrev is_met : ℕ → Bool
    is_met k = met_at gathered.met k

    on_met : {k : ℕ} → OnRim site k → T (is_met k)
    on_met end_a = subst (λ k. T (is_met k)) (sym (a_is coordinates count table n a b fillable.ordered))
        (is_yes (is_met a) gathered.points.a)
    on_met end_b = subst (λ k. T (is_met k)) (sym (b_is coordinates count table n a b fillable.ordered))
        (is_yes (is_met b) gathered.points.b)
    on_met (ring_point zero s h) = absurd (omega arith)
    on_met (ring_point (suc i) s h) =
        subst (λ k. T (is_met k)) (front i (omega arith))
        (is_yes (is_met (get_or ring.v i 0)) (gathered.points.v i (omega (arith, size_is))))

    -- a face of points on the rim, looked up in its direction
    face_is : {x y z : ℕ} → OnRim site x → OnRim site y → OnRim site z
        → has keys (face_key (x, y, z)) ≡ any (uses (x, y, z)) site.kept
    face_is {x} {y} {z} on_x on_y on_z =
        let kept = kept_of a b (rows_in table n) in
        let small : Small (x, y, z) =
        record {
          small_0 = omega (arith, on_below on_x, fillable.few_points);
          small_1 = omega (arith, on_below on_y, fillable.few_points);
          small_2 = omega (arith, on_below on_z, fillable.few_points);
        } in
        let all = and_i (is_met x && is_met y) (is_met z) (and_i (is_met x) (is_met y) (on_met on_x) (on_met on_y)) (on_met on_z) in
        ap (λ ks. has ks (face_key (x, y, z))) gathered.are
        ∙ key_kept gathered.met kept
        (λ row k. rows_bytes table bytes n row (those_e (λ row. not (holds_edge a b row)) (rows_in table n) k).0)
        (x, y, z) small all
        ∙ ap (any (uses (x, y, z))) (sym (kept_rows coordinates count table n a b fillable.ordered))

    -- and either way round
    uses_are : {x y z : ℕ} → OnRim site x → OnRim site y → OnRim site z → used_by keys (x, y, z) ≡ kept_uses site (x, y, z)
    uses_are {x} {y} {z} on_x on_y on_z =
        ap₂ ◌||◌ (face_is on_x on_y on_z) (face_is on_x on_z on_y) ∙ sym (any_or (uses (x, y, z)) (uses (x, z, y)) site.kept)

    pub site_rim : SiteRim site coordinates rim keys
    site_rim =
        record {
          a = sym (a_is coordinates count table n a b fillable.ordered);
          b = sym (b_is coordinates count table n a b fillable.ordered);
          v = v_is;
          places = places_are;
          uses = uses_are;
        }

    -- whether a kept row bars the chain, by the keys
    pub barred_found : let x = get_or ring.v 0 0 in
        let y = get_or ring.v (ring.m - 1) 0 in
        cond closed false (has keys (face_key (a, x, y)) || has keys (face_key (b, y, x))) ≡ barred site
    unfolding barred any
    barred_found = rw fillable.is_closed (go site.closed refl)
      where
        found : {end x y f p q : ℕ} → end ≡ f → x ≡ p → y ≡ q → OnRim site f → OnRim site p → OnRim site q
            → has keys (face_key (end, x, y)) ≡ any (uses (f, p, q)) site.kept
        found r s t on-f on-p on-q = rw (r, s, t) (face_is on-f on-p on-q)

        x : ℕ
        x = get_or ring.v 0 0

        y : ℕ
        y = get_or ring.v (ring.m - 1) 0

        go : (c : Bool) → site.closed ≡ c → cond c false (has keys (face_key (a, x, y)) || has keys (face_key (b, y, x))) ≡ barred site
        go true c = rw (ring_faces site c)
        go false c =
            let long = fillable.long in
            let first = v_is 1 (omega arith) (omega arith) in
            let last : y ≡ v site (m site) = rw size_is (v_is (m site) (omega arith) (omega arith)) in
            let on-first : OnRim site (v site 1) = ring_point 1 (omega arith) (omega arith) in
            let on-last : OnRim site (v site (m site)) = ring_point (m site) (omega arith) (omega arith) in
            let by-a = found (sym (a_is coordinates count table n a b fillable.ordered)) first last end_a on-first on-last in
            let by-b = found (sym (b_is coordinates count table n a b fillable.ordered)) last first end_b on-last on-first in
            rw (chain_faces site c) (ap₂ ◌||◌ by-a (by-b ∙ sym (or_false (any (uses (site.b, v site (m site), v site 1)) site.kept))))
