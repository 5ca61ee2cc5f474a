-- Three rows (a,b,u,v), (a,b,v,w), (a,b,w,u), whatever their marks, and no other that holds a and b: the ring is u, v, w, and no answer
-- from 9 to 13 is given.
use Prim.Native.Nat.{ℕ, ◌<◌, ◌≤◌, min, max}
use mathlib.Core.Bool.{Bool, true, false, cond, not}
use mathlib.Core.List.Memᴰ
use mathlib.Core.List.{List, [], ◌∷◌, ◌++◌, map, flat_map, Memᴰ}
use mathlib.Core.List.{append-nil}
use mathlib.Core.Option.{some}
use mathlib.Core.Path.{◌≡◌, refl, sym, ap, ◌∙◌, subst}
use native.Mathlib.Omega.{arith}
use borrow.Author.Tests.{lt-ltb, ne_eqb}
use lib.Dec.{T}
use lib.ListN.{length}
use Rattle.lists.specs.Lists.{every, any, has, different}
use Rattle.lists.proofs.Tests.{and_i, yes_is}
use Rattle.lists.proofs.Lists.{every_at, every_i, those_append, those_all, those_none, every_cons}
use Rattle.lists.proofs.Numbers.{has_i}
use Rattle.lists.proofs.Places.{in_cases}
use Rattle.volume.specs.declared.Point.{Point}
use Rattle.rows.specs.declared.Row.{Row}
use Rattle.mesh.specs.Mesh.{Face, numbers_fit, keeps_mesh_rule, Proper}
use Rattle.rows.specs.Labels.{no_marks}
use Rattle.rows.specs.Rows.{holds_edge}
use Rattle.rows.proofs.EvenGroup.{even_refl}
use Rattle.mesh.proofs.MeshRuleStated.{fit_proper, keeps_fits}
use Rattle.layout.specs.Layout.{Patch}
use Rattle.answers.specs.Answers.{first_refusal}
use Rattle.links.specs.Links.{Link, link, next, starts}
use Rattle.walk.specs.Walk.{closes, all_close, circle_of, chain_of}
use Rattle.ring.specs.Ring.{Site, site_of, m, numbers_wrong, whole, link_open}
use Rattle.ring.specs.Ring.{many_circles, edge_tests}
use Rattle.ring.specs.SoundRing.{SoundRing}
use Rattle.links.proofs.LinksUnderRule.{link_is}
use Rattle.walk.proofs.ClosedWalks.{Walks, last, more, walks_walk}
use Rattle.links.proofs.NextLink.{next_is}
use Rattle.walk.proofs.LinksClose.{closes_i}
use Rattle.walk.proofs.TheSmallest.{smallest_is}
use Rattle.rows.specs.Regions.{region_of, OneRegion}
use Rattle.rows.proofs.RegionsOfRows.{AllIn, all_none, all_cons, all_one, region_is}
use Rattle.triangulation.specs.Triangulation.{Tri, side, cut, span, triangles, two_rows, new_rows}
use Rattle.triangulation.specs.Best.{chosen}
use Rattle.triangulation.proofs.WholeRing.{RingWay, ring_chosen}
use Rattle.triangulation.proofs.AllWays.{span_over}
use Rattle.marking.specs.Marking.{dress_by}
use Rattle.kept_marks.proofs.DressedRows.{dress_regions}
use Rattle.tables.specs.FlipRows.{rows_across, rows_round}
use Rattle.tables.proofs.ThreeNumbers.{ThreeApart, apart_three}

-- ---- three links

module _ (u v w : ℕ) (apart : ThreeApart u v w) where
  abbrev links : List Link
  links = (u, v) ∷ (v, w) ∷ (w, u) ∷ []

  once : T (different (starts links))
  once = apart_three u v w apart

  step_u : next links u ≡ some v
  step_u = next_is links once (Memᴰ.head refl)

  step_v : next links v ≡ some w
  step_v = next_is links once (Memᴰ.tail (Memᴰ.head refl))

  step_w : next links w ≡ some u
  step_w = next_is links once (Memᴰ.tail (Memᴰ.tail (Memᴰ.head refl)))

  walk_u : Walks links u u (u ∷ v ∷ w ∷ [])
  walk_u = more step_u (λ e. apart.xy (sym e)) (more step_v (λ e. apart.xz (sym e)) (last step_w))

  walk_v : Walks links v v (v ∷ w ∷ u ∷ [])
  walk_v = more step_v (λ e. apart.yz (sym e)) (more step_w apart.xy (last step_u))

  walk_w : Walks links w w (w ∷ u ∷ v ∷ [])
  walk_w = more step_w apart.xz (more step_u apart.yz (last step_v))

  -- they all close
  three_close : all_close links ≡ true
  unfolding all_close
  three_close = yes_is (every (closes links) (starts links)) close
    where
      tt' : T (every (closes links) [])
      tt' = every_i (closes links) [] (λ x k. absurd (Memᴰ.not-nil k))

      close : T (every (closes links) (starts links))
      close =
          every_cons (closes links) u (v ∷ w ∷ []) (closes_i links u walk_u)
          (every_cons (closes links) v (w ∷ []) (closes_i links v walk_v)
          (every_cons (closes links) w [] (closes_i links w walk_w) tt'))

  -- in the ring u, v, w
  three_ring : u ≤ v → u ≤ w → circle_of links ≡ u ∷ v ∷ w ∷ []
  unfolding circle_of
  three_ring uv uw =
      let least = smallest_is (starts links) u (Memᴰ.head refl)
      (λ k i. in_cases i (λ e. omega arith) λ i. in_cases i (λ e. omega arith)
      λ i. in_cases i (λ e. omega arith) λ i. absurd (Memᴰ.not-nil i)) in
      rw (← least, walks_walk links u 3 walk_u (omega arith))

-- ---- two rows

-- the one triangle of a ring of three has these
pub across : (site : Site) (u v w : ℕ) → site.ring ≡ u ∷ v ∷ w ∷ []
    → new_rows site 1 (cut side side) ≡ rows_across site.a site.b u v w (region_of site.removed)
unfolding new_rows triangles two_rows flat_map span
across site u v w e = rw e

-- ---- three rows

round_region : (a b u v w region : ℕ) → AllIn region (rows_round a b u v w region)
round_region a b u v w region = all_cons refl (all_cons refl (all_cons refl (all_none region)))

module _ (points : List Point) (kept : List Row) (marked : Face → Bool) (a b u v w region : ℕ) (order : a < b) (uv : u ≤ v) (uw : u ≤ w)
    (rule : T (keeps_mesh_rule (length points) (kept ++ map (dress_by marked) (rows_round a b u v w region))))
    (none : T (every (λ row. not (holds_edge a b row)) kept)) where
  abbrev new : List Row
  new = map (dress_by marked) (rows_round a b u v w region)

  abbrev patch : Patch
  patch = record { points = points; rows = kept ++ new }

  abbrev site : Site
  site = site_of patch a b

  new_proper : {row : Row} → Memᴰ row new → Proper (length points) row
  new_proper {row} k =
      fit_proper (length points) row
      (every_at (numbers_fit (length points)) (kept ++ new) (keeps_fits (length points) (kept ++ new) rule) (Memᴰ.append_right kept k))

  points_apart : ThreeApart u v w
  unfolding dress_by
  points_apart =
      let one = new_proper (Memᴰ.head refl) in
      let two = new_proper (Memᴰ.tail (Memᴰ.head refl)) in
      let three = new_proper (Memᴰ.tail (Memᴰ.tail (Memᴰ.head refl))) in
      record { xy = one.r_s; xz = λ e. three.r_s (sym e); yz = two.r_s }

  round_hold : (row : Row) → Memᴰ row (rows_round a b u v w region) → T (holds_edge a b row)
  round_hold row k =
      in_cases k (both row)
      λ k. in_cases k (both row) λ k. in_cases k (both row) λ k. absurd (Memᴰ.not-nil k)
    where
      both : (row : Row) {x y : ℕ} → row ≡ record { p = a; q = b; r = x; s = y; region = region; marks = no_marks } → T (holds_edge a b row)
      both row e =
          rw e (and_i (has (a ∷ b ∷ _ ∷ _ ∷ []) a) (has (a ∷ b ∷ _ ∷ _ ∷ []) b)
          (has_i _ (Memᴰ.head refl)) (has_i _ (Memᴰ.tail (Memᴰ.head refl))))

  new_hold : (row : Row) → Memᴰ row new → T (holds_edge a b row)
  unfolding dress_by
  new_hold row k =
      let (t, i, e) = Memᴰ.of_map (dress_by marked) (rows_round a b u v w region) k in
      subst (λ row. T (holds_edge a b row)) e (round_hold t i)

  min_is : min a b ≡ a
  min_is = omega arith

  max_is : max a b ≡ b
  max_is = omega arith

  -- the three rows go, the others are kept

  pub three_removed : site.removed ≡ new
  unfolding site_of
  three_removed =
      rw (min_is, max_is)
      (those_append (holds_edge a b) kept new
      ∙ rw (those_none (holds_edge a b) kept none, those_all (holds_edge a b) new (every_i (holds_edge a b) new new_hold)))

  pub three_kept : site.kept ≡ kept
  unfolding site_of
  three_kept =
      let stays : Row → Bool = λ row. not (holds_edge a b row) in
      rw (min_is, max_is)
      (those_append stays kept new
      ∙ rw (those_all stays kept none, those_none stays new (every_i (λ row. not (stays row)) new gone)) (append-nil kept))
    where
      twice_not : (t : Bool) → T t → T (not (not t))
      twice_not true h = tt
      twice_not false h = absurd h

      gone : (row : Row) → Memᴰ row new → T (not (not (holds_edge a b row)))
      gone row k = twice_not (holds_edge a b row) (new_hold row k)

  three_links : site.links ≡ links u v w points_apart
  unfolding site_of dress_by
  three_links =
      ap (map (link (min a b) (max a b))) three_removed
      ∙ rw (
        min_is,
        max_is,
        of (Memᴰ.head refl),
        of (Memᴰ.tail (Memᴰ.head refl)),
        of (Memᴰ.tail (Memᴰ.tail (Memᴰ.head refl))),
      )
    where
      of : {row : Row} → Memᴰ row new → link row.p row.q row ≡ (row.r, row.s)
      of {row} k = link_is row row (new_proper k) (even_refl row)

  pub three_closed : site.closed ≡ true
  unfolding site_of
  three_closed = ap all_close three_links ∙ three_close u v w points_apart

  pub ring_three : site.ring ≡ u ∷ v ∷ w ∷ []
  unfolding site_of
  ring_three =
      ap (λ ls. cond (all_close ls) (circle_of ls) (chain_of ls)) three_links
      ∙ rw (three_close u v w points_apart) (three_ring u v w points_apart uv uw)

  -- ---- no answer from 9 to 12

  ends_right : numbers_wrong (length points) (a ∷ b ∷ []) ≡ false
  unfolding numbers_wrong every different any dress_by
  ends_right =
      let one = new_proper (Memᴰ.head refl) in
      rw (lt-ltb a (length points) one.below_p, lt-ltb b (length points) one.below_q, ne_eqb a b one.p_q)

  links_close : (chains : Bool) → link_open chains site ≡ false
  unfolding link_open
  links_close chains = rw three_closed

  one_circle : many_circles site ≡ false
  unfolding many_circles whole
  one_circle =
      let ls = links u v w points_apart in
      let ring : List ℕ = u ∷ v ∷ w ∷ [] in
      rw (three_links, ring_three, yes_is (every (has ring) (starts ls)) (every_i (has ring) ring (λ n k. has_i ring k)))

  same_points : site.points ≡ points
  unfolding site_of
  same_points = refl

  pub three_pass : (chains : Bool) → first_refusal (edge_tests chains site a b) ≡ 0
  unfolding edge_tests first_refusal
  three_pass chains = rw (links_close chains, one_circle, same_points, ends_right, three_removed)

  -- ---- their region

  new_one : OneRegion new
  new_one = all_one region new (dress_regions marked region (rows_round a b u v w region) (round_region a b u v w region))

  pub three_one : OneRegion site.removed
  three_one = rw three_removed new_one

  three_region : region_of site.removed ≡ region
  unfolding dress_by
  three_region = ap region_of three_removed ∙ region_is new new_one (Memᴰ.head refl)

  -- ---- the only way

  site_a : site.a ≡ a
  unfolding site_of
  site_a = min_is

  site_b : site.b ≡ b
  unfolding site_of
  site_b = max_is

  pub three_new : new_rows site 1 (cut side side) ≡ rows_across a b u v w region
  three_new = rw (across site u v w ring_three, three_region, site_a, site_b)

-- a ring of three is triangulated in one way
pub one_tree : (t : Tri) → span t ≡ 2 → t ≡ cut side side
unfolding span
one_tree side e = absurd (omega arith)
one_tree (cut side side) e = refl
one_tree (cut side (cut l r)) e = absurd (omega (arith, span_over l, span_over r))
one_tree (cut (cut l r) t) e = absurd (omega (arith, span_over l, span_over r, span_over t))

-- so that way is the chosen one
pub three_chosen : (site : Site) → SoundRing site → m site ≡ 3 → (t : Tri) → RingWay site t → chosen site ≡ cut side side
three_chosen site ring three t way =
    one_tree (chosen site) (omega (arith, three, (ring_chosen site (omega (arith, three)) ring t way).way.spans))
