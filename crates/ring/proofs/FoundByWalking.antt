-- What the walk from the first point tells: the first of 10 to 13 that is given, or the ring or chain.
-- Idea: a walk that closes by as many points as there are links has met them all; one that ends has met them all if it has a point more.
use Prim.Native.Nat.{ℕ, ◌≤◌, ◌<◌, min, max}
use mathlib.Core.Bool.{Bool, true, false, cond, not}
use mathlib.Core.List.Memᴰ
use mathlib.Core.List.{List, [], ◌∷◌, Memᴰ}
use mathlib.Core.Option.{Option, none, some}
use mathlib.Core.Path.{◌≡◌, refl, sym, ap, ◌∙◌, subst}
use native.Mathlib.Omega.{arith}
use borrow.Author.Tests.{eq-eqb, ne_eqb}
use lib.Dec.{T, not_T}
use lib.ListN.{length, length-map}
use lib.Seq.{length-take-le}
use Rattle.std.specs.Prelude.{Err}
use Rattle.lists.specs.Lists.{every, those, has, different}
use Rattle.lists.proofs.Tests.{yes_is, no_is}
use Rattle.lists.proofs.Lists.{every_at, every_i}
use Rattle.lists.proofs.Numbers.{has_i, has_e, no_more, no_fewer}
use Rattle.lists.proofs.Options.{some_is, none_not}
use Rattle.rows.specs.declared.Regions.{Regions}
use Rattle.rows.specs.Rows.{rows_in, holds_edge}
use Rattle.rows.specs.Steps.{regions_of}
use Rattle.mesh.specs.Mesh.{keeps_mesh_rule}
use Rattle.layout.specs.Layout.{Patch}
use Rattle.answers.specs.Answers.{first_refusal}
use Rattle.links.specs.declared.Links.{Links}
use Rattle.walk.specs.declared.Trail.{Trail}
use Rattle.links.specs.Links.{Link, link, starts, ends}
use Rattle.walk.specs.Walk.{circle, closes, all_close, circle_of, heads, follow, chain_of}
use Rattle.ring.specs.Ring.{Site}
use Rattle.ring.specs.Ring.{site_of, edge_missing, whole, rings_alone, or_chains, link_open, many_circles, length_wrong}
use Rattle.ring.specs.Steps.{found_of, sized_of, edge_in}
use Rattle.walk.specs.Steps.{went_by, walked, StartsAt}
use Rattle.ring.specs.Ring.{ring_tests}
use Rattle.links.specs.Links.{links_of}
use Rattle.links.specs.Steps.{links_in, Table}
use Rattle.links.proofs.LinkArrays.{in_length}
use Rattle.links.proofs.LinksUnderRule.{starts_different, ends_different}
use Rattle.walk.proofs.ClosedWalks.{Walks, walk_walks, walks_different, walks_start}
use Rattle.ring.proofs.OneChain.{Runs, no_head_close, head_open, head_runs, run_followed, more_covers, run_chain, no_chain}
use Rattle.walk.proofs.FirstPoint.{head_e}
use Rattle.ring.proofs.OneRing.{ring_circle}

-- ---- the first refusal

module _ (chains : Bool) (site : Site) where
  found_10 : edge_missing site ≡ true → found_of chains site ≡ Err (record { number = 10 })
  unfolding found_of ring_tests first_refusal
  found_10 p = rw p

  module _ (held : edge_missing site ≡ false) where
    found_11 : link_open chains site ≡ true → found_of chains site ≡ Err (record { number = 11 })
    unfolding found_of ring_tests first_refusal
    found_11 q = rw (held, q)

    module _ (taken : link_open chains site ≡ false) where
      found_12 : many_circles site ≡ true → found_of chains site ≡ Err (record { number = 12 })
      unfolding found_of ring_tests first_refusal
      found_12 r = rw (held, taken, r)

      -- 13, or the ring or chain
      found_sized : many_circles site ≡ false → found_of chains site ≡ sized_of site.closed site.ring (regions_of site.removed)
      unfolding found_of ring_tests first_refusal sized_of
      found_sized r = go (length_wrong site) refl
        where
          go : (b : Bool) → length_wrong site ≡ b → found_of chains site ≡ sized_of site.closed site.ring (regions_of site.removed)
          go true s = rw (held, taken, r, s)
          go false s = rw (held, taken, r, s)

-- ---- what each test comes to

-- What the mesh rule gives of an edge in its patch.
record Ruled (site : Site) : Type 0 where
  single : T (different (starts site.links))
  single_end : T (different (ends site.links))
  count : length site.links ≡ length site.removed
  closed : site.closed ≡ all_close site.links
  ring : site.ring ≡ cond (all_close site.links) (circle_of site.links) (chain_of site.links)

ruled : (count : ℕ) (patch : Patch) (e f : ℕ) → (e ≡ f → ⊥) → T (keeps_mesh_rule count patch.rows) → Ruled (site_of patch e f)
unfolding site_of
ruled count patch e f apart rule =
    let apart : min e f ≡ max e f → ⊥ = λ i. apart (omega arith) in
    record {
      single = starts_different (min e f) (max e f) apart count patch.rows rule;
      single_end = ends_different (min e f) (max e f) apart count patch.rows rule;
      count = length-map (site_of patch e f).removed (link (min e f) (max e f));
      closed = refl;
      ring = refl;
    }

module _ (site : Site) (law : Ruled site) where
  abbrev links : List Link
  links = site.links

  start_count : length (starts links) ≡ length links
  start_count = length-map links (λ l. l.0)

  found_none_lem : (chains : Bool) → length links ≡ 0 → found_of chains site ≡ Err (record { number = 10 })
  found_none_lem chains h = found_10 chains site (eq-eqb (length site.removed) 0 (omega (arith, law.count)))

  module _ (some_link : 0 < length links) (v : ℕ) (start : StartsAt links v) where
    held : edge_missing site ≡ false
    held = ne_eqb (length site.removed) 0 (λ q. omega (arith, law.count))

    -- no head, or one at v
    heads_cases : {P : Type 0} → (heads links ≡ [] → P) → (Memᴰ v (heads links) → P) → P
    heads_cases {P} f g = go (heads links) refl
      where
        go : (hs : List ℕ) → heads links ≡ hs → P
        go [] e = f e
        go (h ∷ hs) e = g (start.head (λ z. Memᴰ.not-nil (subst (λ ns. Memᴰ h ns) (sym e ∙ z) (Memᴰ.head refl))))

    -- ---- the walk closes by these points

    module _ (points : List ℕ) (goes : circle links v ≡ some points) where
      closes_there : T (closes links v)
      closes_there = subst (λ (o : Option (List ℕ)). T (elim o [ none ↦ false | some points ↦ true ])) (sym goes) tt

      no_head : heads links ≡ []
      no_head = heads_cases (λ e. e) (λ m. absurd (subst T (head_open links m) closes_there))

      close : T (all_close links)
      close = no_head_close links law.single law.single_end no_head

      all_closed : site.closed ≡ true
      all_closed = law.closed ∙ yes_is (all_close links) close

      ring_is_lem : site.ring ≡ points
      ring_is_lem =
          law.ring
          ∙ ap (λ c. cond c (circle_of links) (chain_of links)) (yes_is (all_close links) close)
          ∙ some_is (sym (ring_circle links some_link close) ∙ ap (circle links) (sym (start.entered no_head)) ∙ goes)

      walks : Walks links v v points
      walks = walk_walks links v (length links) v goes

      closed_taken : (chains : Bool) → link_open chains site ≡ false
      unfolding link_open
      closed_taken chains = rw all_closed

      -- it has left links out
      found_many : (chains : Bool) → length points < length links → found_of chains site ≡ Err (record { number = 12 })
      unfolding many_circles whole
      found_many chains l =
          found_12 chains site held (closed_taken chains) (ap not (no_is (whole site) (not_T (whole site) (λ t.
          let on : (n : ℕ) → Memᴰ n (starts links) → Memᴰ n points = λ n m.
          has_e points n (rw ring_is_lem at (every_at (has site.ring) (starts links) t m))
          in
          omega (arith, start_count, no_more (starts links) points law.single on)))))

      -- it has left no link out
      found_ring : (chains : Bool) → length links ≤ length points → found_of chains site ≡ sized_of true points (regions_of site.removed)
      unfolding many_circles whole
      found_ring chains l =
          let on_ring : T (whole site) = every_i (has site.ring) (starts links) (λ n m.
          rw ring_is_lem (has_i points (no_fewer points (starts links) (walks_different links v walks)
          (λ n k. walks_start links v walks k) (omega (arith, start_count)) m))) in
          found_sized chains site held (closed_taken chains) (ap not (yes_is (whole site) on_ring)) ∙ rw (all_closed, ring_is_lem)

    -- ---- the walk ends

    module _ (ends_there : circle links v ≡ none) where
      at_head : Memᴰ v (heads links)
      at_head = heads_cases
          (λ e.
          let close = no_head_close links law.single law.single_end e in
          absurd (none_not (sym ends_there ∙ ap (circle links) (start.entered e) ∙ ring_circle links some_link close)))
          (λ m. m)

      unclosed : site.closed ≡ false
      unfolding all_close
      unclosed =
          law.closed
          ∙ no_is (all_close links) (not_T (all_close links) (λ t.
          subst T (head_open links at_head) (every_at (closes links) (starts links) t (head_e links at_head).0)))

      chain_is : site.ring ≡ chain_of links
      chain_is = law.ring ∙ ap (λ c. cond c (circle_of links) (chain_of links)) (sym law.closed ∙ unclosed)

      -- where rings alone are taken
      found_alone : found_of rings_alone site ≡ Err (record { number = 11 })
      unfolding link_open
      found_alone = found_11 rings_alone site held (rw unclosed)

      module _ (points : List ℕ) (followed : points ≡ follow (length links) links v) where
        run : Runs links v points
        run =
            let (others, w) = head_runs links law.single law.single_end at_head in
            subst (λ ps. Runs links v ps) (sym (followed ∙ run_followed links w)) w

        -- it has left links out
        found_broken : length points ≤ length links → found_of or_chains site ≡ Err (record { number = 11 })
        unfolding link_open whole
        found_broken l =
            let broken : whole site ≡ false = no_is (whole site) (not_T (whole site) (λ t.
            no_chain links law.single law.single_end at_head run l
            (subst (λ ring. T (every (has ring) (starts links))) chain_is t))) in
            found_11 or_chains site held (rw (unclosed, broken))

        -- it has left no link out
        found_chain : length links < length points → found_of or_chains site ≡ sized_of false points (regions_of site.removed)
        unfolding link_open many_circles whole
        found_chain l =
            let covers = more_covers links law.single law.single_end at_head run l in
            let is : site.ring ≡ points = chain_is ∙ run_chain links law.single law.single_end at_head run covers in
            let all : whole site ≡ true = yes_is (whole site) (subst (λ ring. T (every (has ring) (starts links))) (sym is) covers) in
            found_sized or_chains site held (rw (unclosed, all)) (ap not all) ∙ rw (unclosed, is)

-- ---- the same of a table, by the arrays that the code keeps

-- The links of a table in their arrays, and the regions of the rows that give them.
pub record Gathered (table : List ℕ) (n a b : ℕ) : Type 0 where
  pub pre : Table table n a b
  pub links : Links
  pub are : links_in links ≡ links_of a b (rows_in table n)
  pub regions : Regions
  pub of_rows : regions ≡ regions_of (those (holds_edge a b) (rows_in table n))

-- Some links of a table, and the walk from their first point.
pub record Gone (table : List ℕ) (n a b : ℕ) : Type 0 where
  pub gathered : Gathered table n a b
  pub some_link : 0 < gathered.links.n
  pub v : ℕ
  pub start : StartsAt (links_in gathered.links) v
  pub trail : Trail
  pub room : trail.m ≤ length trail.v
  pub went : walked trail ≡ circle (links_in gathered.links) v
  pub ended : trail.closed ≡ false → went_by trail ≡ follow gathered.links.n (links_in gathered.links) v

module _ {table : List ℕ} {n a b : ℕ} (g : Gathered table n a b) where
  links_are : links_in g.links ≡ (edge_in (rows_in table n) a b).links
  unfolding site_of
  links_are =
      let least : min a b ≡ a = omega (arith, g.pre.order) in
      let most : max a b ≡ b = omega (arith, g.pre.order) in
      rw (least, most) g.are

  regions_are : g.regions ≡ regions_of (edge_in (rows_in table n) a b).removed
  unfolding site_of
  regions_are =
      let least : min a b ≡ a = omega (arith, g.pre.order) in
      let most : max a b ≡ b = omega (arith, g.pre.order) in
      rw (least, most) g.of_rows

  table_ruled : Ruled (edge_in (rows_in table n) a b)
  table_ruled = ruled g.pre.count (record { points = []; rows = rows_in table n }) a b (λ i. omega (arith, g.pre.order)) g.pre.rule

  link_count : length (edge_in (rows_in table n) a b).links ≡ g.links.n
  link_count = sym (ap length links_are) ∙ in_length g.links

  pub gives_10 : (chains : Bool) → g.links.n ≡ 0 → Err (record { number = 10 }) ≡ found_of chains (edge_in (rows_in table n) a b)
  gives_10 chains h = sym (found_none_lem _ table_ruled chains (omega (arith, link_count)))

module _ {table : List ℕ} {n a b : ℕ} (gone : Gone table n a b) where
  abbrev its : Site
  its = edge_in (rows_in table n) a b

  law_of : Ruled its
  law_of = table_ruled gone.gathered

  some_here : 0 < length its.links
  some_here = omega (arith, link_count gone.gathered, gone.some_link)

  starts_here : StartsAt its.links gone.v
  starts_here = subst (λ ls. StartsAt ls gone.v) (links_are gone.gathered) gone.start

  circle_is : circle its.links gone.v ≡ walked gone.trail
  circle_is = rw (← (links_are gone.gathered)) (sym gone.went)

  size : length (went_by gone.trail) ≡ gone.trail.m
  size = length-take-le gone.trail.m gone.trail.v gone.room

  -- the walk came back
  module _ (closed : gone.trail.closed ≡ true) where
    goes : circle its.links gone.v ≡ some (went_by gone.trail)
    goes = circle_is ∙ rw closed

    pub gives_12 : (chains : Bool) → gone.trail.m < gone.gathered.links.n → Err (record { number = 12 }) ≡ found_of chains its
    gives_12 chains l =
        sym (found_many its law_of some_here gone.v starts_here _ goes chains (omega (arith, size, link_count gone.gathered)))

    pub gives_ring : (chains : Bool) → gone.gathered.links.n ≤ gone.trail.m
        → sized_of gone.trail.closed (went_by gone.trail) gone.gathered.regions ≡ found_of chains its
    gives_ring chains l =
        rw (closed, regions_are gone.gathered)
        (sym (found_ring its law_of some_here gone.v starts_here _ goes chains (omega (arith, size, link_count gone.gathered))))

  -- it ended
  module _ (ended : gone.trail.closed ≡ false) where
    stops : circle its.links gone.v ≡ none
    stops = circle_is ∙ rw ended

    followed : went_by gone.trail ≡ follow (length its.links) its.links gone.v
    followed = gone.ended ended ∙ rw (links_are gone.gathered, link_count gone.gathered)

    pub gives_alone : {chains : Bool} → chains ≡ false → Err (record { number = 11 }) ≡ found_of chains its
    gives_alone c = rw c (sym (found_alone its law_of some_here gone.v starts_here stops))

    pub gives_broken : {chains : Bool} → chains ≡ true → gone.trail.m ≤ gone.gathered.links.n → Err (record { number = 11 }) ≡ found_of chains its
    gives_broken c l =
        rw c (sym (found_broken its law_of some_here gone.v starts_here stops _ followed
        (omega (arith, size, link_count gone.gathered))))

    pub gives_chain : {chains : Bool} → chains ≡ true → gone.gathered.links.n < gone.trail.m
        → sized_of gone.trail.closed (went_by gone.trail) gone.gathered.regions ≡ found_of chains its
    gives_chain c l =
        rw (c, ended, regions_are gone.gathered) (sym (found_chain its law_of some_here gone.v starts_here stops _ followed
        (omega (arith, size, link_count gone.gathered))))
