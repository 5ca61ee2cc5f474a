-- `find` gathers the links and walks from their first point; each way out is one case of the law.
use Prim.Native.Nat.{ℕ, ◌≤◌}
use mathlib.Core.Bool.{false}
use mathlib.Core.List.{List}
use mathlib.Core.Path.{◌≡◌, ◌∙◌}
use native.Mathlib.Omega.{arith}
use lib.ListN.{length}
use Rattle.lists.specs.Lists.{those}
use Rattle.rows.specs.declared.Regions.{Regions}
use Rattle.rows.specs.Rows.{rows_in, holds_edge}
use Rattle.rows.specs.Steps.{regions_of}
use Rattle.links.specs.declared.Links.{Links}
use Rattle.links.specs.Links.{links_of}
use Rattle.links.specs.Steps.{links_in, Table}
use Rattle.walk.specs.declared.Trail.{Trail}
use Rattle.walk.specs.Walk.{circle, follow}
use Rattle.walk.specs.Steps.{went_by, walked, StartsAt}
use Rattle.ring.proofs.FoundByWalking.{Gathered, Gone, gives_10, gives_12, gives_ring, gives_alone, gives_broken, gives_chain}
use Rattle.ring.proofs.find.Goals as goal

-- the links and the regions of a table's rows
abbrev gathered : {table : List ℕ} {n a b : ℕ} → Table table n a b → (links : Links) (regions : Regions)
    → links_in links ≡ links_of a b (rows_in table n) → regions ≡ regions_of (those (holds_edge a b) (rows_in table n))
    → Gathered table n a b
gathered pre links regions are of_rows = record { pre = pre; links = links; are = are; regions = regions; of_rows = of_rows }

-- after the walk
abbrev gone : {table : List ℕ} {n a b : ℕ} (g : Gathered table n a b) → (g.links.n ≡ 0 → ⊥) → (v : ℕ) → StartsAt (links_in g.links) v → (trail : Trail)
    → trail.m ≤ length trail.v → walked trail ≡ circle (links_in g.links) v
    → (trail.closed ≡ false → went_by trail ≡ follow g.links.n (links_in g.links) v) → Gone table n a b
gone g some_link v start trail room went ended =
    record {
      gathered = g;
      some_link = omega arith;
      v = v;
      start = start;
      trail = trail;
      room = room;
      went = went;
      ended = ended;
    }

pub returns-then-links-eq0 : goal.returns-then-links-eq0
returns-then-links-eq0 c =
    let got = c.gather-round in
    let g = gathered c.requires got.result.links got.result.regions got.ensures.1 got.ensures.3 in
    gives_10 g c.args.chains c.if-links-eq0.true

pub walk-trail-requires : goal.walk-trail-requires
walk-trail-requires c =
    let got = c.gather-round in
    record {
      rows = c.args.n;
      meshed = c.requires;
      few = got.ensures.0;
      linked = got.ensures.1;
      placed = got.ensures.2;
    }

pub returns-then-trail-links : goal.returns-then-trail-links
returns-then-trail-links c =
    let got = c.gather-round in
    let g = gathered c.requires got.result.links got.result.regions got.ensures.1 got.ensures.3 in
    let went = c.walk-trail in
    let w = gone g c.if-links-eq0.false c.first_point.result c.first_point.ensures went.result went.ensures.0 went.ensures.1 went.ensures.2 in
    gives_12 w c.if-trail.true _ c.if-trail-links.true

pub returns-then-trail : goal.returns-then-trail
returns-then-trail c =
    let got = c.gather-round in
    let g = gathered c.requires got.result.links got.result.regions got.ensures.1 got.ensures.3 in
    let went = c.walk-trail in
    let w = gone g c.if-links-eq0.false c.first_point.result c.first_point.ensures went.result went.ensures.0 went.ensures.1 went.ensures.2 in
    c.sized.ensures ∙ gives_ring w c.if-trail.true _ c.if-trail-links.false

pub returns-then-not-chains : goal.returns-then-not-chains
returns-then-not-chains c =
    let got = c.gather-round in
    let g = gathered c.requires got.result.links got.result.regions got.ensures.1 got.ensures.3 in
    let went = c.walk-trail in
    let w = gone g c.if-links-eq0.false c.first_point.result c.first_point.ensures went.result went.ensures.0 went.ensures.1 went.ensures.2 in
    gives_alone w c.if-trail.false (c.if-not-chains.true)

pub returns-then-trail-links-2 : goal.returns-then-trail-links-2
returns-then-trail-links-2 c =
    let got = c.gather-round in
    let g = gathered c.requires got.result.links got.result.regions got.ensures.1 got.ensures.3 in
    let went = c.walk-trail in
    let w = gone g c.if-links-eq0.false c.first_point.result c.first_point.ensures went.result went.ensures.0 went.ensures.1 went.ensures.2 in
    gives_broken w c.if-trail.false
    (c.if-not-chains.false) c.if-trail-links-2.true

pub returns : goal.returns
returns c =
    let got = c.gather-round in
    let g = gathered c.requires got.result.links got.result.regions got.ensures.1 got.ensures.3 in
    let went = c.walk-trail in
    let w = gone g c.if-links-eq0.false c.first_point.result c.first_point.ensures went.result went.ensures.0 went.ensures.1 went.ensures.2 in
    c.sized-2.ensures
    ∙ gives_chain w c.if-trail.false
    (c.if-not-chains.false) (omega (arith, c.if-trail-links-2.false))
