-- Requirement §6: the ring and the open chain; and §9, answers 9 to 13 and 19.
use Rattle.std.specs.Prelude.{ℕ, ◌-◌, min, max, Bool, true, false, cond, not, ◌&&◌, ◌||◌, List, [], ◌∷◌, ◌++◌, map, eqb, ltb, pos, length, get_or}
use Rattle.lists.specs.Lists.{every, those, has, different}
use Rattle.volume.specs.declared.Point.{Point}
use Rattle.volume.specs.Volume.{D, same_z}
use Rattle.rows.specs.declared.Row.{Row}
use Rattle.rows.specs.Rows.{holds_edge}
use Rattle.rows.specs.RowMeasure.{place}
use Rattle.layout.specs.Layout.{Patch, filled}
use Rattle.answers.specs.Answers.{Tests}
use Rattle.links.specs.Links.{Link, link, starts}
use Rattle.walk.specs.Walk.{all_close, circle_of, chain_of}
use Rattle.ring.specs.declared.Ring.{Ring}

-- ---- the edge in its patch

-- The ends in order, a < b; the rows that go and the rows kept, each in order; the links; whether they all close; and v1..vm, the ring
-- if they do and otherwise the chain.
pub record Site : Type 0 where
  pub points : List Point
  pub a : ℕ
  pub b : ℕ
  pub removed : List Row
  pub kept : List Row
  pub links : List Link
  pub closed : Bool
  pub ring : List ℕ

-- the edge's two ends are put in order, a < b; either order given has the same answer
unfoldable pub site_of : Patch → ℕ → ℕ → Site
site_of patch e f =
    let a = min e f in
    let b = max e f in
    let removed = those (holds_edge a b) patch.rows in
    let kept = those (λ row. not (holds_edge a b row)) patch.rows in
    let links = map (link a b) removed in
    let closed = all_close links in
    record {
      points = patch.points;
      a = a;
      b = b;
      removed = removed;
      kept = kept;
      links = links;
      closed = closed;
      ring = cond closed (circle_of links) (chain_of links);
    }

-- m is the length of the ring, or of the chain, in points
abbrev pub m : Site → ℕ
m site = length site.ring

-- D(a,b,v1,vm) is 0, and nothing more
unfoldable pub flat : Site → Bool
flat site =
    let at = place site.points in
    let v1 = get_or site.ring 0 0 in
    let vm = get_or site.ring (m site - 1) 0 in
    same_z (D (at site.a) (at site.b) (at v1) (at vm)) (pos 0)

-- ---- answers 9 to 13 and 19: what each is given for

-- the smallest m
abbrev pub min_ring : ℕ
min_ring = 3

-- the largest m
abbrev pub max_ring : ℕ
max_ring = 10

-- 9: edge or face number not below the point count, or equal to another
unfoldable pub numbers_wrong : ℕ → List ℕ → Bool
numbers_wrong count ns = not (every (λ n. ltb n count) ns && different ns)

-- 10: no row holds the edge
abbrev pub edge_missing : Site → Bool
edge_missing site = eqb (length site.removed) 0

-- the ring, or the chain, goes by every link, so there is no other circle and no other chain
unfoldable pub whole : Site → Bool
whole site = every (has site.ring) (starts site.links)

-- what a call takes: a closed ring alone, or an open chain too
abbrev pub rings_alone : Bool
rings_alone = false

abbrev pub or_chains : Bool
or_chains = true

-- 11: the links do not all close; where chains are taken too, it is given for any other open case than exactly one chain
unfoldable pub link_open : Bool → Site → Bool
link_open chains site = not site.closed && not (chains && whole site)

-- 12: more than one closed circle, so some link is not on the ring
unfoldable pub many_circles : Site → Bool
many_circles site = not (whole site)

-- 13: m below 3 or over 10
abbrev pub length_wrong : Site → Bool
length_wrong site = ltb (m site) min_ring || ltb max_ring (m site)

-- 19: the chain is not flat
abbrev pub not_flat : Site → Bool
not_flat site = not (site.closed || flat site)

-- 10 to 12 of a call on an edge, by what it takes
abbrev pub round_tests : Bool → Site → Tests
round_tests chains site = (10, edge_missing site) ∷ (11, link_open chains site) ∷ (12, many_circles site) ∷ []

-- 9 to 12 of a call on an edge, by what it takes
unfoldable pub edge_tests : Bool → Site → ℕ → ℕ → Tests
edge_tests chains site e f = (9, numbers_wrong (length site.points) (e ∷ f ∷ [])) ∷ round_tests chains site

-- 13 of a removal
abbrev pub length_tests : Site → Tests
length_tests site = (13, length_wrong site) ∷ []

-- 10 to 13, tested from the top, by what the call takes
unfoldable pub ring_tests : Bool → Site → Tests
ring_tests chains site = round_tests chains site ++ length_tests site

-- ---- the ring as a type

-- the ring, or the chain, of some points, of which there are at most 10
abbrev pub ring_with : List ℕ → Ring
ring_with points = record { m = length points; v = filled max_ring points }
