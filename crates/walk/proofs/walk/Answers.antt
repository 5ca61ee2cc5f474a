-- `walk` takes the steps of the definitions: the points so far, and then the walk that is left, are the circle; the points so far,
-- and then those that follow, are the chain.
-- The inner loop has passed only links that do not start here, so the step goes by those that are left.
use Prim.Native.Nat.{ℕ, ◌+◌, ◌≤◌, ◌-◌}
use mathlib.Core.List.{List, ◌++◌}
use mathlib.Core.Option.{none, some}
use mathlib.Core.Path.{◌≡◌, refl, sym, ap, ◌∙◌, subst}
use native.Mathlib.Numerals.{add-one}
use native.Mathlib.Omega.{arith}
use lib.Dec.{T}
use lib.ListN.{length, take, set, length-set, drop_of_length-le}
use Rattle.links.specs.Links.{Link, next}
use Rattle.walk.specs.Walk.{walk, circle, follow}
use Rattle.links.specs.Steps.{links_in}
use Rattle.walk.proofs.WalkStepwise.{onto, onto_none, walk_closes, walk_goes, walk_stops, walk_spent}
use Rattle.links.proofs.NextLink.{next_here, next_later}
use Rattle.walk.proofs.WalkStepwise.{follow_goes, follow_ends, follow_spent}
use Rattle.links.proofs.LinkArrays.{in_length, in_drop}
use Rattle.links.proofs.LinksByPlace.{place_inside, place_linked, place_link}
use Rattle.walk.proofs.walk.Goals.{else-walk-test, then-walk-test+else-loop-i-test}
use Rattle.walk.proofs.walk.Goals as goal

-- the inner loop leaves the walk so far as it was
inside : (links : List Link) (start n : ℕ) {v v' : List ℕ} {here here' m m' : ℕ} → v ≡ v' → here ≡ here' → m ≡ m'
    → circle links start ≡ onto (take m' v') (walk (n - m') links start here')
    → circle links start ≡ onto (take m v) (walk (n - m) links start here)
inside links start n p q r e = rw (p, q, r) e

inside_follow : (links : List Link) (start n : ℕ) {v v' : List ℕ} {here here' m m' : ℕ} → v ≡ v' → here ≡ here' → m ≡ m'
    → follow n links start ≡ take m' v' ++ follow (n - m') links here'
    → follow n links start ≡ take m v ++ follow (n - m) links here
inside_follow links start n p q r e = rw (p, q, r) e

pub walk-init : goal.walk-init
walk-init c =
    let args = c.args in
    let links = links_in args.links in
    let e : length links ≡ args.links.n - 0 = omega (arith, in_length args.links) in
    let all : args.links.n ≡ args.links.n - 0 = omega arith in
    (omega arith, refl, refl, rw e (onto_none _), ap (λ k. follow k links args.start) all)

pub loop-i-init : goal.loop-i-init
loop-i-init c = (refl, refl, refl, omega arith, refl)

pub row_in-row-requires : goal.row_in-row-requires
row_in-row-requires c =
    place_inside c.requires c.loop-i.i c.loop-i-test.true

pub link_of-link-requires : goal.link_of-link-requires
link_of-link-requires c =
    rw c.row_in-row.ensures
    (place_linked c.requires c.loop-i.i c.loop-i-test.true)

pub returns-then-here-start : goal.returns-then-here-start
returns-then-here-start c =
    let inv = c.loop-i.invariant in
    let out = c.walk.invariant in
    let links = c.args.links in
    let start = c.args.start in
    let kept = place_link c.requires c.loop-i.i c.loop-i-test.true c.row_in-row.ensures c.link_of-link.ensures in
    -- the row that is read leads where the step goes
    let step : next (links_in links) c.loop-i.here ≡ some c.link_of-link.result.w =
    inv.4 ∙ next_here (in_drop links c.loop-i.i c.loop-i-test.true) c.if-here-links.true
    ∙ ap some (sym (ap (λ (l : Link). l.1) kept)) in
    let so_far = inside (links_in links) start links.n inv.0 inv.1 inv.2 out.3 in (
      simp length-set (rw inv.0 (omega arith)),
      walk_closes (links_in links) start links.n c.loop-i.m c.loop-i.v c.loop-i.here so_far (omega arith)
          (rw inv.0 (omega arith)) (step ∙ ap some c.if-here-start.true),
      λ no. absurd (subst T no tt),
    )

pub walk-preserved : goal.walk-preserved
walk-preserved c =
    let inv = c.loop-i.invariant in
    let out = c.walk.invariant in
    let links = c.args.links in
    let start = c.args.start in
    let kept = place_link c.requires c.loop-i.i c.loop-i-test.true c.row_in-row.ensures c.link_of-link.ensures in
    -- the row that is read leads where the step goes
    let step : next (links_in links) c.loop-i.here ≡ some c.link_of-link.result.w =
    inv.4 ∙ next_here (in_drop links c.loop-i.i c.loop-i-test.true) c.if-here-links.true
    ∙ ap some (sym (ap (λ (l : Link). l.1) kept)) in
    let so_far = inside (links_in links) start links.n inv.0 inv.1 inv.2 out.3 in
    let followed = inside_follow (links_in links) start links.n inv.0 inv.1 inv.2 out.4 in (
      omega arith,
      refl,
      simp length-set (rw inv.0 out.2),
      walk_goes (links_in links) start links.n c.loop-i.m c.loop-i.v c.loop-i.here so_far (omega arith)
          (rw inv.0 (omega arith)) step c.if-here-start.false,
      follow_goes (links_in links) start links.n c.loop-i.m c.loop-i.v c.loop-i.here followed
          (rw inv.0 (omega arith)) (omega arith) step,
    )

pub loop-i-preserved : goal.loop-i-preserved
loop-i-preserved c =
    let inv = c.loop-i.invariant in
    let first = in_drop c.args.links c.loop-i.i c.loop-i-test.true in
    (inv.0, inv.1, inv.2, omega arith, rw add-one (inv.4 ∙ next_later first c.if-here-links.false))

-- where the walk has ended: its points, with the one where it stands, are those that follow
abbrev Ended : goal.Left-walk → Type 0
Ended c =
    let args = c.args in
    let links = links_in args.links in
    let at = c.walk-test in
    (at.m ≤ args.links.n) × (length at.v ≡ 61) × (none ≡ circle links args.start)
    × (take (at.m + 1) (set at.v at.m at.here) ≡ follow args.links.n links args.start)

ended : (c : goal.Left-walk) → Ended c
unfolding next
ended c =
    let at = c.walk in
    let links = c.args.links in
    let start = c.args.start in
    elim c.walk-test.branch [
      | else-walk-test w ↦ (
        omega arith,
        rw w.v-is at.invariant.2,
        walk_spent (links_in links) start links.n at.m at.v at.here at.invariant.3 (omega arith),
        rw (w.v-is, w.here-is, w.m-is)
            (follow_spent (links_in links) start links.n at.m at.v at.here at.invariant.4 (omega arith) (omega arith)),
      )
      | then-walk-test+else-loop-i-test w ↦
          let inv = w.loop-i.invariant in
          let d = drop_of_length-le (links_in links) {i = w.loop-i.i} (omega (arith, w.loop-i-test.false, in_length links)) in
          let stuck : next (links_in links) w.loop-i.here ≡ none = inv.4 ∙ rw d in
          let none_on : next (links_in links) at.here ≡ none = rw inv.1 at stuck in (
            omega (arith, w.m-is, inv.2),
            rw (w.v-is, inv.0) at.invariant.2,
            walk_stops (links_in links) start links.n at.m at.v at.here at.invariant.3 none_on,
            rw (w.v-is, w.here-is, w.m-is, inv.0, inv.1, inv.2)
                (follow_ends (links_in links) start links.n at.m at.v at.here at.invariant.4 (omega arith) none_on),
          )
    ]

pub bounds-v-m-2 : goal.bounds-v-m-2
bounds-v-m-2 c = omega (arith, (ended c).0)

pub overflow_add-result : goal.overflow_add-result
overflow_add-result c = omega (arith, (ended c).0)

pub returns : goal.returns
returns c =
    let (low, size, open-end, followed) = ended c in
    (simp length-set (omega arith), open-end, λ _. followed)
