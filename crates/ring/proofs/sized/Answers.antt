-- `sized` tests the length of the points that the walk went by.
use borrow.Author.Tests.{lt-ltb, le-ltb}
use lib.Seq.{length-take-le}
use Rattle.ring.specs.Ring.{min_ring, max_ring}
use Rattle.ring.specs.Steps.{sized_of}
use Rattle.ring.proofs.sized.Goals as goal

pub returns-then-trail-lt-MIN_RING : goal.returns-then-trail-lt-MIN_RING
unfolding sized_of
returns-then-trail-lt-MIN_RING c =
    let trail = c.args.trail in
    let size = length-take-le trail.m trail.v c.requires in
    rw (size, lt-ltb trail.m min_ring c.if-trail-lt-MIN_RING.true)

pub returns-then-trail-gt-MAX_RING : goal.returns-then-trail-gt-MAX_RING
unfolding sized_of
returns-then-trail-gt-MAX_RING c =
    let trail = c.args.trail in
    let size = length-take-le trail.m trail.v c.requires in
    rw (size, le-ltb trail.m min_ring c.if-trail-lt-MIN_RING.false, lt-ltb max_ring trail.m c.if-trail-gt-MAX_RING.true)

pub returns : goal.returns
unfolding sized_of
returns c =
    let trail = c.args.trail in
    let size = length-take-le trail.m trail.v c.requires in
    rw (
      c.ring_of.ensures,
      size,
      le-ltb trail.m min_ring c.if-trail-lt-MIN_RING.false,
      le-ltb max_ring trail.m c.if-trail-gt-MAX_RING.false,
    )
