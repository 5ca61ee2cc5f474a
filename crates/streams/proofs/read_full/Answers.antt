-- One read more: behind what stood in the buffer stands what was read.
use Rattle.std.proofs.Common.{◌≡◌, ℕ, ◌+◌, ◌-◌, ◌≤◌, List, ◌++◌, rules, length, take, sym, ap, ◌∙◌, subst, le_refl, drop_at, length-take-le}
use Rattle.std.proofs.Math.Path.{ap₂}
use Rattle.std.proofs.lemmas.Slice.{take-put_mid_below}
use Rattle.std.specs.Io.KnownBytes.{Consumes}
use Rattle.std.proofs.KnownBytes.{Consumes-trans}
use borrow.Rule.Slice.PartMut.{put_mid, post_of}
use lib.Seq.{take-add, take-append-le}
use Rattle.streams.proofs.read_full.Goals as goal

-- the front with n bytes more, of a list into whose middle they were put
front_and_more : (at room n : ℕ) (xs ys : List ℕ) → at ≤ length xs → n ≤ length ys → take at xs ++ take n ys ≡ take (at + n) (put_mid at room xs ys)
front_and_more at room n xs ys within fits =
    let behind = drop_at (take at xs) (ys ++ post_of at room xs) at (length-take-le at xs within) in
    sym (take-add at n (put_mid at room xs ys)
    ∙ ap₂ ◌++◌ (take-put_mid_below _ _ _ _ _ (le_refl _) within) (ap (take n) behind ∙ take-append-le n ys (post_of at room xs) fits))

pub loop-done-preserved : goal.loop-done-preserved
loop-done-preserved g c =
    let at = c.loop-done.done in
    let room = length c.loop-done.buf - at in
    let more = front_and_more at room c.some-n.result c.loop-done.buf c.some-n.new.buf c.loop-done.invariant.0 c.some-n.ensures.in_bounds in
    (search rules, subst (Consumes _ _) more (Consumes-trans _ _ _ _ _ c.loop-done.invariant.1 c.some-n.ensures.bytes))
