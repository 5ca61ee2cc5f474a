-- The invariant of `put_ring`: the points of the ring that were passed stand behind the word, each as a field.
use mathlib.Core.List.{flat_map}
use native.Mathlib.Numerals.{add-one}
use lib.ListN.{get_or, take}
use lib.Seq.{take-suc, take_all}
use Rattle.lines.specs.Lines.{text, line}
use Rattle.text.proofs.BytesBehindAText.{none_put, then_put}
use Rattle.lines.proofs.FieldsOfALine.{fields_put, fields_more}
use Rattle.lines.proofs.put_ring.Goals as goal

pub loop-point-init : goal.loop-point-init
unfolding flat_map
loop-point-init c = none_put _

pub loop-point-preserved : goal.loop-point-preserved
loop-point-preserved c =
    let points = take c.args.ring.m c.args.ring.v in
    let i = c.loop-point.point-index in
    let more = fields_more (take i points) (get_or points i 0) in
    let longer = take-suc points i 0 c.loop-point-test.true in
    rw (add-one i, longer, more) (then_put c.loop-point.invariant c.put_number-line.ensures)

pub returns : goal.returns
unfolding line text
returns c =
    let all = take_all c.loop-point.point-index (take c.args.ring.m c.args.ring.v) c.loop-point-test.false in
    then_put c.put_word-line.ensures (fields_put _ (rw all at c.loop-point.invariant) c.put_end.ensures)
