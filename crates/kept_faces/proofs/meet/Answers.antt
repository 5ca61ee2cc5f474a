-- `meet` has met a, b and the first points of the ring.
use Prim.Native.Nat.{◌<◌}
use mathlib.Core.Bool.{true}
use native.Mathlib.Omega.{arith}
use lib.ListN.{length, set, length-set}
use lib.Seq.{get_or-take, length-take-le}
use Rattle.kept_faces.proofs.KeptFacesLookedUp.{just_met, still_met, one_more}
use Rattle.kept_faces.proofs.meet.Goals as goal

pub loop-v-init : goal.loop-v-init
loop-v-init c =
    let rim = c.args.rim in
    let a = c.place in
    let b = c.place-2 in
    let met = c.args.met.now in
    let one = set met a.result true in
    let a_fits : a.result < length met = omega arith in
    let b_fits : b.result < length one = simp length-set (omega arith) in record {
      a = still_met one b.result rim.a b_fits (just_met met rim.a a.result a.ensures.0 a_fits);
      b = just_met one rim.b b.result b.ensures.0 b_fits;
      v = λ l h. absurd (omega arith);
    }

pub loop-v-preserved : goal.loop-v-preserved
loop-v-preserved c =
    let l = c.loop-v in
    let rim = c.args.rim in
    let at = c.place-in-loop-v.result in
    let fits : at < length l.met = omega arith in record {
      a = still_met l.met at rim.a fits l.invariant.a;
      b = still_met l.met at rim.b fits l.invariant.b;
      v = one_more l.met _ l.v-index at c.place-in-loop-v.ensures.0 fits l.invariant.v;
    }

pub returns : goal.returns
returns c =
    let l = c.loop-v in
    let m = c.args.m in
    let v = c.args.rim.v in
    let size = length-take-le m v (omega arith) in record {
      a = l.invariant.a;
      b = l.invariant.b;
      v = λ i h. rw (← get_or-take m v i 0 h) (l.invariant.v i (omega arith));
    }
