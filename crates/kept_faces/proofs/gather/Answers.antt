-- `gather` has the keys of the first i rows: of the faces whose numbers are all met, where `meet` met the rim.
use mathlib.Core.List.{flat_map}
use mathlib.Core.Path.{◌≡◌, sym, ◌∙◌}
use native.Mathlib.Omega.{arith}
use Rattle.lists.specs.Lists.{numbers_from, those}
use Rattle.rows.specs.Rows.{rows_in}
use Rattle.kept_faces.specs.Steps.{keyed}
use Rattle.kept_faces.proofs.KeptFacesLookedUp.{kept_more}
use Rattle.kept_faces.proofs.gather.Goals as goal

pub loop-i-init : goal.loop-i-init
unfolding rows_in numbers_from those flat_map keyed
loop-i-init c = record { room = rw c.clear.ensures (omega arith); stored = c.clear.ensures }

pub loop-i-preserved : goal.loop-i-preserved
loop-i-preserved c =
    let rim = c.args.rim in record {
      room = omega arith;
      stored = c.add_row.ensures.added
          ∙ rw (c.loop-i.invariant.stored, c.row_in.ensures) (sym (kept_more c.args.table.now _ rim.a rim.b c.loop-i.i));
    }

pub returns : goal.returns
returns c =
    let e : c.loop-i.i ≡ c.args.n = omega arith in
    record { met = _; points = c.meet.ensures; are = rw e at c.loop-i.invariant.stored }
