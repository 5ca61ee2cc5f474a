-- The rows that stay and the rows of the apexes are the table afterwards.
use native.Mathlib.Omega.{arith}
use Rattle.replacement.proofs.CarriedOut.{keep_room, expand_ready, expand_room, dress_room, carried_out}
use Rattle.replacement.proofs.carry_out.Goals as goal

pub keep_others-kept-requires : goal.keep_others-kept-requires
keep_others-kept-requires c =
    let args = c.args in
    let (held, room) = keep_room args.edge.now
    c.requires in
    (omega (arith, held), omega (arith, room))

pub expand-end-requires : goal.expand-end-requires
expand-end-requires c =
    let args = c.args in
    record {
      apexes_len =
          expand_ready args.edge.now c.requires _
          c.keep_others-kept.ensures.0 _ c.keep_others-kept.ensures.1;
      i_in_bounds =
          expand_room args.edge.now c.requires _
          c.keep_others-kept.ensures.0 _ c.keep_others-kept.ensures.1;
    }

pub dress-requires : goal.dress-requires
dress-requires c =
    let args = c.args in
    let (from, room) = dress_room args.edge.now
    c.requires _ c.keep_others-kept.ensures.0 _ c.keep_others-kept.ensures.1 _ _ c.expand-end.ensures.1 in
    record {
      n_in_bounds = (args.edge.now.ringed.ready.rows, omega (arith, args.edge.now.ringed.ready.few_rows), args.edge.now.ringed.agrees);
      from_le_end = (from, room);
    }

pub returns : goal.returns
returns c =
    let args = c.args in
    carried_out args.edge.now c.requires _
    c.keep_others-kept.ensures.0 _ c.keep_others-kept.ensures.1 _ _ c.expand-end.ensures.1 _ c.dress.ensures
