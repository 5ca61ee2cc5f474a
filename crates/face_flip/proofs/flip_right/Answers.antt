-- `flip_right` tests 10, 11, 18, 20, 23, 14 and 15, in this order, and writes only behind the last.
use native.Mathlib.Omega.{arith}
use Rattle.layout.proofs.BytesOfSlices.{all_bytes}
use Rattle.tally.proofs.OpensMeasured.{block_size, few_rows, marks_agree}
use Rattle.face_flip.proofs.FlippedFaces.{few_kept, is_10, is_11, is_18, is_20, is_23, is_14, is_15, is_0}
use Rattle.face_flip.proofs.FlippedFaces.{begun_long, found_linked, keep_size, two_size, table_size, done_size}
use Rattle.face_flip.proofs.flip_right.Goals as goal

pub bounds-block-2 : goal.bounds-block-2
bounds-block-2 c =
    omega (arith, block_size c.args.block.now c.requires.opens)

pub overflow_cast-n : goal.overflow_cast-n
overflow_cast-n c = omega (arith, c.type_inv.block 2)

pub share-requires : goal.share-requires
share-requires c =
    let block = c.args.block.now in
    (omega (arith, few_rows block c.requires.opens, block_size block c.requires.opens), few_rows block c.requires.opens)

pub returns-in_default : goal.returns-in_default
returns-in_default c =
    let a = c.args in
    let both = is_10 a.block.now a.out.now a.x a.y a.z c.requires (rw c.in_default.is at c.share.ensures) in
    record { answer = both.0; bytes = both.1 }

pub returns-then-found-eq1 : goal.returns-then-found-eq1
returns-then-found-eq1 c =
    let a = c.args in
    let both =
    is_11 a.block.now a.out.now a.x a.y a.z c.requires c.in-Some.found c.in-Some.ensures c.if-found-eq1.true in
    record { answer = both.0; bytes = both.1 }

pub returns-then-found : goal.returns-then-found
returns-then-found c =
    let a = c.args in
    let both =
    is_18 a.block.now a.out.now a.x a.y a.z c.requires c.in-Some.found c.in-Some.ensures
    c.if-found-eq1.false c.if-found.true in
    record { answer = both.0; bytes = both.1 }

pub returns-in_default-regions : goal.returns-in_default-regions
returns-in_default-regions c =
    let a = c.args in
    let both =
    is_20 a.block.now a.out.now a.x a.y a.z c.requires c.in-Some.found c.in-Some.ensures
    c.if-found-eq1.false c.if-found.false c.in_default-regions.is in
    record { answer = both.0; bytes = both.1 }

pub mark_goes-requires : goal.mark_goes-requires
mark_goes-requires c =
    omega (arith, few_rows c.args.block.now c.requires.opens, block_size c.args.block.now c.requires.opens)

pub returns-then-mark_goes : goal.returns-then-mark_goes
returns-then-mark_goes c =
    let a = c.args in
    let both =
    is_23 a.block.now a.out.now a.x a.y a.z c.requires c.in-Some.found c.in-Some.ensures
    c.if-found-eq1.false c.if-found.false _ c.in-One.is _ c.mark_goes.ensures c.if-mark_goes.true in
    record { answer = both.0; bytes = both.1 }

pub keep_others-kept-requires : goal.keep_others-kept-requires
keep_others-kept-requires c =
    let block = c.args.block.now in
    let size = begun_long block c.requires.opens _ c.begin.ensures in
    (omega (arith, few_rows block c.requires.opens, block_size block c.requires.opens), omega (arith, few_rows block c.requires.opens))

pub overflow_add-kept : goal.overflow_add-kept
overflow_add-kept c =
    let a = c.args in
    omega (arith, c.keep_others-kept.ensures.0, few_kept a.block.now a.x a.y a.z c.requires.opens)

pub returns-then-kept-gt-MAX_ROWS : goal.returns-then-kept-gt-MAX_ROWS
returns-then-kept-gt-MAX_ROWS c =
    let a = c.args in
    let both =
    is_14 a.block.now a.out.now a.x a.y a.z c.requires c.in-Some.found c.in-Some.ensures
    c.if-found-eq1.false c.if-found.false _ c.in-One.is _ c.mark_goes.ensures
    c.if-mark_goes.false _ c.begin.ensures _ _ c.keep_others-kept.ensures.0 c.keep_others-kept.ensures.1 c.if-kept-gt-MAX_ROWS.true in
    record { answer = both.0; bytes = both.1 }

pub put_three-requires : goal.put_three-requires
put_three-requires c =
    let a = c.args in
    let size = keep_size a.block.now a.out.now a.x a.y a.z c.requires c.in-Some.found c.in-Some.ensures
    c.if-found-eq1.false c.if-found.false _ c.in-One.is _ c.mark_goes.ensures
    c.if-mark_goes.false _ c.begin.ensures _ _ c.keep_others-kept.ensures.0 c.keep_others-kept.ensures.1 in
    record {
      at_in_bounds =
          omega (arith, c.if-kept-gt-MAX_ROWS.false);
      linked_row =
          found_linked a.block.now a.out.now a.x a.y a.z c.requires c.in-Some.found c.in-Some.ensures
          c.if-found-eq1.false c.if-found.false _ c.in-One.is _ c.mark_goes.ensures
          c.if-mark_goes.false _ c.begin.ensures _ _ c.keep_others-kept.ensures.0 c.keep_others-kept.ensures.1 c.least.result c.least.ensures;
    }

pub dress-requires : goal.dress-requires
dress-requires c =
    let a = c.args in
    let size = two_size a.block.now a.out.now a.x a.y a.z c.requires c.in-Some.found c.in-Some.ensures
    c.if-found-eq1.false c.if-found.false _ c.in-One.is _ c.mark_goes.ensures
    c.if-mark_goes.false _ c.begin.ensures _ _ c.keep_others-kept.ensures.0 c.keep_others-kept.ensures.1 c.if-kept-gt-MAX_ROWS.false c.least.result
    c.least.ensures _ c.put_three.ensures in
    let block = a.block.now in
    record {
      n_in_bounds =
          (omega (arith, few_rows block c.requires.opens, block_size block c.requires.opens), omega (arith, few_rows block c.requires.opens), marks_agree block c.requires.opens);
      from_le_end =
          (omega arith, omega (arith, c.if-kept-gt-MAX_ROWS.false));
    }

pub bounds-block-1 : goal.bounds-block-1
bounds-block-1 c =
    let a = c.args in
    omega (arith, block_size a.block.now c.requires.opens)

pub overflow_cast-block : goal.overflow_cast-block
overflow_cast-block c = omega (arith, c.type_inv.block 1)

pub keeps_mesh_rule-requires : goal.keeps_mesh_rule-requires
keeps_mesh_rule-requires c =
    let a = c.args in
    let size = table_size a.block.now a.out.now a.x a.y a.z c.requires c.in-Some.found c.in-Some.ensures
    c.if-found-eq1.false c.if-found.false _ c.in-One.is _ c.mark_goes.ensures
    c.if-mark_goes.false _ c.begin.ensures _ _ c.keep_others-kept.ensures.0 c.keep_others-kept.ensures.1 c.if-kept-gt-MAX_ROWS.false c.least.result
    c.least.ensures _ c.put_three.ensures _ c.dress.ensures in
    (omega (arith, c.if-kept-gt-MAX_ROWS.false), omega (arith, c.if-kept-gt-MAX_ROWS.false))

pub returns-then-not-keeps_mesh_rule : goal.returns-then-not-keeps_mesh_rule
returns-then-not-keeps_mesh_rule c =
    let a = c.args in
    let both =
    is_15 a.block.now a.out.now a.x a.y a.z c.requires c.in-Some.found c.in-Some.ensures
    c.if-found-eq1.false c.if-found.false _ c.in-One.is _ c.mark_goes.ensures
    c.if-mark_goes.false _ c.begin.ensures _ _ c.keep_others-kept.ensures.0 c.keep_others-kept.ensures.1 c.if-kept-gt-MAX_ROWS.false c.least.result
    c.least.ensures _ c.put_three.ensures _ c.dress.ensures _ c.keeps_mesh_rule.ensures (c.if-not-keeps_mesh_rule.true) in
    record { answer = both.0; bytes = both.1 }

pub finish-requires : goal.finish-requires
finish-requires c =
    let a = c.args in (
      table_size a.block.now a.out.now a.x a.y a.z c.requires c.in-Some.found c.in-Some.ensures
          c.if-found-eq1.false c.if-found.false _ c.in-One.is _ c.mark_goes.ensures
          c.if-mark_goes.false _ c.begin.ensures _ _ c.keep_others-kept.ensures.0 c.keep_others-kept.ensures.1 c.if-kept-gt-MAX_ROWS.false c.least.result
          c.least.ensures _ c.put_three.ensures _ c.dress.ensures,
      c.if-kept-gt-MAX_ROWS.false,
    )

pub copy-requires : goal.copy-requires
copy-requires c =
    let a = c.args in
    let own = done_size a.block.now a.out.now a.x a.y a.z c.requires c.in-Some.found c.in-Some.ensures
    c.if-found-eq1.false c.if-found.false _ c.in-One.is _ c.mark_goes.ensures
    c.if-mark_goes.false _ c.begin.ensures _ _ c.keep_others-kept.ensures.0 c.keep_others-kept.ensures.1 c.if-kept-gt-MAX_ROWS.false c.least.result
    c.least.ensures _ c.put_three.ensures _ c.dress.ensures (all_bytes a.block.now c.type_inv.block) _ c.finish.ensures in
    omega (arith, own, c.requires.output)

pub returns : goal.returns
returns c =
    let a = c.args in
    let both =
    is_0 a.block.now a.out.now a.x a.y a.z c.requires c.in-Some.found c.in-Some.ensures
    c.if-found-eq1.false c.if-found.false _ c.in-One.is _ c.mark_goes.ensures
    c.if-mark_goes.false _ c.begin.ensures _ _ c.keep_others-kept.ensures.0 c.keep_others-kept.ensures.1 c.if-kept-gt-MAX_ROWS.false c.least.result
    c.least.ensures _ c.put_three.ensures _ c.dress.ensures _ c.keeps_mesh_rule.ensures (c.if-not-keeps_mesh_rule.false)
    (all_bytes a.block.now c.type_inv.block) _ c.finish.ensures _ c.copy.ensures in
    record { answer = both.0; bytes = both.1 }
