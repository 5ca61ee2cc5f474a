-- The chosen triangulation is carried out, and the page row is of the rows before and after.
use Rattle.edge.proofs.EdgeRinged.{fact_of}
use Rattle.outcome.proofs.RowsAfterwards.{carriable, measured, replaced}
use Rattle.outcome.proofs.replace.Goals as goal

pub in_block-edge-requires : goal.in_block-edge-requires
in_block-edge-requires c =
    let (opens, given) = c.requires.block_value in
    record { opens = opens; ends = given.ends; ringed = fact_of given.ringed }

pub carry_out-n-requires : goal.carry_out-n-requires
carry_out-n-requires c =
    let args = c.args in
    let (whole, place, same) = c.requires.apexes_len in
    carriable args.block.now args.e args.f c.requires.block_value.1 c.in_block-edge.ensures whole place same

pub of_block-before-requires : goal.of_block-before-requires
of_block-before-requires c = c.requires.block_value.0

pub of_table-after-requires : goal.of_table-after-requires
of_table-after-requires c =
    let args = c.args in
    let (whole, place, same) = c.requires.apexes_len in
    let (number, table) = c.carry_out-n.ensures in
    measured args.block.now args.e args.f c.requires.block_value.1 args.rows.now place same c.in_block-edge.ensures _ number _ table

pub returns : goal.returns
returns c =
    let args = c.args in
    let (whole, place, same) = c.requires.apexes_len in
    let (number, table) = c.carry_out-n.ensures in
    replaced args.block.now args.e args.f c.requires.block_value.1 args.rows.now place same c.in_block-edge.ensures _ number _ table
    c.of_block-before.ensures c.of_table-after.ensures _ c.page_row.ensures
