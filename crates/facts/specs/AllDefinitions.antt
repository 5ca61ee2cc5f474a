-- One name that opens every definition of the kernel, for what is computed: `unfolding definitions`.
use mathlib.Core.List.{flat_map}
use Rattle.std.specs.Float.Ieee.{to_bits, div, of_int, neg}
use Rattle.lists.specs.Lists.{every, any, those, first, same, different, numbers_from, largest}
use Rattle.exact.specs.Fractions.{rounded_up}
use Rattle.volume.specs.Volume.{point_in, points_in, determinant, D, squared_length, S}
use Rattle.quality.specs.Quality.{quality_of, quality, worse, worst, best}
use Rattle.score.specs.Score.{score_of, worst_score, badness, total_badness, octave_of, octave}
use Rattle.page.specs.Page.{quotient, shown, page_row}
use Rattle.rows.specs.Labels.{labels_of, label_byte, has_room_for}
use Rattle.rows.specs.Rows.{stored_row, row_in, rows_in}
use Rattle.mesh.specs.Mesh.{faces, same_face, uses, numbers_fit, faces_apart, keeps_mesh_rule}
use Rattle.rows.specs.RowMeasure.{row_d, row_s, row_quality}
use Rattle.rows.specs.Regions.{region_of, mixed}
use Rattle.rows.specs.Tetrahedra.{evenly, arranged_from}
use Rattle.marking.specs.Marking.{marked_faces, marks, marked_in, agree, marks_over, dress_by, new_mark}
use Rattle.layout.specs.Layout.{fields_of, body_of, sums_onto, sum_bytes}
use Rattle.layout.specs.Layout.{sum_wrong}
use Rattle.body.specs.Body.{zero_missing, number_wrong, body_tests}
use Rattle.answers.specs.Answers.{first_refusal}
use Rattle.block.specs.Opening.{open_answer}
use Rattle.links.specs.Links.{link, next}
use Rattle.walk.specs.Walk.{walk, smallest, all_close, circle_of, heads, follow, chain_of}
use Rattle.ring.specs.Ring.{site_of, flat, numbers_wrong}
use Rattle.ring.specs.Ring.{whole, link_open, many_circles, edge_tests}
use Rattle.triangulation.specs.Triangulation.{span, triangles, closing_sides, diagonals, ways_within, two_rows, new_rows, table_after}
use Rattle.triangulation.specs.Admissible.{admissible, piece_admissible}
use Rattle.triangulation.specs.Best.{worst_of_way, ring_ways, piece_ways, best_worst, reaches, apex, chosen_within}
use Rattle.summary.specs.Summary.{summary_of}
use Rattle.calls.specs.Removing.{block_tests, worst_now, no_way, none_better, patch_after, removal_tests}
use Rattle.calls.specs.Removing.{remove_answer, remove_bytes}
use Rattle.calls.specs.Flipping.{flip32_tests, apex_over, pair_of, three_rows, patch_after23, flip23_tests}
use Rattle.calls.specs.Flipping.{flip_tests, patch_flipped, flip_answer, flip_bytes}
use Rattle.lines.specs.Lines.{text, spaced, line_end, ended, line, mark, summary_fields}
use Rattle.text.specs.Decimal.{decimal_within}
use Rattle.printout.specs.Printout.{report, printout}

-- It has no content of its own: to unfold it is to unfold what its line names.
unfoldable pub definitions : Unit {0}
unfolding
    flat_map to_bits div of_int neg
    every any those first same different numbers_from largest
    point_in points_in determinant D squared_length S quality_of quality worse worst best
    rounded_up score_of worst_score badness total_badness octave_of octave
    quotient shown page_row
    labels_of label_byte has_room_for stored_row row_in rows_in faces same_face uses numbers_fit faces_apart keeps_mesh_rule row_d row_s row_quality
    evenly arranged_from region_of mixed
    marked_faces marks marked_in agree marks_over dress_by new_mark
    fields_of body_of sums_onto sum_bytes
    sum_wrong zero_missing number_wrong first_refusal body_tests open_answer
    link next walk smallest all_close circle_of heads follow chain_of site_of flat numbers_wrong whole link_open many_circles edge_tests
    span triangles closing_sides diagonals ways_within two_rows new_rows table_after
    admissible piece_admissible
    worst_of_way ring_ways piece_ways best_worst reaches apex chosen_within
    summary_of
    block_tests worst_now no_way none_better patch_after removal_tests remove_answer remove_bytes
    flip32_tests apex_over pair_of three_rows patch_after23 flip23_tests flip_tests patch_flipped flip_answer flip_bytes
    text decimal_within spaced line_end ended line mark summary_fields report printout
definitions = tt
