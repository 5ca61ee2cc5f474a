-- What `print` answers is lent to the write: a text has room for its whole printout.
use Rattle.std.proofs.Common.{sym}
use Rattle.std.proofs.Math.Seq.{length-take-le}
use Rattle.text.specs.Texts.{text_of}
use Rattle.text.proofs.BytesBehindAText.{text_lends}
use Rattle.remove_edge.proofs.main.Goals as goal

pub shared_ref_as_front-write_all : goal.shared_ref_as_front-write_all
unfolding text_of
shared_ref_as_front-write_all c = rw c.print-text.ensures.text c.print-text.ensures.fits

pub slice_bounds-write_all-end : goal.slice_bounds-write_all-end
slice_bounds-write_all-end c =
    let p = c.print-text in
    sym (length-take-le p.result.n p.result.bytes (text_lends _ p.ensures.text p.ensures.fits))
