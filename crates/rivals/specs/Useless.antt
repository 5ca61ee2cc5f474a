-- Five useless kernels that the demands have to shut out, each ours but for one call; and the blocks that show them up.
use Rattle.std.specs.Prelude.{ℕ, zero, suc, ◌-◌, List, [], ◌∷◌, ◌++◌, Result, Err}
use Rattle.std.proofs.Math.Option.{none, some}
use Rattle.page.specs.Page.{shown, page_row}
use Rattle.rows.specs.declared.Row.{Row}
use Rattle.rows.specs.Rows.{version}
use Rattle.marking.specs.Marking.{dressed}
use Rattle.layout.specs.Layout.{Patch, fields_of, bytes_of}
use Rattle.block.specs.Opening.{open_answer}
use Rattle.answers.specs.declared.Refusal.{Refusal}
use Rattle.answers.specs.Answers.{gives, written}
use Rattle.ring.specs.Ring.{Site, site_of, m, ring_with}
use Rattle.triangulation.specs.Triangulation.{Tri, side, cut, new_rows}
use Rattle.triangulation.specs.Best.{apex}
use Rattle.summary.specs.declared.Summary.{Summary}
use Rattle.summary.specs.Summary.{summary_of}
use Rattle.tally.specs.Tally.{worst_of_patch}
use Rattle.calls.specs.declared.Removed.{Removed}
use Rattle.calls.specs.Removing.{remove_answer, remove_gives}
use Rattle.demands.specs.Kernels.{Kernel, ours}
use Rattle.facts.specs.Facts.{at, row}

-- ours, with another removal
abbrev pub with_remove : (List ℕ → List ℕ → ℕ → ℕ → Result Removed Refusal × List ℕ) → Kernel
with_remove remove = record {
  read = ours.read;
  summary = ours.summary;
  shown = ours.shown;
  seal = ours.seal;
  remove = remove;
  flip = ours.flip;
}

-- ours, with another summary
abbrev pub with_summary : (List ℕ → Result Summary Refusal) → Kernel
with_summary summary = record {
  read = ours.read;
  summary = summary;
  shown = ours.shown;
  seal = ours.seal;
  remove = ours.remove;
  flip = ours.flip;
}

-- "one that refuses all", with whatever numbers
abbrev pub refusing : (List ℕ → List ℕ → ℕ → ℕ → ℕ) → Kernel
refusing number = with_remove (λ block out e f. (Err (record { number = suc (number block out e f) }), out))

-- "one with a fixed block for an answer", whatever the block
abbrev pub fixing : List ℕ → Kernel
fixing fixed = with_remove (λ block out e f. (remove_gives block out e f, written (remove_answer block out e f) fixed out))

-- "one that copies its input"
abbrev pub copying : Kernel
copying = with_remove (λ block out e f. (remove_gives block out e f, written (remove_answer block out e f) block out))

-- "one with invented summary counts", whatever they are
abbrev pub inventing : ℕ → ℕ → ℕ → Kernel
inventing upright flat inverted = with_summary (λ block.
    let true-one = summary_of (fields_of block) in
    gives (open_answer block) (record {
      upright = upright;
      flat = flat;
      inverted = inverted;
      worst = true-one.worst;
      octave = true-one.octave;
    }))

-- the fan of a piece of a span, from its first point
unfoldable pub fan_first : ℕ → Tri
fan_first zero = side
fan_first (suc zero) = side
fan_first (suc (suc n)) = cut (fan_first (suc n)) side

-- and from its last
unfoldable pub fan_last : ℕ → Tri
fan_last zero = side
fan_last (suc zero) = side
fan_last (suc (suc n)) = cut side (fan_last (suc n))

-- the top apex is the chosen one, the remaining pieces are fanned
unfoldable pub fanned : (ℕ → Tri) → Site → Tri
fanned fan site = elim (apex site 1 (m site)) [ none ↦ side | some k ↦ cut (fan (k - 1)) (fan (m site - k)) ]

-- the table with the rows of that way, with their marks
abbrev pub table_fanned : (ℕ → Tri) → Site → List Row
table_fanned fan site = site.kept ++ dressed site.removed site.kept (new_rows site 1 (fanned fan site))

abbrev pub patch_by : (ℕ → Tri) → Site → Patch
patch_by fan site = record { points = site.points; rows = table_fanned fan site }

-- what a removal that leaves a patch gives: the true page row, and the ring
abbrev pub done_with : Patch → Site → Patch → Removed
done_with patch site after = record {
  page = page_row (shown (worst_of_patch patch)) (shown (worst_of_patch after));
  ring = ring_with site.ring;
}

abbrev pub given_by : (ℕ → Tri) → Patch → Site → Removed
given_by fan patch site = done_with patch site (patch_by fan site)

-- "one that picks the top apex well and fans the remaining pieces"; its page row is true
abbrev pub fanning : (ℕ → Tri) → Kernel
fanning fan = with_remove (λ block out e f.
    let patch = fields_of block in
    let site = site_of patch e f in
    let answer = remove_answer block out e f in
    (gives answer (given_by fan patch site), written answer (bytes_of (version block) (patch_by fan site)) out))

-- ---- a block where both fans lose: six rows round 0, 1; the best way and both fans are better than what is there

unfoldable pub six : Patch
six = record {
  points = at 8 8 11 ∷ at 8 8 0 ∷ at 13 10 6 ∷ at 7 11 3 ∷ at 6 10 5 ∷ at 7 6 6 ∷ at 11 3 5 ∷ at 12 6 4 ∷ [];
  rows = row 0 1 2 3 ∷ row 0 1 3 4 ∷ row 0 1 4 5 ∷ row 0 1 5 6 ∷ row 0 1 6 7 ∷ row 0 1 7 2 ∷ [];
}

-- its best way
abbrev pub six_best : Tri
six_best = cut side (cut (cut side (cut side side)) side)
