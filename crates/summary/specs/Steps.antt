-- What only contracts of inner functions and proofs say: the counts, the sum of badness and the worst of the rows passed so far.
use Rattle.std.specs.Prelude.{◌+◌, ◌<◌, ◌^◌, cond, eqb, None, Some, option_map}
use Rattle.quality.specs.declared.Kind.{Kind}
use Rattle.quality.specs.declared.Kind.TheVariants.{Upright, Flat, Inverted}
use Rattle.quality.specs.declared.Quality.{Quality}
use Rattle.volume.specs.Steps.{largest_byte}
use Rattle.score.specs.Score.{score, badness, added, octave_of}
use Rattle.tally.specs.Steps.{worst_with}
use Rattle.summary.specs.declared.Counts.{Counts}
use Rattle.summary.specs.declared.Tally.{Tally}
use Rattle.summary.specs.declared.Summary.{Summary}

-- the counts with one more row of a kind
abbrev pub count_with : Counts → Kind → Counts
count_with t Upright = record { upright = t.upright + 1; flat = t.flat; inverted = t.inverted }
count_with t Flat = record { upright = t.upright; flat = t.flat + 1; inverted = t.inverted }
count_with t Inverted = record { upright = t.upright; flat = t.flat; inverted = t.inverted + 1 }

-- the tally with one more row's quality
abbrev pub tally_with : Tally → Quality → Tally
tally_with t q = record {
  counts = count_with t.counts q.kind;
  total = t.total + added (badness q);
  met = worst_with t.met q;
}

-- No count and no sum wraps with one more row.
pub record Unwrapped (t : Tally) (q : Quality) : Type 0 where
  pub upright : t.counts.upright < largest_byte
  pub flat : t.counts.flat < largest_byte
  pub inverted : t.counts.inverted < largest_byte
  pub total : t.total + added (badness q) < 2 ^ 64

-- the summary of the rows that a tally has passed
abbrev pub tallied : Tally → Summary
tallied t =
    let n = t.counts.upright in
    record {
      upright = n;
      flat = t.counts.flat;
      inverted = t.counts.inverted;
      worst = option_map score t.met;
      octave = cond (eqb n 0) None (Some (octave_of n t.total));
    }
