-- Requirement §5: the summary of a patch.
use Rattle.lists.specs.Lists.{count}
use Rattle.quality.specs.Quality.{is_upright, is_flat, is_inverted}
use Rattle.score.specs.Score.{worst_score, octave}
use Rattle.layout.specs.Layout.{Patch}
use Rattle.tally.specs.Tally.{qualities}
use Rattle.summary.specs.declared.Summary.{Summary}

-- counts of upright, flat and inverted rows, the score of the worst row, and the octave
unfoldable pub summary_of : Patch → Summary
summary_of patch =
    let qs = qualities patch in
    record {
      upright = count is_upright qs;
      flat = count is_flat qs;
      inverted = count is_inverted qs;
      worst = worst_score qs;
      octave = octave qs;
    }
