-- `Quality::of` is the quality by D and S.
use mathlib.Core.Path.{ap₂, ◌∙◌}
use Rattle.quality.specs.Quality.{quality, quality_of}
use Rattle.volume.proofs.VolumeComputed.{read}
use Rattle.quality.proofs.Quality.of.Goals as goal

pub returns : goal.returns
unfolding quality
returns c =
    let v = c.volume-d in
    let t = c.spread-t in
    c.measured.ensures ∙ ap₂ quality_of (read v.type_inv v.ensures.0) t.ensures.0
