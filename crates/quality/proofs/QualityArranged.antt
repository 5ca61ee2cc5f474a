-- An even arrangement of the points leaves the quality as it is, since it leaves D and S.
use mathlib.Core.Path.{ap₂}
use Rattle.volume.proofs.VolumeIdentities.{UnchangedByEven, D_even, S_even}
use Rattle.quality.specs.Quality.{quality, quality_of}

pub quality_even : UnchangedByEven quality
unfolding quality
quality_even =
    record {
      turned = λ p q r s. ap₂ quality_of (D_even.turned p q r s) (S_even.turned p q r s);
      crossed = λ p q r s. ap₂ quality_of (D_even.crossed p q r s) (S_even.crossed p q r s);
    }
