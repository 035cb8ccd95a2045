-- Properties of a file whose length fits 64 bits.
use Rattle.sound_terms.specs.Waves.{SoundInfo}
use Rattle.wavwrite.specs.Info.{IsWithin, Fits}

-- properties within their limits, and a length that fits 64 bits
pub record IsInfo (info : SoundInfo) : Type 0 where
  pub within : IsWithin info
  pub fits : Fits info
