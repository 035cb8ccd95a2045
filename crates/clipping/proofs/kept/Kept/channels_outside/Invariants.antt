use Rattle.std.proofs.Common.{◌↔◌, ℕ, ◌<◌}
use Rattle.std.specs.Int.{IsBitSet}
use Rattle.sound_terms.specs.Depth.{bits_of}
use Rattle.clipping.specs.Clips.{IsClippedOn}
use Rattle.clipping.specs.Kept.{at_full_scale}
use Rattle.clipping.proofs.kept.Kept.channels_outside.Given as goal

abbrev pub invariant-loop-channel : goal.invariant-loop-channel
invariant-loop-channel l = (c : ℕ) → IsBitSet l.found c ↔ ((c < l.channel)
    × IsClippedOn (bits_of l.fn.self.depth) l.fn.self.channels (at_full_scale (bits_of l.fn.self.depth) l.fn.self.sums.now) c)
