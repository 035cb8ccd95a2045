use Rattle.std.proofs.Common.{◌≡◌, ℕ, ◌+◌, ◌*◌, ◌<◌, false, get_or}
use Rattle.std.specs.Prelude.{pos}
use Rattle.sound_terms.specs.Depth.{bits_of}
use Rattle.sound_terms.specs.Mix.{full_scale}
use Rattle.clipping.specs.Clips.{is_clipped}
use Rattle.clipping.proofs.kept.Kept.is_outside_on.Given as goal

abbrev pub invariant-loop-frame : goal.invariant-loop-frame
invariant-loop-frame l = (k : ℕ) → k < l.frame → is_clipped (bits_of l.fn.self.depth)
    (full_scale (bits_of l.fn.self.depth) (get_or l.fn.self.sums.now (k * l.fn.self.channels + l.fn.channel) (pos 0))) ≡ false
