use Rattle.std.proofs.Common.{◌≡◌, ◌<◌, ◌≤◌, ◌*◌, ◌/◌, ℕ, get_or, length}
use Rattle.std.specs.Prelude.{ℤ, pos}
use Rattle.sound_terms.specs.Depth.{bits_of}
use Rattle.sound_terms.specs.Groups.{fraction_of}
use Rattle.sound_terms.specs.Mix.{full_scale, quantized, share_of}
use Rattle.blockmachine.specs.Slopes.{IsAt}
use Rattle.blockmachine.proofs.faded.fade_frames.Given as goal

abbrev pub invariant-loop-i : goal.invariant-loop-i
invariant-loop-i l = record {
  slope : IsAt l.fn.shape l.i l.slope.falls l.slope.rise.fraction.num l.slope.rise.fraction.den l.slope.rise.by;
  same_length : length l.samples ≡ length l.fn.samples;
  faded : (k : ℕ) → k < l.i * l.channels → get_or l.samples k (pos 0)
      ≡ quantized (bits_of l.depth) (share_of (full_scale (bits_of l.depth) (get_or l.fn.samples k (pos 0)))
      (fraction_of l.fn.shape (k / l.channels)));
  behind : (k : ℕ) (d : ℤ) → l.i * l.channels ≤ k → get_or l.samples k d ≡ get_or l.fn.samples k d;
}
