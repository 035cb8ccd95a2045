use Rattle.std.proofs.Common.{◌≡◌, ◌<◌, ◌≤◌, ℕ, get_or}
use Rattle.std.specs.Prelude.{ℤ, pos}
use Rattle.sound_terms.specs.Depth.{bits_of}
use Rattle.sound_terms.specs.Mix.{full_scale, quantized, share_of}
use Rattle.blockmachine.proofs.faded.fade_frame.Given as goal

abbrev pub invariant-loop-sample : goal.invariant-loop-sample
invariant-loop-sample l = record {
  faded : (k : ℕ) → k < l.sample-index → get_or l.samples k (pos 0)
      ≡ quantized (bits_of l.depth) (share_of (full_scale (bits_of l.depth) (get_or l.fn.samples k (pos 0)))
      (l.gain.fraction.num, l.gain.fraction.den));
  behind : (k : ℕ) (d : ℤ) → l.sample-index ≤ k → get_or l.samples k d ≡ get_or l.fn.samples k d;
}
