use Rattle.std.proofs.Common.{◌≡◌, ℕ, ◌<◌, get_or}
use Rattle.std.specs.Prelude.{pos}
use Rattle.sound_terms.specs.Depth.{bits_of}
use Rattle.sound_terms.specs.Mix.{full_scale, quantized}
use Rattle.blockmachine.proofs.layers.finish_layers.Given as goal

abbrev pub invariant-loop-k : goal.invariant-loop-k
invariant-loop-k l = (k : ℕ) → k < l.k → get_or l.out k (pos 0)
    ≡ quantized (bits_of l.depth) (full_scale (bits_of l.kept) (get_or l.sums k (pos 0)))
