use Rattle.std.proofs.Common.{◌≡◌}
use Rattle.sound_terms.specs.Depth.{bits_of}
use Rattle.pcm.specs.Samples.{samples_in, summed}
use Rattle.pcm.proofs.add_at.Given as goal

abbrev pub invariant-loop-i : goal.invariant-loop-i
invariant-loop-i l = l.sums ≡ summed l.fn.sums (samples_in (bits_of l.depth) l.i l.bytes)
