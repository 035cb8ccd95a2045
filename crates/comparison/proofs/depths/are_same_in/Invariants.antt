use Rattle.std.proofs.Common.{◌≡◌}
use Rattle.sound_terms.specs.Depth.{bits_of}
use Rattle.comparison.specs.Stored.{full_samples}
use Rattle.comparison.proofs.depths.are_same_in.Given as goal

-- the samples before the index are equal
abbrev pub invariant-loop-i : goal.invariant-loop-i
invariant-loop-i l =
    full_samples (bits_of l.pair.depth) l.i l.pair.bytes.now
    ≡ full_samples (bits_of l.pair.other) l.i l.pair.others.now
