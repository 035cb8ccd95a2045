use Rattle.std.proofs.Common.{◌≡◌, take}
use Rattle.sound_terms.specs.Depth.{bits_of}
use Rattle.pcm.specs.Samples.{samples_in}
use Rattle.pcm.proofs.unpack_at.Given as goal

abbrev pub invariant-loop-i : goal.invariant-loop-i
invariant-loop-i l = take l.i l.samples ≡ samples_in (bits_of l.depth) l.i l.bytes
