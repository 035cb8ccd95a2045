use Rattle.std.proofs.Common.{◌≡◌, take}
use Rattle.std.specs.Prelude.{None}
use Rattle.std.specs.List.{position}
use Rattle.sound_terms.specs.Depth.{bits_of}
use Rattle.clipping.specs.Clips.{is_clipped}
use Rattle.clipping.specs.Kept.{at_full_scale}
use Rattle.clipping.proofs.kept.first_outside.Given as goal

abbrev pub invariant-loop-k : goal.invariant-loop-k
invariant-loop-k l =
    position (is_clipped (bits_of l.fn.depth)) (at_full_scale (bits_of l.fn.depth) (take l.k l.fn.sums)) ≡ None
