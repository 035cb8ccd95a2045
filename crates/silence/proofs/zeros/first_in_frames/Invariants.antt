use Rattle.std.proofs.Common.{ℕ, ◌<◌}
use Rattle.silence.specs.Zero.{IsFrameZero}
use Rattle.silence.proofs.zeros.first_in_frames.Given as goal

-- the sample frames so far are zero
abbrev pub invariant-loop-i : goal.invariant-loop-i
invariant-loop-i l = (k : ℕ) → k < l.i → IsFrameZero l.frames l.channels l.first l.width k
