use Rattle.std.proofs.Common.{◌≡◌, ℕ, ◌+◌, ◌-◌, ◌*◌, ◌<◌, get_or}
use Rattle.std.specs.Prelude.{pos}
use Rattle.wavread.proofs.sound.pick.Given as goal

abbrev pub invariant-loop-i : goal.invariant-loop-i
invariant-loop-i l =
    (k : ℕ) → k < l.i → get_or l.samples k (pos 0) ≡ get_or l.frames (k * l.channels + (l.channel - 1)) (pos 0)
