use Rattle.std.proofs.Common.{◌≡◌, ◌+◌, ◌-◌, ℕ, get_or, pos}
use Rattle.sound_terms.specs.Mix.{Reading}
use Rattle.sound_terms.specs.Passes.{is_zero_channel}
use Rattle.trials_sounds.proofs.tests.table.is_silent.Given as goal

-- the result depends on the samples that have yet to be checked
abbrev pub invariant-loop-frame : goal.invariant-loop-frame
invariant-loop-frame l = (reading : Reading) (file channel : ℕ)
    → ((frame : ℕ) → reading file channel frame ≡ pos (get_or l.row frame 0))
    → is_zero_channel reading file channel l.from l.length
    ≡ is_zero_channel reading file channel l.frame (l.from + l.length - l.frame)
