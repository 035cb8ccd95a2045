use Rattle.std.proofs.Common.{◌-◌, ◌≡◌, ◌≤◌, IsTrue, Ok, length, take}
use Rattle.sha2.specs.Hashers.{Holds256}
use Rattle.renderreport.specs.Reads.{ReadsSound}
use Rattle.renderreport.specs.Report.{content, sound_name}
use Rattle.renderreport.proofs.digest.sound_digest.Given as goal

-- the bytes so far are hashed, and no call failed
abbrev pub invariant-loop-done : goal.invariant-loop-done
invariant-loop-done g l =
    (l.done ≤ l.end) × (length l.room ≡ 65536) × ReadsSound g.B.Bench l.initial.bench l.bench (Ok (tt {0}))
    × (IsTrue (g.B.Bench.honest l.initial.bench)
    → Holds256 l.hasher (take l.done (content (g.B.Bench.stored l.initial.bench) sound_name)))

abbrev pub decreases-loop-done : goal.decreases-loop-done
decreases-loop-done g l = l.end - l.done
