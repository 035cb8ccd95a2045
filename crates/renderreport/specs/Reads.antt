-- Effect on an output of reading the rendered file, and of writing the report next to it.
use Rattle.std.specs.Prelude.{⊤, Result}
use Rattle.devices.specs.declared.bench.Bench as output
use Rattle.devices.specs.declared.fault.DeviceFault.{DeviceFault}
use Rattle.work_terms.specs.Disk.{Files, LeavesOnly, LeavesOthers, ReadsTo}
use Rattle.renderreport.specs.Report.{report_name, sound_name}

-- nothing was written, a crash leaves no new outcome, and a fault is recorded for the rendered file
pub record ReadsSound {B X : Type 0} (bench : output.Ghosts B) (old new : B) (result : Result X DeviceFault) : Type 0
  where
    pub only_reads : ReadsTo bench.stored bench.honest bench.failures bench.failed_at old new result (λ _. ⊤)
        (λ _ failed. failed sound_name)
    pub crash : (c : Files) → bench.may_leave new c → bench.may_leave old c
    pub moments : LeavesOnly bench.moment bench.left_since old new (bench.may_leave old)

-- all files except the report are unaffected at every moment
abbrev pub Spares : {B : Type 0} → output.Ghosts B → B → B → Type 0
Spares bench = LeavesOthers bench.may_leave bench.moment bench.left_since report_name
