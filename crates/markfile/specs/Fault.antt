-- Numbers of the errors of marks, and the file of a device failure.
use Rattle.std.specs.Prelude.{◌≡◌, ◌≢◌, ℕ, List, Result}
use Rattle.work_terms.specs.Disk as disk
use Rattle.devices.specs.declared.bench.Bench.{Ghosts}
use Rattle.devices.specs.Frame as frame
use Rattle.markfile.specs.Format.{marks_name, sound_name}
use Rattle.markfile.specs.declared.fault.MarkFault.{MarkFault}
use Rattle.markfile.specs.declared.fault.MarkFault.TheVariants.{Device, OtherRun, BadMarks, Memory}
use Rattle.markfile.specs.declared.fault.MarkedFile.{MarkedFile}
use Rattle.markfile.specs.declared.fault.MarkedFile.TheVariants.{Sound, Marks}

-- number of the refusal
abbrev pub number_of : MarkFault → ℕ
number_of (Device file) = 62
number_of OtherRun = 67
number_of BadMarks = 68
number_of Memory = 69

-- name of one of the files of a rendering
abbrev pub name_of_file : MarkedFile → List ℕ
name_of_file Sound = sound_name
name_of_file Marks = marks_name

-- name of the file of a device failure; the marks for all other errors
abbrev pub name_of : MarkFault → List ℕ
name_of (Device file) = name_of_file file
name_of OtherRun = marks_name
name_of BadMarks = marks_name
name_of Memory = marks_name

-- a call that writes nothing: only 62 reports a device failure, at the file named in the fault
abbrev pub ReadsMarks : {B X : Type 0} → Ghosts B → B → B → Result X MarkFault → Type 0
ReadsMarks bench old new result = disk.ReadsTo bench.stored bench.honest bench.failures bench.failed_at old new result
    (λ fault. number_of fault ≡ 62) (λ fault failed. failed (name_of fault))

-- a call that writes only the marks
abbrev pub WritesMarks : {B X : Type 0} → Ghosts B → B → B → Result X MarkFault → Type 0
WritesMarks bench old new result = frame.OnlyWrites bench (λ n. n ≢ marks_name) old new result
    (λ fault. number_of fault ≡ 62) (λ fault failed. failed (name_of fault))

-- the device failed while accessing the marks
abbrev pub FailsAtMarks : MarkFault → Type 0
FailsAtMarks fault = fault ≡ Device Marks
