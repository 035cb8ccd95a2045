-- Number and location of each fault.
use Rattle.std.specs.Prelude.{◌≡◌, false}
use Rattle.work_terms.specs.Refusals.{Refusal, Index}
use Rattle.riff.specs.Fault as media
use Rattle.adlread.specs.Fault as list
use Rattle.projectcheck.specs.Fault as entry
use Rattle.sourceindex.specs.Fault.{file_at}
use Rattle.opening.specs.declared.fault.Fault.{Fault}
use Rattle.opening.specs.declared.fault.Fault.TheVariants as fault

-- the refusal that reports a fault
abbrev pub refusal_of : Fault → Refusal
refusal_of (fault.List fault) = list.refusal fault
refusal_of (fault.SameName index) = record { number = 30; location = Index index; late = false }
refusal_of (fault.Media index name fault) =
    record { number = media.number_of fault; location = file_at index name; late = false }
refusal_of (fault.Entry fault) = entry.refusal_of fault

-- the fault is found before anything is written
abbrev pub IsEarly : Fault → Type 0
IsEarly fault = (refusal_of fault).late ≡ false
