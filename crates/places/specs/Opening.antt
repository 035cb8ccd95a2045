-- Why a command doesn't come to its list, its sources or its output.
use Rattle.std.specs.Prelude.{ℕ, false, List}
use Rattle.work_terms.specs.Refusals.{Refusal, Where, Nowhere, File}
use Rattle.places.specs.declared.fault.OpenFault.{OpenFault}
use Rattle.places.specs.declared.fault.OpenFault.TheVariants as opened
use Rattle.places.specs.declared.list_file.ReadFault.{ReadFault}
use Rattle.places.specs.declared.list_file.ReadFault.TheVariants.{Unreadable, Endless, Memory}

abbrev early : ℕ → Where → Refusal
early number place = record { number = number; location = place; late = false }

-- the refusal of the list of this path, which isn't read
abbrev pub refusal_of_read : ReadFault → List ℕ → Refusal
refusal_of_read (Unreadable reason) path = early 21 (File path)
refusal_of_read Endless path = early 21 (File path)
refusal_of_read Memory path = early 18 Nowhere

-- the refusal of a command over this list that writes to this folder
abbrev pub refusal_of_opening : OpenFault → List ℕ → List ℕ → Refusal
refusal_of_opening (opened.List fault) list folder = refusal_of_read fault list
refusal_of_opening (opened.Unlisted reason) list folder = early 20 (File folder)
refusal_of_opening opened.NotEmpty list folder = early 20 (File folder)
refusal_of_opening opened.Busy list folder = early 20 (File folder)
refusal_of_opening opened.Media list folder = early 20 (File folder)
refusal_of_opening opened.Shared list folder = early 20 (File folder)
refusal_of_opening opened.Memory list folder = early 18 Nowhere
refusal_of_opening opened.Passes list folder = early 51 Nowhere
