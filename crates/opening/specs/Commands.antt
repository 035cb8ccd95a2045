-- Results of a call that opens a list, and its effect on the sources.
use Rattle.std.specs.Prelude.{◌≡◌, ℕ, List, Result, Err, Some, IfErr, IsOk, length, ◌++◌}
use Rattle.devices.specs.declared.source.Shelf as source
use Rattle.devices.specs.Frame.{OnlyReads}
use Rattle.work_terms.specs.Disk.{Files}
use Rattle.work_terms.specs.Refusals.{IsDue, Refusal, Where, IndexFile, File}
use Rattle.list_terms.specs.declared.Notice.{Notice}
use Rattle.list_terms.specs.Project.{ListProject}
use Rattle.list_terms.specs.Binding.{Binding}
use Rattle.list_terms.specs.Heard.{IsAccepted}
use Rattle.list_terms.specs.Text.{text_value}
use Rattle.adlread.specs.Spells.{Spells}
use Rattle.opening.specs.Faults.{refusal_of}
use Rattle.opening.specs.declared.fault.Fault.{Fault}
use Rattle.opening.specs.declared.accepted_list.Accepted as declared

-- P holds of the name of the file at this location
abbrev pub HoldsOfFile : (List ℕ → Type 0) → Where → Type 0
HoldsOfFile P (IndexFile index name) = P name
HoldsOfFile P (File name) = P name
HoldsOfFile P _ = ⊥

-- The call only reads sources. Refusal 22 means that the device failed on the named file.
abbrev pub ReadsSources : {S X : Type 0} → source.Ghosts S → S → S → Result X Fault → Type 0
ReadsSources shelf old new result =
    OnlyReads shelf old new result (λ fault. (refusal_of fault).number ≡ 22)
    (λ fault failed. HoldsOfFile failed (refusal_of fault).location)

-- an invalid list text is refused, whatever the files contain
abbrev pub RefusesBadText : {X : Type 0} → List ℕ → Result X Fault → Type 0
RefusesBadText text result =
    (refusal : Refusal) → text_value text ≡ Err refusal
    → IfErr result (λ fault. IsDue (refusal_of fault) (Some refusal)) × (IsOk result → ⊥)

-- the notices of the list, followed by the notices of its files
abbrev pub all_notices : ListProject → Binding → List Notice
all_notices project binding = project.notices ++ binding.notices

-- report of an accepted list: all its notices and the numbers of entries and bound indexes
pub record Reports (text : List ℕ) (files : Files) (told : declared.Accepted) : Type 0 where
  pub project : ListProject
  pub binding : Binding
  pub spelled : Spells text project
  pub accepted : IsAccepted text files project binding
  pub notices : told.notices.items ≡ all_notices project binding
  pub entries : told.entries ≡ length project.events
  pub indexes : told.indexes ≡ length binding.indexes
