-- Output and exit status of a check with a report.
use Rattle.std.specs.Prelude.{◌≡◌, ◌⊎◌, ℕ, Bool, IsTrue, List, [], ◌∷◌, ◌++◌, Option, Some, Ok, Err, false, map, true, ⊤}
use Rattle.checkreport.specs.Printed.{printed_text}
use Rattle.work_terms.specs.Disk.{Files}
use Rattle.work_terms.specs.Refusals.{IsDue, Nowhere, Refusal, Where}
use Rattle.list_terms.specs.Project.{ListProject}
use Rattle.list_terms.specs.Binding.{Binding}
use Rattle.list_terms.specs.Heard.{IsAccepted, project_fault}
use Rattle.list_terms.specs.Text.{text_value}
use Rattle.adlread.specs.Further.{AreFurther}
use Rattle.adlread.specs.declared.fault.AdlFault.{AdlFault}
use Rattle.opening.specs.Faults.{refusal_of}
use Rattle.devices.specs.declared.source.Shelf as source
use Rattle.opening.specs.Further.{AreAll, IsCounted}
use Rattle.opening.specs.declared.fault.Fault.{Fault}
use Rattle.opening.specs.declared.fault.Fault.TheVariants as fault
use Rattle.serde_json.specs.Data.{Data, null}
use Rattle.checkreport.specs.Report.{Beside, ExplainedFault, accepted_data, faults_of, refused_data, unread_data}
use Rattle.console.specs.declared.console.Console as console
use Rattle.console.specs.Printing.{Prints}

-- a report: an accepted list, a refused list with its faults and whether they are all, or out of memory
pub data Report : Type 0 where
  Accepted : (project : ListProject) (binding : Binding) (beside : Beside) → Report
  Refused : (first : ExplainedFault) (further : List ExplainedFault) (media_error : Option (List ℕ)) (are_all : Bool)
      → Report
  Untold : Report

-- the out-of-memory report
abbrev pub no_memory : Data
no_memory = unread_data 18 Nowhere null

-- text of a report, without a line end
abbrev pub text_of : Report → List ℕ
text_of (Accepted project binding beside) = printed_text (accepted_data project binding beside)
text_of (Refused first further media_error are_all) = printed_text (refused_data first further media_error are_all)
text_of Untold = printed_text no_memory

-- exit status: 0 accepted, 1 refused or out of memory
abbrev pub status_of : Report → ℕ
status_of (Accepted project binding beside) = 0
status_of (Refused first further media_error are_all) = 1
status_of Untold = 1

-- `listed` is a prefix of all values; `are_all` only if it has them all and they are complete
abbrev pub AreListed : {X : Type 0} (all : List X) (complete : Bool) (listed : List X) (are_all : Bool) → Type 0
AreListed all complete listed true = (listed ≡ all) × (complete ≡ true)
AreListed {X} all complete listed false = (rest : List X) × (listed ++ rest ≡ all)

-- faults that may be listed after the first fault of a text
abbrev pub AreOfText : List ℕ → (first : AdlFault) → List Fault → (are_all : Bool) → Type 0
AreOfText text first listed are_all =
    (all : List Refusal) × (complete : Bool) × AreFurther text first all complete
    × AreListed all complete (map refusal_of listed) are_all

-- faults that may be listed after the first fault of a file or an entry; none if they can't be found
abbrev pub AreOfSources : List ℕ → Files → (first : Fault) → List Fault → (are_all : Bool) → Type 0
AreOfSources list files first listed are_all =
    ((listed ≡ []) × (are_all ≡ false))
    ⊎ ((all : List Fault) × AreAll list files first all × AreListed all true listed are_all)

-- faults that may be listed after the first fault of a list; for files and entries, on honest sources only
abbrev pub AreOfList : (honest : Bool) → List ℕ → Files → (first : Fault) → List Fault → (are_all : Bool) → Type 0
AreOfList honest list files (fault.List first) listed are_all = AreOfText list first listed are_all
AreOfList honest list files (fault.SameName index) listed are_all =
    IsTrue honest → AreOfSources list files (fault.SameName index) listed are_all
AreOfList honest list files (fault.Media index name first) listed are_all =
    IsTrue honest → AreOfSources list files (fault.Media index name first) listed are_all
AreOfList honest list files (fault.Entry first) listed are_all =
    IsTrue honest → AreOfSources list files (fault.Entry first) listed are_all

-- If further faults of files say that a device failed, the store counted a failure.
abbrev pub AreCounted : {S : Type 0} → source.Ghosts S → S → S → (first : Fault) → List Fault → Type 0
AreCounted shelf old new (fault.List first) listed = ⊤
AreCounted shelf old new (fault.SameName index) listed = IsCounted shelf old new listed
AreCounted shelf old new (fault.Media index name first) listed = IsCounted shelf old new listed
AreCounted shelf old new (fault.Entry first) listed = IsCounted shelf old new listed

-- The further faults of a list, found in its text or in the sources of a store.
pub record AreFound {S : Type 0} (shelf : source.Ghosts S) (old new : S) (list : List ℕ) (first : Fault)
    (listed : List Fault) (are_all : Bool) : Type 0 where
  pub of_list : AreOfList (shelf.honest old) list (shelf.stored old) first listed are_all
  pub counted : AreCounted shelf old new first listed

-- an invalid text is reported as such, whatever the files contain
abbrev pub IsOfText : List ℕ → (first : Refusal) → Type 0
IsOfText text first = (refusal : Refusal) → text_value text ≡ Err refusal → IsDue first (Some refusal)

-- the report is true of the text, and, on honest sources, of the list over these files
abbrev pub Holds : (honest : Bool) → List ℕ → Files → Report → Type 0
Holds honest list files (Accepted project binding beside) =
    (text_value list ≡ Ok project) × (IsTrue honest → IsAccepted list files project binding)
Holds honest list files (Refused first further media_error are_all) =
    IsOfText list (refusal_of first.fault)
    × (IsTrue honest → IsDue (refusal_of first.fault) (project_fault list files))
    × AreOfList honest list files first.fault (faults_of further) are_all
Holds honest list files Untold = ⊤

-- the list was checked over these files, and the report printed as one line with its exit status
pub record IsReported {O : Type 0} (list : List ℕ) (files : Files) (out : console.Ghosts O) (old new : O) (status : ℕ)
    : Type 0 where
  pub report : Report
  pub holds : Holds true list files report
  pub status_is : status ≡ status_of report
  pub printed : Prints out.contents out.failures old new (text_of report ++ 10 ∷ [])

-- prints that a list can't be read, as one line
pub record PrintsUnread {O : Type 0} (out : console.Ghosts O) (old new : O) (number : ℕ) (place : Where) : Type 0 where
  pub explained : Data
  pub printed : Prints out.contents out.failures old new (printed_text (unread_data number place explained) ++ 10 ∷ [])

-- prints the report of a refused list with its first and its further faults, and whether they are all
pub record PrintsRefused {O : Type 0} (out : console.Ghosts O) (old new : O) (first : Fault)
    (AreThese : List Fault → (are_all : Bool) → Type 0) : Type 0 where
  pub explained : Data
  pub further : List ExplainedFault
  pub media_error : Option (List ℕ)
  pub are_all : Bool
  pub these : AreThese (faults_of further) are_all
  pub printed : Prints out.contents out.failures old new
      (printed_text (refused_data (record { fault = first; explained = explained }) further media_error are_all))

-- prints the report of a refused list as one line, or the out-of-memory report
abbrev pub PrintsRefusedLine : {O : Type 0} (out : console.Ghosts O) (old new : O) (first : Fault)
    (AreThese : List Fault → (are_all : Bool) → Type 0) → Type 0
PrintsRefusedLine out old new first AreThese =
    ((explained : Data) × (further : List ExplainedFault) × (media_error : Option (List ℕ)) × (are_all : Bool)
    × AreThese (faults_of further) are_all
    × Prints out.contents out.failures old new
    (printed_text (refused_data (record { fault = first; explained = explained }) further media_error are_all)
    ++ 10 ∷ []))
    ⊎ Prints out.contents out.failures old new (printed_text no_memory ++ 10 ∷ [])
