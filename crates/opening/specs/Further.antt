-- Further faults of a refused list.
use Rattle.std.specs.Prelude.{◌≡◌, ◌≤◌, ◌<◌, ◌^◌, ◌+◌, ◌-◌, ◌==◌, ◌⊎◌, ℕ, Bool, IsTrue, List, [], ◌∷◌, ◌++◌, Option, None, Some, Result, Ok, Err, if◌then◌else◌, drop, length, map, option_map, position, take, true, unwrap_or, ⊤}
use Rattle.std.specs.List.{cons_option, filter, filter_map, list_any}
use Rattle.sound_terms.specs.declared.Event.{Event}
use Rattle.devices.specs.declared.source.Shelf as source
use Rattle.work_terms.specs.Disk.{Files, Rises}
use Rattle.work_terms.specs.Refusals.{Refusal, IndexFile, is_device}
use Rattle.list_terms.specs.Text.{text_value}
use Rattle.list_terms.specs.Names.{Place, place_of_url}
use Rattle.list_terms.specs.Project.{ListProject, Source}
use Rattle.list_terms.specs.Binding.{Binding, is_used}
use Rattle.list_terms.specs.Bound.{binding_of}
use Rattle.list_terms.specs.Accepted.{entry_fault, entry_refusal}
use Rattle.riff.specs.Fault as media
use Rattle.riff.specs.declared.fault.MediaFault.{MediaFault}
use Rattle.sound_terms.specs.Sounds.{SoundFacts}
use Rattle.wavread.specs.Facts.{sound_of_file}
use Rattle.sourceindex.specs.Fault.{file_at, name_of_source, refusal_of_source}
use Rattle.sourceindex.specs.declared.fault.SourceFault.TheVariants as of_source
use Rattle.opening.specs.Faults.{refusal_of}
use Rattle.opening.specs.Own.{OfText}
use Rattle.opening.specs.Paths.{naming_of, path_among}
use Rattle.opening.specs.declared.fault.Fault.{Fault}
use Rattle.opening.specs.declared.fault.Fault.TheVariants as fault
use Rattle.opening.specs.declared.further.Further.{Further}
use Rattle.opening.specs.declared.further.untold.Untold.{Untold}
use Rattle.opening.specs.declared.further.untold.Untold.TheVariants as untold
use Rattle.opening.specs.declared.further.paths.Naming.{Naming}
use Rattle.opening.specs.declared.further.paths.Naming.TheVariants.{First, Again, ByOtherPath}

-- fault of a single entry, unless it is the entry with this number
abbrev pub fault_beside : Binding → ℕ → Event → Option Refusal
fault_beside binding told event =
    if event.number == told then None else option_map (entry_refusal event) (entry_fault binding event)

-- faults of all entries except the one with this number
abbrev pub faults_beside : Binding → ℕ → List Event → List Refusal
faults_beside binding told = filter_map (fault_beside binding told)

-- locations of the files of the sources
abbrev pub places_of : List Source → List Place
places_of sources = filter_map (λ source. place_of_url source.url) sources

-- the sources that an entry uses
abbrev pub used_of : List Event → List Source → List Source
used_of events sources = filter (λ source. is_used events source.number) sources

-- fault of a single file
abbrev pub fault_of_file : Source → Result SoundFacts MediaFault → Option Refusal
fault_of_file source (Ok facts) = None
fault_of_file source (Err of) = Some (refusal_of_source source (of_source.Media of))

-- fault of a file named for the first time; 30 if an earlier source named it by another path
abbrev pub fault_of_name : Files → Source → Place → Naming → Option Refusal
fault_of_name files source place First = fault_of_file source (sound_of_file place.name (files place.name))
fault_of_name files source place Again = None
fault_of_name files source place ByOtherPath = Some (refusal_of (fault.SameName source.number))

-- fault of the file of a source, given the locations of the earlier sources
abbrev pub fault_behind : Files → List Place → Source → Option Place → Option Refusal
fault_behind files named source None = None
fault_behind files named source (Some place) =
    fault_of_name files source place (naming_of (path_among place.name named) place.path)

-- the fault reports a device failure for the source
abbrev pub IsDeviceOf : Source → Option Fault → Type 0
IsDeviceOf source (Some (fault.Media index name of)) =
    (file_at index name ≡ IndexFile source.number (name_of_source source)) × IsTrue (is_device (media.number_of of))
IsDeviceOf source _ = ⊥

-- a fault that may be reported for the file of a source at this location
abbrev pub IsFileTold : Files → Source → Place → Option Fault → Type 0
IsFileTold files source place told =
    (option_map refusal_of told ≡ fault_of_file source (sound_of_file place.name (files place.name)))
    ⊎ IsDeviceOf source told

-- a fault that may be reported for a source: the fault of its file, or a device failure
abbrev pub IsToldOf : Files → List Place → Source → Option Fault → Type 0
IsToldOf files named source told =
    (option_map refusal_of told ≡ fault_behind files named source (place_of_url source.url)) ⊎ IsDeviceOf source told

-- the faults that may be reported for these sources, in order, given the locations of the earlier sources
abbrev pub AreTold : Files → List Place → List Source → List Fault → Type 0
AreTold files named [] faults = faults ≡ []
AreTold files named (source ∷ behind) faults =
    (told : Option Fault) × (rest : List Fault) × (faults ≡ cons_option told rest)
    × IsToldOf files named source told × AreTold files (named ++ places_of (source ∷ [])) behind rest

-- number of sources up to and including the one with this number, or of all sources if there is none
abbrev pub count_up_to : ℕ → List Source → ℕ
count_up_to number sources =
    unwrap_or (option_map (λ place. place + 1) (position (λ source. source.number == number) sources)) (length sources)

-- faults of the files of the used sources after the source with this number, each file once
abbrev pub AreOfFiles : ListProject → Files → ℕ → List Fault → Type 0
AreOfFiles project files number faults =
    let count = count_up_to number project.sources in
    AreTold files (places_of (used_of project.events (take count project.sources)))
    (used_of project.events (drop count project.sources)) faults

-- faults of all entries of a bound project except the entry with this number
abbrev pub AreOfEntries : ListProject → Files → ℕ → List Fault → Type 0
AreOfEntries project files told faults =
    (binding : Binding) × (binding_of project files ≡ Ok binding)
    × (map refusal_of faults ≡ faults_beside binding told project.events)

-- the first `most` faults, and the number of the others
abbrev pub IsCut : (most : ℕ) → List Fault → Further → Type 0
IsCut most all further = (further.faults.items ≡ take most all) × (further.more ≡ length all - most)

-- all faults of the same stage as the first fault: text, files or entries
abbrev pub AreAll : List ℕ → Files → Fault → List Fault → Type 0
AreAll text files (fault.List first) all = all ≡ []
AreAll text files (fault.SameName index) all = OfText text (λ project. AreOfFiles project files index all)
AreAll text files (fault.Media index name first) all = OfText text (λ project. AreOfFiles project files index all)
AreAll text files (fault.Entry first) all = OfText text (λ project. AreOfEntries project files first.entry all)

-- the further faults to report after the first fault, at most `most`
abbrev pub AreFurther : (most : ℕ) → List ℕ → Files → Fault → Further → Type 0
AreFurther most text files first further = (all : List Fault) × AreAll text files first all × IsCut most all further

-- effect of reading a store: files and honesty are unchanged, and no recorded failure is lost
pub record WasRead {S : Type 0} (shelf : source.Ghosts S) (old new : S) : Type 0 where
  pub same : shelf.stored new ≡ shelf.stored old
  pub honest_same : shelf.honest new ≡ shelf.honest old
  pub later : shelf.failures old ≤ shelf.failures new
  pub keeps : (n : List ℕ) → shelf.failed_at old n → shelf.failed_at new n

-- whether one of these faults says that a device failed
abbrev pub names_device : List Fault → Bool
names_device faults = list_any (λ fault. is_device (refusal_of fault).number) faults

-- If one of these faults says that a device failed, the store counted a failure.
abbrev pub IsCounted : {S : Type 0} → source.Ghosts S → S → S → List Fault → Type 0
IsCounted shelf old new faults = names_device faults ≡ true → Rises (shelf.failures old) (shelf.failures new)

-- the text or one of its files is invalid
abbrev pub IsUnbound : List ℕ → Files → Type 0
IsUnbound text files =
    ((refusal : Refusal) × (text_value text ≡ Err refusal))
    ⊎ OfText text (λ project. (refusal : Refusal) × (binding_of project files ≡ Err refusal))

-- reasons why the list can't be read again: out of memory, or an invalid text
abbrev pub IsUnread : List ℕ → Untold → Type 0
IsUnread text untold.Memory = ⊤
IsUnread text untold.Device = ⊥
IsUnread text untold.NotFirst = (refusal : Refusal) × (text_value text ≡ Err refusal)

-- reasons for missing further faults: out of memory, a device failure, which is counted, or a fault of an earlier stage
-- than the entries
abbrev pub HasReason : {S : Type 0} → source.Ghosts S → List ℕ → S → S → Untold → Type 0
HasReason shelf text old new untold.Memory = ⊤
HasReason shelf text old new untold.Device = shelf.failures old + 1 < 2 ^ 64 → shelf.failures old < shelf.failures new
HasReason shelf text old new untold.NotFirst = IsTrue (shelf.honest old) → IsUnbound text (shelf.stored old)
