-- The meaning of a project's fault: its index, the source of that index, and the order of faults.
use Rattle.std.specs.Prelude.{◌≡◌, ℕ, true, List, ◌⊎◌, Option, None, Some, Ok, IsSome, slice_get, string_bytes, take}
use Rattle.std.specs.declared.string.String.{String}
use Rattle.std.specs.Global.{Global}
use Rattle.work_terms.specs.Disk.{Files}
use Rattle.work_terms.specs.Refusals.{Where, IndexFile}
use Rattle.list_terms.specs.Project.{ListProject, Source}
use Rattle.list_terms.specs.Names.{place_of_url}
use Rattle.list_terms.specs.Binding.{Binding, is_used, nothing_bound}
use Rattle.list_terms.specs.Bound.{with_sources}
use Rattle.riff.specs.declared.fault.MediaFault.{MediaFault}
use Rattle.riff.specs.declared.fault.MediaFault.TheVariants.{Memory}
use Rattle.sourceindex.specs.Fault.{name_of_source}
use Rattle.sourceindex.specs.declared.fault.BindFault.{BindFault}
use Rattle.sourceindex.specs.declared.fault.BindFault.TheVariants.{SameName, Media}

-- The source at this position has the number, and its URL names a file.
pub record IsSourceAt (project : ListProject) (place number : ℕ) : Type 0 where
  pub source : Source
  pub there : slice_get project.sources place ≡ Some source
  pub number_is : source.number ≡ number
  pub file : IsSome (place_of_url source.url)

-- An entry of the project names the index with this number, whose source is at this position.
pub record IsUsedAt (project : ListProject) (place number : ℕ) : Type 0 where
  pub at : IsSourceAt project place number
  pub used : is_used project.events number ≡ true

-- The name is the source's file name; it is missing only if out of memory.
abbrev pub IsNameOf : Source → Option (String Global) → MediaFault → Type 0
IsNameOf source (Some name) fault = string_bytes name ≡ name_of_source source
IsNameOf source None fault = fault ≡ Memory

-- The blamed index belongs to the project, and an entry names it unless out of memory.
abbrev pub IsOfProject : ListProject → BindFault → Type 0
IsOfProject project (SameName index) = (place : ℕ) × IsUsedAt project place index
IsOfProject project (Media index name fault) =
    ((place : ℕ) × (at : IsSourceAt project place index) × IsNameOf at.source name fault)
    × ((is_used project.events index ≡ true) ⊎ (fault ≡ Memory))

-- No index before the blamed one is faulty.
abbrev pub ComesFirst : ListProject → Files → BindFault → Type 0
ComesFirst project files (SameName index) = Unit {0}
ComesFirst project files (Media index name fault) =
    (place : ℕ) × IsSourceAt project place index
    × ((binding : Binding) × (with_sources files project.events nothing_bound (take place project.sources) ≡ Ok binding))

-- The location names a file with this property.
abbrev pub HoldsOfFile : (List ℕ → Type 0) → Where → Type 0
HoldsOfFile P (IndexFile index name) = P name
HoldsOfFile P _ = ⊥
