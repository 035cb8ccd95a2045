-- Refusals of binding.
use Rattle.std.specs.Prelude.{ℕ, List, [], false, Option, None, Some, option_map, string_bytes, unwrap_or}
use Rattle.std.specs.declared.string.String.{String}
use Rattle.std.specs.Global.{Global}
use Rattle.work_terms.specs.Refusals.{Refusal, Where, Index, IndexFile}
use Rattle.list_terms.specs.Project.{Source}
use Rattle.list_terms.specs.Names.{place_of_url}
use Rattle.riff.specs.Fault as media
use Rattle.sourceindex.specs.declared.fault.NamedFault.{NamedFault}
use Rattle.sourceindex.specs.declared.fault.SourceFault.{SourceFault}
use Rattle.sourceindex.specs.declared.fault.SourceFault.TheVariants as of_source
use Rattle.sourceindex.specs.declared.fault.BindFault.{BindFault}
use Rattle.sourceindex.specs.declared.fault.BindFault.TheVariants.{SameName, Media}

-- The name of the file that a source's URL gives.
abbrev pub name_of_source : Source → List ℕ
name_of_source source = unwrap_or (option_map (λ place. place.name) (place_of_url source.url)) []

-- The refusal of a source with this fault.
abbrev pub refusal_of_source : Source → SourceFault → Refusal
refusal_of_source source of_source.SameName = record { number = 30; location = Index source.number; late = false }
refusal_of_source source (of_source.Media fault) =
    record { number = media.number_of fault; location = IndexFile source.number (name_of_source source); late = false }

-- The project's fault, from an index's fault.
abbrev pub at_index : ℕ → NamedFault → BindFault
at_index index named = by_fault named.fault where
  by_fault : SourceFault → BindFault
  by_fault of_source.SameName = SameName index
  by_fault (of_source.Media fault) = Media index named.name fault

-- The location of a fault: an index and, if there was memory for it, the name of its file.
abbrev pub file_at : ℕ → Option (String Global) → Where
file_at index (Some name) = IndexFile index (string_bytes name)
file_at index None = Index index

-- The refusal of a project with this fault.
abbrev pub refusal_of : BindFault → Refusal
refusal_of (SameName index) = record { number = 30; location = Index index; late = false }
refusal_of (Media index name fault) =
    record { number = media.number_of fault; location = file_at index name; late = false }
