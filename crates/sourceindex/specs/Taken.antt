-- Adding one more source to a binding.
use Rattle.std.specs.Prelude.{◌≡◌, ◌+◌, ◌-◌, nat_lt, Bool, MatchBool, Option, None, Some, Result, Ok, Err, option_map, string_bytes, unwrap_or}
use Rattle.std.specs.declared.string.String.{String}
use Rattle.std.specs.Global.{Global}
use Rattle.sound_terms.specs.Sounds.{SoundFacts}
use Rattle.work_terms.specs.Refusals.{Refusal, is_excused}
use Rattle.list_terms.specs.Project.{Source}
use Rattle.list_terms.specs.Binding.{Binding, base_of}
use Rattle.riff.specs.declared.fault.MediaFault.TheVariants.{Memory}
use Rattle.sourceindex.specs.declared.fault.NamedFault.{NamedFault}
use Rattle.sourceindex.specs.declared.fault.SourceFault.{SourceFault}
use Rattle.sourceindex.specs.declared.fault.SourceFault.TheVariants.{Media}
use Rattle.sourceindex.specs.Fault.{name_of_source, refusal_of_source}

-- The outcome of adding a source: the expected binding or refusal; an out-of-memory or device failure is always
-- possible.
abbrev pub Takes : {X : Type 0} → Source → Result X SourceFault → Binding → Result Binding Refusal → Type 0
Takes source (Ok x) new due = due ≡ Ok new
Takes source (Err fault) new due =
    MatchBool (is_excused (refusal_of_source source fault).number) (Unit {0})
    (due ≡ Err (refusal_of_source source fault))

-- The outcome of adding a source, if its fault carries the name of the file.
abbrev pub TakesNamed : {X : Type 0} → Source → Result X NamedFault → Binding → Result Binding Refusal → Type 0
TakesNamed source (Ok x) new due = due ≡ Ok new
TakesNamed source (Err named) new due = Takes {X = Unit {0}} source (Err named.fault) new due

-- The name is the source's file name; it is missing only if out of memory.
abbrev pub IsNamedAs : Source → NamedFault → Type 0
IsNamedAs source named = by_name named.name where
  by_name : Option (String Global) → Type 0
  by_name (Some name) = string_bytes name ≡ name_of_source source
  by_name None = named.fault ≡ Media Memory

-- The file's TimeReference differs from the base of its index.
abbrev pub is_other_base : Source → SoundFacts → Bool
is_other_base source facts =
    nat_lt 0 (unwrap_or (option_map (λ reference.
    (reference - base_of source facts) + (base_of source facts - reference)) facts.time_reference) 0)
