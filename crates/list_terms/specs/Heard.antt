-- The sound of a list over files, the lists that are accepted, and the first fault of any other list.
use Rattle.std.specs.Prelude.{◌≡◌, ℕ, List, map, Option, None, Some, Result, Ok, Err, ℤ}
use Rattle.sound_terms.specs.Mix.{Reading, mix_at}
use Rattle.sound_terms.specs.Sounds.{SoundFacts, reading_by}
use Rattle.work_terms.specs.Disk.{Files}
use Rattle.work_terms.specs.Refusals.{Refusal}
use Rattle.list_terms.specs.Project.{ListProject}
use Rattle.list_terms.specs.Binding.{Binding}
use Rattle.list_terms.specs.Bound.{binding_of}
use Rattle.list_terms.specs.Accepted.{event_fault}
use Rattle.list_terms.specs.Text.{text_value}

-- The facts of the opened files of a binding.
abbrev pub sounds_of : Binding → List SoundFacts
sounds_of binding = map (λ file. file.facts) binding.files

-- The samples of the files of a binding.
abbrev pub reading_of : Files → Binding → Reading
reading_of files binding = reading_by files (sounds_of binding)

-- The sample of a bound project on a channel at a time.
abbrev pub project_mix : Files → ListProject → Binding → ℕ → ℕ → ℤ
project_mix files project binding channel time =
    mix_at (reading_of files binding) binding.indexes project.events channel time

-- A list without a fault over these files.
pub record IsAccepted (text : List ℕ) (files : Files) (project : ListProject) (binding : Binding) : Type 0 where
  pub spelt : text_value text ≡ Ok project
  pub bound : binding_of project files ≡ Ok binding
  pub checked : event_fault binding project.events ≡ None

-- The first fault of a list over these files: in its text, then in a file by index order, then in an entry by list
-- order.
abbrev pub bound_fault : ListProject → Result Binding Refusal → Option Refusal
bound_fault project (Err refusal) = Some refusal
bound_fault project (Ok binding) = event_fault binding project.events

-- The first fault after reading the text: the text's refusal, or the first fault of the project.
abbrev pub read_fault : Files → Result ListProject Refusal → Option Refusal
read_fault files (Err refusal) = Some refusal
read_fault files (Ok project) = bound_fault project (binding_of project files)

-- The first fault of a text over these files, if any.
abbrev pub project_fault : List ℕ → Files → Option Refusal
project_fault text files = read_fault files (text_value text)
