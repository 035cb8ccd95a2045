-- The source and the index that a fault of binding is about.
use Rattle.std.proofs.Common.{◌≡◌, ℕ, List, Ok, refl}
use Rattle.work_terms.specs.Disk.{Files}
use Rattle.list_terms.specs.Project.{ListProject}
use Rattle.list_terms.specs.Text.{text_value}
use Rattle.work_terms.specs.Refusals.{turn_of}
use Rattle.riff.specs.declared.fault.MediaFault.TheVariants.{NotFound, Device, NotWave, NoFormat, NoData, Truncated, BadFormat, BadDs64, WrongRate, Memory}
use Rattle.sourceindex.specs.Fault as binding
use Rattle.sourceindex.specs.declared.fault.BindFault.{BindFault}
use Rattle.sourceindex.specs.declared.fault.BindFault.TheVariants as bound
use Rattle.opening.specs.Own.{ComesFirst, IsFirst, IsOfBinding, IsOfOpening}
use Rattle.opening.specs.declared.fault.Fault.{Fault}
use Rattle.opening.specs.declared.fault.Fault.TheVariants as fault

pub opening_own : (text : List ℕ) (project : ListProject) (told : Fault) → text_value text ≡ Ok project
    → IsOfBinding project told → IsOfOpening text told
opening_own text project (fault.List list) spelt of = tt
opening_own text project (fault.Entry entry) spelt of = tt
opening_own text project (fault.SameName index) spelt of = (project, spelt, of)
opening_own text project (fault.Media index name media) spelt of = (project, spelt, of)

pub opening_first : (text : List ℕ) (files : Files) (project : ListProject) (told : Fault) → text_value text ≡ Ok project
    → ComesFirst project files told → IsFirst text files told
opening_first text files project (fault.List list) spelt first = tt
opening_first text files project (fault.Entry entry) spelt first = tt
opening_first text files project (fault.SameName index) spelt first = tt
opening_first text files project (fault.Media index name media) spelt first = (project, spelt, first)

-- a fault of binding belongs to stage 2
pub bound_turn : (told : BindFault) → turn_of (binding.refusal_of told) ≡ 2
bound_turn (bound.SameName index) = refl
bound_turn (bound.Media index name NotFound) = refl
bound_turn (bound.Media index name Device) = refl
bound_turn (bound.Media index name NotWave) = refl
bound_turn (bound.Media index name NoFormat) = refl
bound_turn (bound.Media index name NoData) = refl
bound_turn (bound.Media index name Truncated) = refl
bound_turn (bound.Media index name BadFormat) = refl
bound_turn (bound.Media index name BadDs64) = refl
bound_turn (bound.Media index name WrongRate) = refl
bound_turn (bound.Media index name Memory) = refl
