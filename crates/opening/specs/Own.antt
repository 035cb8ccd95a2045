-- Faults that may be reported when a list is opened.
use Rattle.std.specs.Prelude.{◌≡◌, ℕ, true, List, Ok}
use Rattle.list_terms.specs.Project.{ListProject}
use Rattle.work_terms.specs.Disk.{Files}
use Rattle.list_terms.specs.Binding.{is_used}
use Rattle.list_terms.specs.Text.{text_value}
use Rattle.sourceindex.specs.Own as binding
use Rattle.sourceindex.specs.declared.fault.BindFault.TheVariants as bound
use Rattle.opening.specs.declared.fault.Fault.{Fault}
use Rattle.opening.specs.declared.fault.Fault.TheVariants as fault

-- the text reads as this project
abbrev pub IsTextOf : List ℕ → ListProject → Type 0
IsTextOf text project = text_value text ≡ Ok project

-- P holds of the project that the text reads as
abbrev pub OfText : List ℕ → (ListProject → Type 0) → Type 0
OfText text P = (project : ListProject) × IsTextOf text project × P project

-- a fault of binding: at an index that an entry uses, or, if out of memory before that was known, at any index
abbrev pub IsOfBinding : ListProject → Fault → Type 0
IsOfBinding project (fault.SameName index) = is_used project.events index ≡ true
IsOfBinding project (fault.Media index name media) = binding.IsOfProject project (bound.Media index name media)
IsOfBinding project _ = ⊥

-- a fault of the text, of a file of the list, or of an entry
abbrev pub IsOfOpening : List ℕ → Fault → Type 0
IsOfOpening text (fault.List fault) = Unit {0}
IsOfOpening text (fault.Entry fault) = Unit {0}
IsOfOpening text (fault.SameName index) = OfText text (λ project. is_used project.events index ≡ true)
IsOfOpening text (fault.Media index name media) =
    OfText text (λ project. binding.IsOfProject project (bound.Media index name media))

-- no earlier index is faulty
abbrev pub ComesFirst : ListProject → Files → Fault → Type 0
ComesFirst project files (fault.Media index name media) =
    binding.ComesFirst project files (bound.Media index name media)
ComesFirst project files _ = Unit {0}

-- no earlier index of the project of this text is faulty
abbrev pub IsFirst : List ℕ → Files → Fault → Type 0
IsFirst text files (fault.Media index name media) =
    OfText text (λ project. ComesFirst project files (fault.Media index name media))
IsFirst text files _ = Unit {0}
