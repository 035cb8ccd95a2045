-- Results of comparing two lists, and effects on their sources.
use Rattle.std.specs.Prelude.{◌≡◌, ℕ, ◌<◌, ◌≤◌, IsTrue, List, Option, None, Some, Result, Ok, Err, IfOk, IfErr, IsErrAnd}
use Rattle.sampletime.specs.FrameRate.{frames_per_second}
use Rattle.devices.specs.declared.source.Shelf as source
use Rattle.devices.specs.Frame.{OnlyReads}
use Rattle.work_terms.specs.Disk.{Files}
use Rattle.work_terms.specs.Refusals.{IsDue, Refusal}
use Rattle.list_terms.specs.Project.{ListProject}
use Rattle.list_terms.specs.Binding.{Binding}
use Rattle.list_terms.specs.Heard.{IsAccepted, project_fault, project_mix}
use Rattle.list_terms.specs.Text.{text_value}
use Rattle.adlread.specs.Spells.{Spells}
use Rattle.comparison.specs.Range.{Extent, compared_in}
use Rattle.comparison.specs.Whole.{HasCompared, IsComparison}
use Rattle.comparison.specs.declared.range.Selection.{Selection}
use Rattle.opening.specs.Commands.{all_notices}
use Rattle.comparing.specs.CompareFault.{ForFirst, ForSecond, HoldsOfDevice, IsDevice, IsFirst, IsOfSums, IsOwn, OfFirst, OfSecond, refusal_of}
use Rattle.comparing.specs.declared.compare_fault.CompareFault.{CompareFault}
use Rattle.comparing.specs.declared.compare_fault.CompareFault.TheVariants.{EmptyRange, First, Second}
use Rattle.comparing.specs.declared.compare_call.Compared.{Compared}

-- Both lists are accepted, and the reported result is true of their exact sums within the selection. Times have the
-- format of the first list.
pub record Compares (text other : List ℕ) (selection : Selection) (files stored : Files) (reported : Compared) : Type 0
  where
    pub project : ListProject
    pub binding : Binding
    pub spelled : Spells text project
    pub accepted : IsAccepted text files project binding
    pub other_project : ListProject
    pub other_binding : Binding
    pub other_spelled : Spells other other_project
    pub other_accepted : IsAccepted other stored other_project other_binding
    pub compared : IsComparison selection (project_mix files project binding)
        (project_mix stored other_project other_binding) reported.comparison
    pub counted : HasCompared (compared_in selection project.events other_project.events) reported.comparison
    pub rate : frames_per_second reported.rate ≡ project.rate
    pub separators : reported.separators ≡ project.separators
    pub notices : reported.first_notices.items ≡ all_notices project binding
    pub other_notices : reported.second_notices.items ≡ all_notices other_project other_binding

-- the result agrees with the first list's first error: it is reported, and other results require that there is none
abbrev pub AnswersFirst : {X : Type 0} → Option Refusal → Result X CompareFault → Type 0
AnswersFirst due (Ok x) = due ≡ None
AnswersFirst due (Err (First fault)) = IsDue (refusal_of fault) due
AnswersFirst due (Err (Second fault)) = due ≡ None
AnswersFirst due (Err EmptyRange) = due ≡ None

-- the result agrees with the second list's first error, but errors of opening the first list take precedence
abbrev pub AnswersSecond : {X : Type 0} → Option Refusal → Result X CompareFault → Type 0
AnswersSecond due (Ok x) = due ≡ None
AnswersSecond due (Err (First fault)) = IsOfSums fault → due ≡ None
AnswersSecond due (Err (Second fault)) = IsDue (refusal_of fault) due
AnswersSecond due (Err EmptyRange) = due ≡ None

-- the result agrees with the range: there are sums exactly if it isn't empty
abbrev pub AnswersRange : {X : Type 0} → Extent → Result X CompareFault → Type 0
AnswersRange extent (Ok x) = extent.from < extent.to
AnswersRange extent (Err (First fault)) = IsOfSums fault → extent.from < extent.to
AnswersRange extent (Err (Second fault)) = IsOfSums fault → extent.from < extent.to
AnswersRange extent (Err EmptyRange) = extent.to ≤ extent.from

-- the error is an error of opening the first list, or this refusal of the second, or one that may replace it
abbrev pub RefusesSecond : Refusal → CompareFault → Type 0
RefusesSecond refusal (First fault) = ¬ IsOfSums fault
RefusesSecond refusal (Second fault) = IsDue (refusal_of fault) (Some refusal)
RefusesSecond refusal EmptyRange = ⊥

-- two lists were compared with this result, and the sources were only read
pub record IsComparing {S T : Type 0} (shelf : source.Ghosts S) (stock : source.Ghosts T) (list other : List ℕ)
    (selection : Selection) (old new : S) (other_old other_new : T) (result : Result Compared CompareFault) : Type 0
  where
    pub compared : IsTrue (shelf.honest old) → IsTrue (stock.honest other_old)
        → IfOk result (Compares list other selection (shelf.stored old) (stock.stored other_old))
    pub first_refusals : IsTrue (shelf.honest old) → AnswersFirst (project_fault list (shelf.stored old)) result
    pub second_refusals : IsTrue (stock.honest other_old)
        → AnswersSecond (project_fault other (stock.stored other_old)) result
    pub range : (project next : ListProject) → text_value list ≡ Ok project → text_value other ≡ Ok next
        → AnswersRange (compared_in selection project.events next.events) result
    -- a faulty text is refused, whatever the files are
    pub bad_first_text : (refusal : Refusal) → text_value list ≡ Err refusal
        → IsErrAnd result (OfFirst (λ fault. IsDue (refusal_of fault) (Some refusal)))
    pub bad_second_text : (refusal : Refusal) → text_value other ≡ Err refusal
        → IsErrAnd result (RefusesSecond refusal)
    pub first_own : IfErr result (ForFirst (IsOwn list))
    pub second_own : IfErr result (ForSecond (IsOwn other))
    pub first_in_turn : IsTrue (shelf.honest old) → IfErr result (ForFirst (IsFirst list (shelf.stored old)))
    pub second_in_turn : IsTrue (stock.honest other_old)
        → IfErr result (ForSecond (IsFirst other (stock.stored other_old)))
    pub first_read : OnlyReads shelf old new result (OfFirst IsDevice)
        (λ fault failed. OfFirst (λ of. HoldsOfDevice of failed) fault)
    pub second_read : OnlyReads stock other_old other_new result (OfSecond IsDevice)
        (λ fault failed. OfSecond (λ of. HoldsOfDevice of failed) fault)
